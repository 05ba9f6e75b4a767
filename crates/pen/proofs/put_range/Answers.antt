-- `pen::put_range` meets its contract. The invariant: what is left of the part, laid from here on, is as the whole laid at once. Assumes nothing.
use Rattle.std.proofs.Common.{◌≡◌, ◌≤◌, ◌⊎◌, inl, inr, [], ◌∷◌, take, drop, length, get_or, ap, arith, rules, List, ℕ, ◌-◌}
use Rattle.pen.specs.PenLaws.{left_first, left_last, part_more, part_end, part_past}
use Rattle.pen.proofs.Laying.{left_on, left_length}
use Rattle.pen.proofs.put_range.Goals as goal

pub loop-i-init : goal.loop-i-init
loop-i-init c = left_first _ _ _

pub put_byte-k-requires : goal.put_byte-k-requires
put_byte-k-requires c =
    let a = c.args in
    let l = c.loop-i in
    let m = part_more a.text.now l.i a.range.end.0 (omega arith) (omega arith) in
    omega (arith, c.requires, l.invariant.place, ap length m)

pub loop-i-preserved : goal.loop-i-preserved
loop-i-preserved c =
    let a = c.args in
    let l = c.loop-i in
    let m = part_more a.text.now l.i a.range.end.0 (omega arith) (omega arith) in
    left_on (get_or a.text.now l.i 0 ∷ []) _ l.invariant m c.put_byte-k.ensures

-- past the stop nothing of the part is left
over : (t : List ℕ) (i e : ℕ) → (e ≤ i) ⊎ (length t ≤ i) → take (e - i) (drop i t) ≡ []
over t i e (inl h) = part_end t i e h
over t i e (inr h) = part_past t i e h

pub returns : goal.returns
returns c =
    let l = c.loop-i in
    let h : (c.args.range.end.0 ≤ l.i) ⊎ (length c.args.text.now ≤ l.i) = search rules in
    left_last l.invariant (over c.args.text.now l.i c.args.range.end.0 h)
