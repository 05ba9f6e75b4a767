-- What is laid one after another is laid as one, told of a pen and of what is left. Rests on PenLaws and Pens. It stands here and not in specs/, so that
-- the edit of `over` is read.
use Rattle.std.specs.Prelude.{ℕ, ◌+◌, ◌≡◌, List, ◌++◌, length}
use Rattle.std.proofs.Common.{ap, sym, ◌∙◌, arith, length-append}
use Rattle.pen.specs.Pens.{over, Laid}
use Rattle.pen.specs.PenLaws.{over_length, over_on, Left}

-- A PEN that lays and goes on
pub laid_on : {old mid exit : List ℕ} {at m n : ℕ} (xs ys : List ℕ) → Laid old at xs m mid → Laid mid m ys n exit → Laid old at (xs ++ ys) n exit
laid_on {old} {mid} {exit} {at} {m} {n} xs ys a b =
    record {
      place = omega (arith, a.place, b.place, length-append xs ys);
      bytes = b.bytes ∙ (ap (λ l. over l m ys) a.bytes ∙ (ap (λ i. over (over old at xs) i ys) a.place ∙ over_on old at xs ys));
    }

-- WHAT IS LEFT, one part further
pub left_on : {old whole out out' rest : List ℕ} {at k k' : ℕ} (xs more : List ℕ) → Left old at whole out k rest → rest ≡ xs ++ more →
    Laid out k xs k' out' → Left old at whole out' k' more
left_on {out = out} {k = k} {k' = k'} xs more l e p =
    record {
      place = omega (arith, l.place, p.place, ap length e, length-append xs more);
      bytes =
          ap (λ o. over o k' more) p.bytes
          ∙ (ap (λ i. over (over out k xs) i more) p.place ∙ (over_on out k xs more ∙ (ap (over out k) (sym e) ∙ l.bytes)));
    }

-- the buffer stays as long
pub left_length : {old whole out rest : List ℕ} {at k : ℕ} → Left old at whole out k rest → length out ≡ length old
left_length {old} {whole} {out} {rest} {at} {k} l = sym (over_length out k rest) ∙ (ap length l.bytes ∙ over_length old at whole)
