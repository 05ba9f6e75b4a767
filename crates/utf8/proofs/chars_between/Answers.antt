-- `utf8::chars_between` meets its contract. The invariant: what was counted with the characters from `i` on is the count from `at` on, since each
-- turn passes blocks of ASCII and one character more; the loop stops at `end` or at the end of the text, where none is left. The measure is what
-- is left of the text. Assumes nothing.
use Rattle.std.proofs.Common.{ℕ, ◌+◌, ◌-◌, ◌≤◌, ◌≡◌, ◌⊎◌, inl, inr, List, length, sym, ap, arith, rules}
use Rattle.utf8.specs.Chars.{chars_of}
use Rattle.utf8.specs.CharLaws.{past_end, before_past, before_end}
use Rattle.utf8.specs.Blocks.{AsciiTo}
use Rattle.utf8.specs.CountLaws.{chars_to}
use Rattle.utf8.proofs.chars_between.Invariants.{Stands}
use Rattle.utf8.proofs.chars_between.Goals as goal

-- past the text there is no character
past : (t : List ℕ) (e i : ℕ) → (e ≤ i) ⊎ (length t ≤ i) → length (chars_of t i e) ≡ 0
past t e i (inl l) = ap length (before_past t e i l)
past t e i (inr l) = ap length (before_end t e i (past_end t i l))

-- past blocks of ASCII, which end by `stop`, so by `end`
on_blocks : (t : List ℕ) (at e stop i n j : ℕ) → stop ≤ e → Stands t at e i n → AsciiTo t i stop j → Stands t at e j (n + (j - i))
on_blocks t at e stop i n j m s a = (a.1, omega (arith, s.1, a.0), omega (arith, s.2, chars_to t e i j a.0 a.1 (by a.2) a.3))
  where
    by : (j ≡ i) ⊎ (j ≤ stop) → (j ≡ i) ⊎ (j ≤ e)
    by (inl q) = inl q
    by (inr l) = inr (omega arith)

pub returns-then-n-at : goal.returns-then-n-at
returns-then-n-at c =
    let a = c.args in
    (sym (past a.text.now a.end a.at (inr (omega arith))), omega arith)

pub returns-then-stop-j : goal.returns-then-stop-j
returns-then-stop-j c =
    let p = on_blocks _ _ c.args.end c.min-stop.result c.loop-at.i c.loop-at.chars c.ascii_end-j.result (omega arith) c.loop-at.invariant c.ascii_end-j.ensures in
    let over : (c.args.end ≤ c.ascii_end-j.result) ⊎ (length c.args.text.now ≤ c.ascii_end-j.result) = search rules in
    let z = past c.args.text.now c.args.end c.ascii_end-j.result over in
    (omega (arith, p.2, z), omega (arith, p.0, p.1))

pub loop-at-preserved : goal.loop-at-preserved
loop-at-preserved c =
    let p = on_blocks _ _ c.args.end c.min-stop.result c.loop-at.i c.loop-at.chars c.ascii_end-j.result (omega arith) c.loop-at.invariant c.ascii_end-j.ensures in
    let w = c.width_at.ensures in
    (w.1, omega (arith, p.1, w.0), omega (arith, p.2, w.2 c.args.end (omega arith)))
