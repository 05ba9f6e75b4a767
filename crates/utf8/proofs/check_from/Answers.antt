-- `utf8::check_from` meets its contract. The invariant: the well-formed sequences from `i` end where those from `at` do, since each turn passes
-- blocks of ASCII and one sequence more, and the bytes passed less those behind the first of their character, with the characters from `i` on, are the
-- count from `at` on; the loop stops where there is no sequence. The measure is what is left of the text. Assumes nothing.
use Prim.Native.Nat.{ℕ, ◌+◌, ◌-◌, ◌≤◌, ◌<◌}
use mathlib.Core.Path.{◌≡◌, sym, ◌∙◌, ap}
use mathlib.Core.List.{List}
use mathlib.Core.Logic.{inr}
use native.Mathlib.Omega.{arith}
use lib.ListN.{length, drop}
use Rattle.utf8.specs.Utf8.{sequence_at}
use Rattle.utf8.specs.Utf8Laws.{valid_end, valid_past, valid_least, valid_on, valid_end_lem, valid_room}
use Rattle.utf8.specs.CharLaws.{before_past}
use Rattle.utf8.specs.Blocks.{how_many, is_high, AsciiTo}
use Rattle.utf8.specs.CountLaws.{passed_on, valid_to, chars_to}
use Rattle.utf8.proofs.check_from.Invariants.{Lags, Stands, left}
use Rattle.utf8.proofs.check_from.Goals as goal

-- past blocks of ASCII
on_blocks : (t : List ℕ) (at i n j : ℕ) → Stands t at i n → i ≤ j → j ≤ length t → how_many is_high t i (j - i) ≡ 0 → Stands t at j (n + (j - i))
on_blocks t at i n j s l h z =
    let v = valid_to t i j l h z ∙ s.2 in
    let c = chars_to t (valid_end t at) i j l h (inr (omega (arith, valid_least t j, v))) z in
    (h, omega (arith, s.1), v, omega (arith, s.3, c))

-- past a sequence
on_sequence : (t : List ℕ) (at j n w : ℕ) → Stands t at j n → (sequence_at (drop j t)).width ≡ w → (w ≡ 0 → ⊥) → Stands t at (j + w) (n + 1)
on_sequence t at j n w s q z =
    let v = valid_on t j w q z ∙ s.2 in
    let e : j < valid_end t at = omega (arith, valid_least t (j + w), v, z) in
    (valid_room t j w q z, omega (arith, s.1, z), v, omega (arith, s.3, passed_on t j w q z (valid_end t at) e))

-- where there is none, all was counted
done : (t : List ℕ) (at j n : ℕ) → Stands t at j n → (sequence_at (drop j t)).width ≡ 0 → (j ≡ valid_end t at) × (n ≡ left t at at)
done t at j n s q =
    let v : j ≡ valid_end t at = sym (valid_end_lem t j q) ∙ s.2 in
    (v, omega (arith, s.3, ap length (before_past t (valid_end t at) j (omega (arith, v)))))

lags_blocks : (t : List ℕ) (at i j later : ℕ) → Lags t at i later → i ≤ j → j ≤ length t → how_many is_high t i (j - i) ≡ 0 → Lags t at j later
lags_blocks t at i j later s l h z =
    let e : i - at - later + (j - i) ≡ j - at - later = omega (arith, s.few) in
    record { few = omega (arith, s.few); stands = rw e at (on_blocks t at i (i - at - later) j s.stands l h z) }

-- a character of w bytes is one more
one_more_lem : (at later d j w : ℕ) → j ≡ at + later + d → 0 < w → d + 1 ≡ j + w - at - (later + (w - 1))
one_more_lem at later d j w e h =
    let a : j + w - at ≡ later + d + w = omega arith in
    let b : later + (w - 1) + (d + 1) ≡ later + d + w = omega arith in
    omega (arith, a, b)

few_more : (at later j w : ℕ) → at + later ≤ j → 0 < w → at + (later + (w - 1)) ≤ j + w
few_more at later j w h p = omega arith

lags_sequence : (t : List ℕ) (at j later w : ℕ) → Lags t at j later → (sequence_at (drop j t)).width ≡ w → (w ≡ 0 → ⊥) → Lags t at (j + w) (later + (w - 1))
lags_sequence t at j later w s q z =
    let p : 0 < w = omega (arith, z) in
    let e = one_more_lem at later (j - at - later) j w (omega (arith, s.few)) p in
    record { few = few_more at later j w s.few p; stands = rw e at (on_sequence t at j (j - at - later) w s.stands q z) }

-- past a turn of the loop
lags_turn : (t : List ℕ) (at i later j w : ℕ) → Lags t at i later → AsciiTo t i (length t) j → w ≡ (sequence_at (drop j t)).width → (w ≡ 0 → ⊥) → Lags t at (j + w) (later + (w - 1))
lags_turn t at i later j w s a q z = lags_sequence t at j later w (lags_blocks t at i j later s a.0 a.1 a.3) (sym q) z

pub returns-then-n-at : goal.returns-then-n-at
returns-then-n-at c =
    let a = c.args in
    let v = valid_past a.text.now a.at (omega (arith, c.if-n-at.true)) in
    (sym v, sym (ap length (before_past a.text.now (valid_end a.text.now a.at) a.at (omega (arith, v)))))

pub returns-then-w-eq0 : goal.returns-then-w-eq0
returns-then-w-eq0 c =
    let e = c.ascii_end-j.ensures in
    let s = lags_blocks _ _ c.loop-at.i c.ascii_end-j.result c.loop-at.later c.loop-at.invariant e.0 e.1 e.3 in
    done _ _ _ _ s.stands (sym c.sequence_width-w.ensures ∙ c.if-w-eq0.true)

pub overflow_add-later : goal.overflow_add-later
overflow_add-later c =
    let n = lags_turn _ _ c.loop-at.i c.loop-at.later _ _ c.loop-at.invariant c.ascii_end-j.ensures c.sequence_width-w.ensures c.if-w-eq0.false in
    omega (arith, n.few, n.stands.0)

pub overflow_add-i : goal.overflow_add-i
overflow_add-i c =
    let n = lags_turn _ _ c.loop-at.i c.loop-at.later _ _ c.loop-at.invariant c.ascii_end-j.ensures c.sequence_width-w.ensures c.if-w-eq0.false in
    omega (arith, n.stands.0)

pub loop-at-smaller : goal.loop-at-smaller
loop-at-smaller c =
    let n = lags_turn _ _ c.loop-at.i c.loop-at.later _ _ c.loop-at.invariant c.ascii_end-j.ensures c.sequence_width-w.ensures c.if-w-eq0.false in
    omega (arith, n.stands.0, c.if-w-eq0.false, c.ascii_end-j.ensures.0)

pub loop-at-preserved : goal.loop-at-preserved
loop-at-preserved c = lags_turn _ _ c.loop-at.i c.loop-at.later _ _ c.loop-at.invariant c.ascii_end-j.ensures c.sequence_width-w.ensures c.if-w-eq0.false
