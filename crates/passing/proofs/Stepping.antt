-- What the step is, from the bytes there, and what is told of a placeholder as a step. Rests on Clear, After, Afters and quick's Tellings.
use Rattle.std.specs.Prelude.{Some}
use Prim.Native.Nat.{ℕ, ◌+◌, ◌≤◌, ◌<◌}
use mathlib.Core.Path.{◌≡◌, refl, sym, ap, ◌∙◌}
use mathlib.Core.Bool.{Bool, true, false, true≢false}
use mathlib.Core.List.{List, []}
use mathlib.Core.Logic.{inl, inr}
use native.Mathlib.Omega.{arith}
use borrow.Author.Tests.{ltb-true, ltb-false, lt-ltb, le-ltb, eqb-true, eqb-false, eq-eqb, ne_eqb}
use lib.Dec.{eqb, ltb}
use lib.ListN.{length, get_or, get_or-eq_default}
use Rattle.utf8.specs.Choice.{pick, either}
use Rattle.frame.specs.Places.{place, range_of}
use Rattle.frame.specs.declared.Frame.{Frame}
use Rattle.frame.specs.declared.Mode.{Mode}
use Rattle.scan.specs.Characters.{consumed, text_end}
use Rattle.scan.specs.ScanLaws.{is_at_byte, is_at_end, consumed_is, consumed_some}
use Rattle.closing.specs.Wholes.{placeholder_read}
use Rattle.reading.specs.Faults.{argument_slots, closing_slots, step_slots, wrong}
use Rattle.reading.specs.Steps.{state_of, after_open, after_close, step_at, onward}
use Rattle.reading.specs.declared.State.{State}
use Rattle.reading.specs.declared.Step.{Step}
use Rattle.quick.specs.Tellings.{next_of, blank_flaw, blanks_of, closing_of, told_read, in_mode, Tells, Flawless}
use Rattle.quick.specs.declared.PlaceholderTold.{PlaceholderTold}
use Rattle.passing.specs.After.{told_state}
use Rattle.passing.specs.Clear.{Doubled}
use Rattle.passing.proofs.Afters.{told_wants}

-- NOTHING IS WRONG in the step of what is told without a flaw
pub flawless_clean : (t : List ℕ) (f : Frame) (brace n : ℕ) (x : PlaceholderTold) → Flawless x → wrong (step_slots (Step.Placeholder (told_read t f brace n x))) ≡ []
unfolding step_slots told_read closing_of argument_slots closing_slots blanks_of blank_flaw wrong pick
flawless_clean t f brace n x p = rw (p.closed, p.placed, p.wide, p.typed)

-- and reading goes on after it
pub told_on : (t : List ℕ) (f : Frame) (s : State) (x : PlaceholderTold) {a : State} → a ≡ told_state s x →
    onward s (Step.Placeholder (told_read t f s.at.0 s.next x)) ≡ Some a
unfolding told_read told_state
told_on t f s x e =
    ap Some (ap (λ (w : ℕ). state_of (place x.on) (next_of s.next x) w) (told_wants t f s.at.0 s.next s.arguments x) ∙ sym e)

-- a byte that is not 0 stands within the text
byte_within : (t : List ℕ) (k : ℕ) → 0 < get_or t k 0 → k < length t
byte_within t k h = go (ltb k (length t)) refl
  where
    go : (b : Bool) → ltb k (length t) ≡ b → k < length t
    go true q = ltb-true _ _ q
    go false q = absurd (omega (arith, h, get_or-eq_default t 0 (ltb-false _ _ q)))

pub doubled_within : (t : List ℕ) (k : ℕ) → Doubled t k → k < length t
doubled_within t k (inl (e, g)) = byte_within t k (omega (arith, e))
doubled_within t k (inr (e, g)) = byte_within t k (omega (arith, e))

-- the same brace twice is a doubled one
pub brace_doubled : (t : List ℕ) (k : ℕ) → either (eqb (get_or t k 0) 0x7B) (eqb (get_or t k 0) 0x7D) ≡ true → get_or t (k + 1) 0 ≡ get_or t k 0 → Doubled t k
brace_doubled t k e d = go (eqb (get_or t k 0) 0x7B) refl
  where
    go : (b : Bool) → eqb (get_or t k 0) 0x7B ≡ b → Doubled t k
    go true q = let o = eqb-true _ _ q in inl (o, d ∙ o)
    go false q = let o = eqb-true _ _ (rw q at e) in inr (o, d ∙ o)

-- and neither of the two is no brace
pub no_brace : {b : ℕ} → either (eqb b 0x7B) (eqb b 0x7D) ≡ false → (b ≡ 0x7B → ⊥) × (b ≡ 0x7D → ⊥)
no_brace {b} e = go (eqb b 0x7B) refl
  where
    go : (x : Bool) → eqb b 0x7B ≡ x → (b ≡ 0x7B → ⊥) × (b ≡ 0x7D → ⊥)
    go true q = absurd (true≢false (rw q at e))
    go false q = (eqb-false _ _ q, eqb-false _ _ (rw q at e))

-- WHAT THE STEP IS
module _ (t : List ℕ) (f : Frame) (m : Mode) (s : State) where
  pub step_end : length t ≤ s.at.0 → Step.End ≡ step_at t f m s
  unfolding step_at pick
  step_end h = rw (le-ltb s.at.0 (length t) h)

  module _ (h : s.at.0 < length t) where
    brace_seen : (c : ℕ) → c < 0x80 → get_or t s.at.0 0 ≡ c → (consumed t s.at c).ate ≡ true
    brace_seen c l e = consumed_is t s.at c ∙ is_at_byte t s.at c l h ∙ eq-eqb _ _ e

    brace_not : (c : ℕ) → c < 0x80 → (get_or t s.at.0 0 ≡ c → ⊥) → (consumed t s.at c).ate ≡ false
    brace_not c l e = consumed_is t s.at c ∙ is_at_byte t s.at c l h ∙ ne_eqb _ _ e

    -- a byte that is no brace starts literal text
    pub step_literal : (get_or t s.at.0 0 ≡ 0x7B → ⊥) → (get_or t s.at.0 0 ≡ 0x7D → ⊥) → Step.Literal (range_of s.at (text_end t s.at)) ≡ step_at t f m s
    unfolding step_at pick
    step_literal o d = rw (lt-ltb s.at.0 (length t) h, brace_not 0x7B (omega arith) o, brace_not 0x7D (omega arith) d)

    -- an opening brace that is not doubled starts a placeholder
    pub step_open : get_or t s.at.0 0 ≡ 0x7B → (get_or t (s.at.0 + 1) 0 ≡ 0x7B → ⊥) →
        Step.Placeholder (placeholder_read t f m s.at (place (s.at.0 + 1)) s.next) ≡ step_at t f m s
    unfolding step_at after_open pick
    step_open e n =
        let y = brace_seen 0x7B (omega arith) e in
        let at : (consumed t s.at 0x7B).at ≡ place (s.at.0 + 1) = ap place (consumed_some t s.at 0x7B y) in
        rw (lt-ltb s.at.0 (length t) h, y, at, single (ltb (s.at.0 + 1) (length t)) refl)
      where
        single : (b : Bool) → ltb (s.at.0 + 1) (length t) ≡ b → (consumed t (place (s.at.0 + 1)) 0x7B).ate ≡ false
        single true q = consumed_is t (place (s.at.0 + 1)) 0x7B ∙ is_at_byte t (place (s.at.0 + 1)) 0x7B (omega arith) (ltb-true _ _ q) ∙ ne_eqb _ _ n
        single false q = consumed_is t (place (s.at.0 + 1)) 0x7B ∙ is_at_end t (place (s.at.0 + 1)) 0x7B (ltb-false _ _ q)

    -- a brace that is doubled is passed, and so is the second one
    module _ (c : ℕ) (l : c < 0x80) (some : 0 < c) (e : get_or t s.at.0 0 ≡ c) (g : get_or t (s.at.0 + 1) 0 ≡ c) where
      first_past : (consumed t s.at c).at ≡ place (s.at.0 + 1)
      first_past = ap place (consumed_some t s.at c (brace_seen c l e))

      second_ate : (consumed t (place (s.at.0 + 1)) c).ate ≡ true
      second_ate =
          consumed_is t (place (s.at.0 + 1)) c ∙ is_at_byte t (place (s.at.0 + 1)) c l (byte_within t (s.at.0 + 1) (omega (arith, g))) ∙ eq-eqb _ _ g

      second_past : (consumed t (place (s.at.0 + 1)) c).at ≡ place (s.at.0 + 2)
      second_past = let q : s.at.0 + 1 + 1 ≡ s.at.0 + 2 = omega arith in ap place (consumed_some t (place (s.at.0 + 1)) c second_ate ∙ q)

    -- a doubled brace is literal text, whose view starts at the second one
    pub step_doubled : Doubled t s.at.0 → Step.Literal (range_of (place (s.at.0 + 1)) (text_end t (place (s.at.0 + 2)))) ≡ step_at t f m s
    unfolding step_at after_open after_close pick
    step_doubled (inl (e, g)) =
        rw (
          lt-ltb s.at.0 (length t) h,
          brace_seen 0x7B (omega arith) e,
          first_past 0x7B (omega arith) (omega arith) e g,
          second_ate 0x7B (omega arith) (omega arith) e g,
          second_past 0x7B (omega arith) (omega arith) e g,
        )
    step_doubled (inr (e, g)) =
        rw (
          lt-ltb s.at.0 (length t) h,
          brace_not 0x7B (omega arith) (λ o. omega (arith, e, o)),
          brace_seen 0x7D (omega arith) e,
          first_past 0x7D (omega arith) (omega arith) e g,
          second_ate 0x7D (omega arith) (omega arith) e g,
          second_past 0x7D (omega arith) (omega arith) e g,
        )

-- and what is told is that placeholder
pub step_told : (t : List ℕ) (f : Frame) (m : Mode) (s : State) (x : PlaceholderTold) → s.at.0 < length t → get_or t s.at.0 0 ≡ 0x7B → (get_or t (s.at.0 + 1) 0 ≡ 0x7B → ⊥) →
    Tells t (s.at.0 + 1) x → in_mode m x.colon ≡ true → Step.Placeholder (told_read t f s.at.0 s.next x) ≡ step_at t f m s
step_told t f m s x h e n l z = sym (ap Step.Placeholder (l.read m z f s.at.0 s.next refl)) ∙ step_open t f m s h e n
