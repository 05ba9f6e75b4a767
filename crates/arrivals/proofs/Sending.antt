-- The state's list, and a part with room for it or without. Rests on Calls.
use Prim.Native.Nat.{ℕ, ◌≤◌, ◌<◌}
use mathlib.Core.Path.{◌≡◌, refl, sym, ap, ◌∙◌}
use mathlib.Core.Bool.{Bool, true, false}
use mathlib.Core.List.{List, [], ◌∷◌}
use native.Mathlib.Omega.{arith}
use borrow.Author.Tests.{lt-ltb, le-ltb}
use lib.ListN.{length, set}
use lib.Seq.{sets-eq}
use Rattle.utf8.specs.Choice.{pick}
use Rattle.reading.specs.Written.{over}
use Rattle.uploads.specs.Parts.{is_unfit, part_number, part_state, part_buffer, Part}
use Rattle.uploads.specs.declared.Upload.{Upload}
use Rattle.uploads.specs.declared.Taken.{Taken}
use Rattle.arrivals.specs.Calls.{state_of, state_words, is_bare, Sent}

-- three numbers, set one after the other
pub three : (l : List ℕ) (u : Upload) {m : ℕ} → m ≡ pick u.over 1 0 → 3 ≤ length l → set (set (set l 0 u.count) 1 u.valid) 2 m ≡ over (state_words u) l
unfolding over state_words
three l u {m} e h = ap (set (set (set l 0 u.count) 1 u.valid) 2) e ∙ sets-eq (u.count ∷ u.valid ∷ pick u.over 1 0 ∷ []) l 0 h

-- a part's number says whether its state fits
unfit_is : (x : Bool) {n : ℕ} → n ≡ pick x 16 0 → (n ≡ 0 → ⊥) → x ≡ true
unfolding pick
unfit_is true e some = refl
unfit_is false e some = absurd (some e)

fit_is : (x : Bool) {n : ℕ} → n ≡ pick x 16 0 → n ≡ 0 → x ≡ false
unfolding pick
fit_is true e z = absurd (omega (arith, e, z))
fit_is false e z = refl

module _ (k b p : List ℕ) where
  -- without room for the state nothing is done
  pub bare : length k < 3 → Sent k k b b p 255
  unfolding is_bare pick
  bare h = record { number = rw (lt-ltb _ _ h); state = rw (lt-ltb _ _ h); buffer = rw (lt-ltb _ _ h) }

  module _ (room : 3 ≤ length k) {u : Upload} (e : u ≡ state_of k) {b' : List ℕ} {r : Taken} (x : Part u b b' p r) where
    full : is_bare k ≡ false
    unfolding is_bare
    full = le-ltb (length k) 3 room

    number_is : r.number ≡ part_number (state_of k) b
    number_is = x.number ∙ ap (λ (v : Upload). part_number v b) e

    buffer_is : b' ≡ part_buffer (state_of k) b p
    buffer_is = x.buffer ∙ ap (λ (v : Upload). part_buffer v b p) e

    -- a refusal changes no number of the state
    pub refused : (r.number ≡ 0 → ⊥) → Sent k k b b' p r.number
    unfolding part_number pick
    refused some = record { number = number_is ∙ rw full refl; state = rw (full, unfit_is (is_unfit (state_of k) b) number_is some); buffer = buffer_is ∙ rw full refl }

    -- a part that is not refused leaves what it leaves
    pub sent : r.number ≡ 0 → {k' : List ℕ} → k' ≡ over (state_words r.state) k → Sent k k' b b' p 0
    unfolding part_number pick
    sent zero w = record {
      number = sym zero ∙ number_is ∙ rw full refl;
      state = w ∙ ap (λ (v : Upload). over (state_words v) k) (x.state ∙ ap (λ (v : Upload). part_state v b p) e) ∙ rw (full, fit_is (is_unfit (state_of k) b) number_is zero) refl;
      buffer = buffer_is ∙ rw full refl;
    }
