-- The walk over what a step found wrong: the records of those before a slot are noted, and the others are left. Rests on Noting, faults' Slots and
-- `laws`' FaultLaws.
use Prim.Native.Nat.{ℕ, ◌+◌, ◌≤◌, ◌<◌}
use mathlib.Core.Path.{◌≡◌, refl, sym, ap, subst, ◌∙◌}
use mathlib.Core.Bool.{false}
use mathlib.Core.List.{List, [], ◌∷◌, ◌++◌}
use native.Mathlib.Omega.{arith}
use lib.ListN.{drop, get_or, drop_of_length-le}
use Rattle.frame.specs.declared.Frame.{Frame}
use Rattle.reading.specs.Faults.{is_clean, step_slots, wrong, Finding}
use Rattle.laws.specs.FaultLaws.{wrong_slot, slots_few}
use Rattle.reading.specs.declared.Fault.{Fault}
use Rattle.reading.specs.declared.Step.{Step}
use Rattle.faults.specs.Slots.{FirstWrong}
use Rattle.writing.specs.StepsWritten.{noted_by, notes, noticed, Room, Notes}
use Rattle.writing.specs.declared.Extent.{Extent}
use Rattle.writing.proofs.Noting.{noticed_none, noticed_same, noticed_one, marked_slot, Left, left_first, left_on, left_room}

-- those before slot k are noted, and k is the first of the others that is not clean
pub record Walk (t : List ℕ) (f : Frame) (x : Step) (m : Extent) (es : List ℕ) (k : ℕ) (r : Extent) (es' : List ℕ) : Type 0 where
  pub pieces : r.pieces ≡ m.pieces
  pub left : Left t f (noted_by m es) (noticed m.pieces (step_slots x)) (noted_by r es') (noticed m.pieces (drop k (step_slots x)))
  pub found : k < 13 → is_clean (get_or (step_slots x) k Fault.Clean) ≡ false

-- those that are left, however they are said
abbrev Rest : List ℕ → Frame → Step → Extent → List ℕ → Extent → List ℕ → List Finding → Type 0
Rest t f x m es r es' rest = Left t f (noted_by m es) (noticed m.pieces (step_slots x)) (noted_by r es') rest

module _ (t : List ℕ) (f : Frame) {x : Step} {m : Extent} {es : List ℕ} {k : ℕ} where
  -- at the start
  pub walk_first : Room (noted_by m es) (noticed m.pieces (step_slots x)) → FirstWrong x 0 k → Walk t f x m es k m es
  walk_first r w =
      record {
        pieces = refl;
        left = subst (Rest t f x m es m es) (noticed_same m.pieces (step_slots x) (drop k (step_slots x)) w.skipped) (left_first t f r);
        found = w.found;
      }

  module _ {r : Extent} {es' : List ℕ} (w : Walk t f x m es k r es') where
    -- past the last slot all are noted
    pub walk_last : 13 ≤ k → Notes t f m es (step_slots x) r es'
    unfolding notes
    walk_last h =
        let none = drop_of_length-le (step_slots x) {i = k} (omega (arith, slots_few x)) in
        record { pieces = w.pieces; noted = rw (none, noticed_none m.pieces) at w.left.gives }

    module _ (h : k < 13) {y : Fault} (e : y ≡ get_or (step_slots x) k Fault.Clean) where
      -- the fault at the slot
      pub walk_wrong : is_clean y ≡ false
      walk_wrong = rw e (w.found h)

      -- is the next one
      walk_next : Rest t f x m es r es' (noticed m.pieces (y ∷ []) ++ noticed m.pieces (drop (k + 1) (step_slots x)))
      walk_next =
          let found : wrong (drop k (step_slots x)) ≡ y ∷ wrong (drop (k + 1) (step_slots x)) = rw e (wrong_slot (step_slots x) k (w.found h)) in
          subst (Rest t f x m es r es')
          (marked_slot m.pieces y (step_slots x) k walk_wrong found
          ∙ ap (λ (l : List Finding). l ++ noticed m.pieces (drop (k + 1) (step_slots x))) (sym (noticed_one m.pieces y walk_wrong)))
          w.left

      -- for which there is room
      pub walk_room : Room (noted_by r es') (noticed r.pieces (y ∷ []))
      walk_room =
          rw w.pieces (left_room t f (noticed m.pieces (y ∷ [])) (noticed m.pieces (drop (k + 1) (step_slots x))) walk_next)

      -- when it is noted the walk goes on
      pub walk_on : {j : ℕ} {r₂ : Extent} {es₂ : List ℕ} → Notes t f r es' (y ∷ []) r₂ es₂ → FirstWrong x (k + 1) j → Walk t f x m es j r₂ es₂
      walk_on {j} {r₂} {es₂} n d =
          record {
            pieces = n.pieces ∙ w.pieces;
            left =
                subst (Rest t f x m es r₂ es₂) (noticed_same m.pieces (drop (k + 1) (step_slots x)) (drop j (step_slots x)) d.skipped)
                (left_on t f (noticed m.pieces (y ∷ [])) walk_next (rw w.pieces at n.noted));
            found = d.found;
          }
