-- What a run over the steps starts from and comes to: from the first cursor all pieces and all faults, and the records of these, put at
-- the front or added at the back, are the errors. Rests on Turns and reading's Lists.
use Rattle.std.specs.Prelude.{ℕ, ◌+◌, ◌≤◌, ◌≡◌, Bool, true, false, length}
use Rattle.std.proofs.Math.Path.{refl, sym, ap}
use Rattle.std.proofs.Common.{◌∙◌, arith, length-append}
use mathlib.Core.List.{List, [], ◌∷◌, ◌++◌, append_assoc, append-nil}
use Rattle.utf8.specs.Choice.{pick}
use Rattle.utf8.specs.ChoiceLaws.{pick_elim}
use Rattle.frame.specs.declared.Frame.{Frame}
use Rattle.frame.specs.declared.Mode.{Mode}
use Rattle.reading.specs.Steps.{reading}
use Rattle.reading.specs.Faults.{faults_of, Finding}
use Rattle.reading.specs.Records.{is_front, record_of}
use Rattle.reading.specs.Lists.{pieces, findings, found, errors, front_only, back_only, reversed, listed, records}
use Rattle.reading.specs.declared.Step.{Step}
use Rattle.reading.specs.declared.ErrorRecord.{ErrorRecord}
use Rattle.laws.specs.WalkLaws.{kept_start}
use Rattle.turns.specs.Turns.{Fresh, first_cursor, steps_at, pieces_at, faults_in, faults_at, Note, notes, posted}

-- from its first slot on, a step has all its faults
pub faults_first : (n : ℕ) (xs : List Step) → faults_in 0 n xs ≡ findings n xs
unfolding findings faults_of
faults_first n [] = refl
faults_first n (x ∷ xs) = refl

module _ (t : List ℕ) (f : Frame) (m : Mode) where
  -- from the first cursor on come all pieces
  pub first_pieces : pieces_at t f m (first_cursor t) ≡ pieces t f m
  unfolding pieces_at pieces reading
  first_pieces = refl

  -- and all findings
  pub first_faults : faults_at t f m (first_cursor t) 0 ≡ found t f m
  unfolding faults_at found reading
  first_faults = faults_first 0 (steps_at t f m (first_cursor t))

-- the first cursor of a text within the limit is one that a run has
pub fresh_first : (t : List ℕ) → length t ≤ 65535 → Fresh (first_cursor t)
fresh_first t h = (kept_start t h, omega (arith, h))

module _ (t : List ℕ) (f : Frame) where
  -- records of one list after another
  records_append : (xs ys : List Finding) → records t f (xs ++ ys) ≡ records t f xs ++ records t f ys
  unfolding records
  records_append [] ys = refl
  records_append (x ∷ xs) ys = ap (◌∷◌ (record_of t f x.piece x.fault)) (records_append xs ys)

  -- records that are put in front of a list, the last first, and those that are added at its back
  pub posted_listed : (es : List ErrorRecord) (xs : List Finding) →
      posted es (notes t f xs) ≡ records t f (reversed (front_only xs)) ++ (es ++ records t f (back_only xs))
  unfolding posted notes records reversed front_only back_only pick
  posted_listed es [] = sym (append-nil es)
  posted_listed es (x ∷ xs) = go (is_front x.fault) (λ l. posted_listed l xs)
    where
      r : ErrorRecord
      r = record_of t f x.piece x.fault

      go : (b : Bool) → ((l : List ErrorRecord) → posted l (notes t f xs) ≡ records t f (reversed (front_only xs)) ++ (l ++ records t f (back_only xs))) →
          posted (pick b (r ∷ es) (es ++ (r ∷ []))) (notes t f xs) ≡
          records t f (reversed (pick b (x ∷ front_only xs) (front_only xs))) ++ (es ++ records t f (pick b (back_only xs) (x ∷ back_only xs)))
      go true h = h (r ∷ es) ∙ sym (simp (records_append, append_assoc))
      go false h = h (es ++ (r ∷ [])) ∙ simp append_assoc

-- each record makes the list longer by one
pub posted_length : (es : List ErrorRecord) (ns : List Note) → length (posted es ns) ≡ length es + length ns
unfolding posted
posted_length es [] = omega arith
posted_length es (n ∷ ns) =
    pick_elim (λ (l : List ErrorRecord). length (posted l ns) ≡ length es + length (n ∷ ns)) n.front
    (λ _. omega (arith, posted_length (n.entry ∷ es) ns))
    (λ _. omega (arith, posted_length (es ++ (n.entry ∷ [])) ns, length-append es (n.entry ∷ [])))

-- THE ERRORS: front records the last first, then back records in order
pub posted_errors : (t : List ℕ) (f : Frame) (m : Mode) → posted [] (notes t f (found t f m)) ≡ errors t f m
unfolding errors listed
posted_errors t f m =
    let xs = found t f m in
    posted_listed t f [] xs ∙ sym (records_append t f (reversed (front_only xs)) (back_only xs))
