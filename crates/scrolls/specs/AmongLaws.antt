-- What stands in a list, and what holds of all that does: joined lists, what is wrong in some slots, findings with their number, as they are listed,
-- and their records. Rests on Faults and Lists, and on ListLaws for the faults of some findings.
use Rattle.std.specs.Prelude.{ℕ, ◌≡◌, refl, ◌⊎◌, Bool, List, [], ◌∷◌, ◌++◌}
use Rattle.std.proofs.Common.{sym, ap, subst, inl, inr, ⊎_elim}
use Rattle.std.proofs.Math.Bool.{true, false}
use Rattle.utf8.specs.Choice.{pick}
use Rattle.frame.specs.declared.Frame.{Frame}
use Rattle.reading.specs.Faults.{is_clean, wrong, Finding, marked}
use Rattle.reading.specs.Records.{is_front, record_of}
use Rattle.reading.specs.Lists.{front_only, back_only, reversed, listed, records}
use Rattle.reading.specs.declared.ErrorRecord.{ErrorRecord}
use Rattle.reading.specs.declared.Fault.{Fault}
use Rattle.laws.specs.ListLaws.{faults_in}

-- a thing stands in a list: it is the first, or it stands among the others
pub data Among {A : Type 0} (a : A) : List A → Type 0 where
  here : {x : A} {xs : List A} → a ≡ x → Among a (x ∷ xs)
  later : {x : A} {xs : List A} → Among a xs → Among a (x ∷ xs)

module _ {A : Type 0} where
  -- nothing stands in no list
  pub among_none : {a : A} → Among a [] → ⊥
  among_none m = elim m [ ]

  -- what stands in a list of one is that one
  pub among_only : {a x : A} → Among a (x ∷ []) → a ≡ x
  among_only (Among.here e) = e
  among_only (Among.later m) = absurd (among_none m)

  -- a thing of either list stands in both joined
  pub among_left : {a : A} {xs : List A} (ys : List A) → Among a xs → Among a (xs ++ ys)
  among_left ys (Among.here e) = Among.here e
  among_left ys (Among.later m) = Among.later (among_left ys m)

  pub among_right : {a : A} (xs : List A) {ys : List A} → Among a ys → Among a (xs ++ ys)
  among_right [] m = m
  among_right (x ∷ xs) m = Among.later (among_right xs m)

  -- and a thing of these stands in one of the two
  pub among_append : {a : A} (xs : List A) {ys : List A} → Among a (xs ++ ys) → Among a xs ⊎ Among a ys
  among_append [] m = inr m
  among_append (x ∷ xs) (Among.here e) = inl (Among.here e)
  among_append (x ∷ xs) (Among.later m) = ⊎_elim (λ l. inl (Among.later l)) (λ r. inr r) (among_append xs m)

  -- what stands in a part of a list stands in the list
  pub among_part : {a x : A} {xs ys : List A} → (Among a xs → Among a ys) → Among a (x ∷ xs) → Among a (x ∷ ys)
  among_part k (Among.here e) = Among.here e
  among_part k (Among.later m) = Among.later (k m)

  -- also where a test leaves the first out
  kept : {a x : A} {xs ys : List A} (b : Bool) → (Among a xs → Among a ys) → Among a (pick b (x ∷ xs) xs) → Among a (x ∷ ys)
  unfolding pick
  kept true k m = among_part k m
  kept false k m = Among.later (k m)

  passed : {a x : A} {xs ys : List A} (b : Bool) → (Among a xs → Among a ys) → Among a (pick b xs (x ∷ xs)) → Among a (x ∷ ys)
  unfolding pick
  passed true k m = Among.later (k m)
  passed false k m = among_part k m

-- WHAT HOLDS OF ALL that stands in a list
module _ {A : Type 0} (P : A → Type 0) where
  abbrev pub Every : List A → Type 0
  Every xs = (a : A) → Among a xs → P a

  pub every_none : Every []
  every_none a m = absurd (among_none m)

  pub every_more : {x : A} {xs : List A} → P x → Every xs → Every (x ∷ xs)
  every_more h k a (Among.here e) = subst P (sym e) h
  every_more h k a (Among.later m) = k a m

  pub every_append : (xs : List A) {ys : List A} → Every xs → Every ys → Every (xs ++ ys)
  every_append xs h k a m = ⊎_elim (λ l. h a l) (λ r. k a r) (among_append xs m)

-- a fault of some slots is one of the slots
pub among_wrong : {x : Fault} (xs : List Fault) → Among x (wrong xs) → Among x xs
unfolding wrong
among_wrong [] m = m
among_wrong (y ∷ ys) m = passed (is_clean y) (among_wrong ys) m

-- a finding that was marked has that number, and one of the faults
pub among_marked : {x : Finding} (n : ℕ) (xs : List Fault) → Among x (marked n xs) → (x.piece ≡ n) × Among x.fault xs
unfolding marked
among_marked n [] m = absurd (among_none m)
among_marked n (y ∷ ys) (Among.here e) = (ap (λ (z : Finding). z.piece) e, Among.here (ap (λ (z : Finding). z.fault) e))
among_marked n (y ∷ ys) (Among.later m) = let r = among_marked n ys m in (r.0, Among.later r.1)

-- the fault of a finding stands among the faults
pub among_fault : {x : Finding} {xs : List Finding} → Among x xs → Among x.fault (faults_in xs)
among_fault (Among.here e) = Among.here (ap (λ (z : Finding). z.fault) e)
among_fault (Among.later m) = Among.later (among_fault m)

-- a finding that is listed is one of those found
among_front : {x : Finding} (xs : List Finding) → Among x (front_only xs) → Among x xs
unfolding front_only
among_front [] m = m
among_front (y ∷ ys) m = kept (is_front y.fault) (among_front ys) m

among_back : {x : Finding} (xs : List Finding) → Among x (back_only xs) → Among x xs
unfolding back_only
among_back [] m = m
among_back (y ∷ ys) m = passed (is_front y.fault) (among_back ys) m

among_reversed : {x : Finding} (xs : List Finding) → Among x (reversed xs) → Among x xs
unfolding reversed
among_reversed [] m = m
among_reversed (y ∷ ys) m =
    ⊎_elim (λ l. Among.later (among_reversed ys l)) (λ r. among_part (λ none. absurd (among_none none)) r) (among_append (reversed ys) m)

pub among_listed : {x : Finding} (xs : List Finding) → Among x (listed xs) → Among x xs
unfolding listed
among_listed xs m = ⊎_elim (λ l. among_front xs (among_reversed (front_only xs) l)) (λ r. among_back xs r) (among_append (reversed (front_only xs)) m)

-- a record of some findings is the record of one of them
pub record Recorded (t : List ℕ) (f : Frame) (xs : List Finding) (e : ErrorRecord) : Type 0 where
  pub finding : Finding
  pub among : Among finding xs
  pub same : e ≡ record_of t f finding.piece finding.fault

pub among_records : (t : List ℕ) (f : Frame) {e : ErrorRecord} (xs : List Finding) → Among e (records t f xs) → Recorded t f xs e
unfolding records
among_records t f [] m = absurd (among_none m)
among_records t f (y ∷ ys) (Among.here e) = record { finding = y; among = Among.here refl; same = e }
among_records t f (y ∷ ys) (Among.later m) =
    let r = among_records t f ys m in
    record { finding = r.finding; among = Among.later r.among; same = r.same }
