-- Error records noted one after the other: each finding's part, the room they take, and what the list holds when all are noted.
-- Rests on StepsWritten, Overlays, words' LaidLaws and `laws`' FaultLaws and ListLaws.
use Prim.Native.Nat.{ℕ, suc, ◌+◌, ◌-◌, ◌*◌, ◌≤◌}
use mathlib.Core.Path.{◌≡◌, refl, sym, ap, ◌∙◌}
use mathlib.Core.Bool.{Bool, true, false}
use mathlib.Core.List.{List, [], ◌∷◌, ◌++◌, append_assoc, append-nil}
use native.Mathlib.Omega.{arith}
use borrow.Author.Tests.{eqb-true, eqb-false, eq-eqb, ne_eqb}
use lib.Dec.{eqb}
use lib.ListN.{length, drop, length-append}
use Rattle.utf8.specs.Choice.{pick}
use Rattle.frame.specs.declared.Frame.{Frame}
use Rattle.laws.specs.FaultLaws.{wrong_++}
use Rattle.laws.specs.ListLaws.{marked_append}
use Rattle.reading.specs.Faults.{is_clean, wrong, Finding, finding, marked}
use Rattle.reading.specs.Lists.{gather, front_only, back_only, reversed, records}
use Rattle.reading.specs.Records.{is_front, record_of}
use Rattle.reading.specs.declared.ErrorRecord.{ErrorRecord}
use Rattle.reading.specs.declared.Fault.{Fault}
use Rattle.words.specs.Laid.{laid}
use Rattle.words.specs.LaidLaws.{laid_length, laid_on, error_words_length}
use Rattle.words.specs.Layout.{error_words}
use Rattle.writing.specs.StepsWritten.{Noted, noted_by, at_back, at_front, counted, note, notes, noticed, Room, Notes, BackRoom, BackNotes}
use Rattle.writing.specs.declared.Extent.{Extent}
use Rattle.writing.proofs.Overlays.{laid_none, laid_before}

-- THE WRONG ONES of some slots, where so many pieces were listed
module _ (n : ℕ) where
  pub noticed_none : noticed n [] ≡ []
  unfolding noticed wrong marked
  noticed_none = refl

  pub noticed_append : (xs ys : List Fault) → noticed n (xs ++ ys) ≡ noticed n xs ++ noticed n ys
  unfolding noticed
  noticed_append xs ys = ap (marked n) (wrong_++ xs ys) ∙ marked_append n (wrong xs) (wrong ys)

  -- where the same are wrong
  pub noticed_same : (xs ys : List Fault) → wrong xs ≡ wrong ys → noticed n xs ≡ noticed n ys
  unfolding noticed
  noticed_same xs ys e = ap (marked n) e

  module _ (x : Fault) where
    pub noticed_clean : is_clean x ≡ true → noticed n (x ∷ []) ≡ []
    unfolding noticed wrong marked pick
    noticed_clean e = rw e

    pub noticed_more : (xs : List Fault) → is_clean x ≡ false → noticed n (x ∷ xs) ≡ finding n x ∷ noticed n xs
    unfolding noticed wrong marked pick
    noticed_more xs e = rw e

    pub noticed_one : is_clean x ≡ false → noticed n (x ∷ []) ≡ finding n x ∷ []
    noticed_one e = noticed_more [] e ∙ rw noticed_none

    -- the first of those from a slot on
    pub marked_slot : (xs : List Fault) (k : ℕ) → is_clean x ≡ false → wrong (drop k xs) ≡ x ∷ wrong (drop (k + 1) xs) →
        noticed n (drop k xs) ≡ (finding n x ∷ []) ++ noticed n (drop (k + 1) xs)
    unfolding noticed marked
    marked_slot xs k p e = ap (marked n) e

-- WHERE EACH GOES
module _ (x : Finding) (xs : List Finding) where
  pub front_more : is_front x.fault ≡ true → front_only (x ∷ xs) ≡ x ∷ front_only xs
  unfolding front_only pick
  front_more e = rw e

  pub front_same : is_front x.fault ≡ false → front_only (x ∷ xs) ≡ front_only xs
  unfolding front_only pick
  front_same e = rw e

  pub back_more : is_front x.fault ≡ false → back_only (x ∷ xs) ≡ x ∷ back_only xs
  unfolding back_only pick
  back_more e = rw e

  pub back_same : is_front x.fault ≡ true → back_only (x ∷ xs) ≡ back_only xs
  unfolding back_only pick
  back_same e = rw e

front_none : front_only [] ≡ []
unfolding front_only
front_none = refl

back_none : back_only [] ≡ []
unfolding back_only
back_none = refl

reversed_none : reversed [] ≡ []
unfolding reversed
reversed_none = refl

reversed_more : (x : Finding) (xs : List Finding) → reversed (x ∷ xs) ≡ reversed xs ++ (x ∷ [])
unfolding reversed
reversed_more x xs = refl

-- a finding's record
abbrev record_at : List ℕ → Frame → Finding → ErrorRecord
record_at t f x = record_of t f x.piece x.fault

-- WHAT A FINDING IS: one of the back, one of the front that has no place, one that has
data FindingCase (s : Noted) (x : Finding) : Type 0 where
  back : is_front x.fault ≡ false → FindingCase s x
  apart : is_front x.fault ≡ true → eqb s.low 0 ≡ true → FindingCase s x
  front : is_front x.fault ≡ true → eqb s.low 0 ≡ false → FindingCase s x

case_of : (s : Noted) (x : Finding) → FindingCase s x
case_of s x = go (is_front x.fault) refl (eqb s.low 0) refl
  where
    go : (b : Bool) → is_front x.fault ≡ b → (c : Bool) → eqb s.low 0 ≡ c → FindingCase s x
    go false q c r = FindingCase.back q
    go true q true r = FindingCase.apart q r
    go true q false r = FindingCase.front q r

module _ (t : List ℕ) (f : Frame) (s : Noted) (x : Finding) where
  pub note_back : is_front x.fault ≡ false → note t f s x ≡ at_back (record_at t f x) s
  unfolding note pick
  note_back q = rw q

  pub note_apart : is_front x.fault ≡ true → eqb s.low 0 ≡ true → note t f s x ≡ counted s
  unfolding note pick
  note_apart q r = rw (q, r)

  pub note_front : is_front x.fault ≡ true → eqb s.low 0 ≡ false → note t f s x ≡ at_front (record_at t f x) s
  unfolding note pick
  note_front q r = rw (q, r)

-- HOW MANY of each there are
module _ (x : Finding) (xs : List Finding) where
  pub front_fronts : is_front x.fault ≡ true → length (front_only (x ∷ xs)) ≡ suc (length (front_only xs))
  front_fronts q = rw (front_more x xs q)

  pub front_backs : is_front x.fault ≡ true → length (back_only (x ∷ xs)) ≡ length (back_only xs)
  front_backs q = rw (back_same x xs q)

  pub back_fronts : is_front x.fault ≡ false → length (front_only (x ∷ xs)) ≡ length (front_only xs)
  back_fronts q = rw (front_same x xs q)

  pub back_backs : is_front x.fault ≡ false → length (back_only (x ∷ xs)) ≡ suc (length (back_only xs))
  back_backs q = rw (back_more x xs q)

-- ROOM
module _ (t : List ℕ) (f : Frame) where
  module _ {s : Noted} (x : Finding) (xs : List Finding) (r : Room s (x ∷ xs)) where
    -- after a finding there is room for the others, and the list is as long
    room_kept : Room (note t f s x) xs × (length (note t f s x).list ≡ length s.list)
    room_kept = go (case_of s x)
      where
        go : FindingCase s x → Room (note t f s x) xs × (length (note t f s x).list ≡ length s.list)
        go (FindingCase.back q) =
            let e = error_words_length (record_at t f x) in
            let same = laid_length s.list (16 * s.high) (error_words (record_at t f x)) (omega (arith, r.back, back_backs x xs q)) in
            rw (note_back t f s x q) (
              record {
                back = omega (arith, r.back, back_backs x xs q);
                front = omega (arith, r.front);
                count = omega (arith, r.count, back_fronts x xs q);
              },
              same,
            )
        go (FindingCase.apart q z) =
            rw (note_apart t f s x q z) (
              record {
                back = omega (arith, r.back, front_backs x xs q);
                front = omega arith;
                count = omega (arith, r.count, front_fronts x xs q);
              },
              refl,
            )
        go (FindingCase.front q z) =
            let e = error_words_length (record_at t f x) in
            let some : s.low ≡ 0 → ⊥ = eqb-false s.low 0 z in
            let same = laid_length s.list (16 * (s.low - 1)) (error_words (record_at t f x)) (omega (arith, r.front)) in
            rw (note_front t f s x q z) (
              record {
                back = omega (arith, r.back, front_backs x xs q);
                front = omega (arith, r.front);
                count = omega (arith, r.count, front_fronts x xs q);
              },
              same,
            )

    pub room_next : Room (note t f s x) xs
    room_next = room_kept.0

    pub note_length : length (note t f s x).list ≡ length s.list
    note_length = room_kept.1

  -- those of joined lists are noted one list after the other
  pub notes_append : (s : Noted) (xs ys : List Finding) → notes t f s (xs ++ ys) ≡ notes t f (notes t f s xs) ys
  unfolding notes
  notes_append s [] ys = refl
  notes_append s (x ∷ xs) ys = notes_append (note t f s x) xs ys

  pub notes_none : (s : Noted) → notes t f s [] ≡ s
  unfolding notes
  notes_none s = refl

  pub notes_one : (s : Noted) (x : Finding) → notes t f s (x ∷ []) ≡ note t f s x
  unfolding notes
  notes_one s x = refl

  -- the list stays as long
  pub notes_length : (s : Noted) (xs : List Finding) → Room s xs → length (notes t f s xs).list ≡ length s.list
  unfolding notes
  notes_length s [] r = refl
  notes_length s (x ∷ xs) r = notes_length (note t f s x) xs (room_next x xs r) ∙ note_length x xs r

  -- and after some there is room for the others
  pub room_after : (s : Noted) (xs ys : List Finding) → Room s (xs ++ ys) → Room (notes t f s xs) ys
  unfolding notes
  room_after s [] ys r = r
  room_after s (x ∷ xs) ys r = room_after (note t f s x) xs ys (room_next x (xs ++ ys) r)

-- THE FIRST OF THEM
front_append : (xs ys : List Finding) → front_only (xs ++ ys) ≡ front_only xs ++ front_only ys
unfolding front_only
front_append [] ys = refl
front_append (x ∷ xs) ys = go (is_front x.fault) refl (front_append xs ys)
  where
    go : (c : Bool) → is_front x.fault ≡ c → front_only (xs ++ ys) ≡ front_only xs ++ front_only ys → front_only (x ∷ (xs ++ ys)) ≡ front_only (x ∷ xs) ++ front_only ys
    go true p e = rw (front_more x (xs ++ ys) p, front_more x xs p) (ap (λ (l : List Finding). x ∷ l) e)
    go false p e = rw (front_same x (xs ++ ys) p, front_same x xs p) e

back_append : (xs ys : List Finding) → back_only (xs ++ ys) ≡ back_only xs ++ back_only ys
unfolding back_only
back_append [] ys = refl
back_append (x ∷ xs) ys = go (is_front x.fault) refl (back_append xs ys)
  where
    go : (c : Bool) → is_front x.fault ≡ c → back_only (xs ++ ys) ≡ back_only xs ++ back_only ys → back_only (x ∷ (xs ++ ys)) ≡ back_only (x ∷ xs) ++ back_only ys
    go true p e = rw (back_same x (xs ++ ys) p, back_same x xs p) e
    go false p e = rw (back_more x (xs ++ ys) p, back_more x xs p) (ap (λ (l : List Finding). x ∷ l) e)

-- room for all is room for the first: for those of the back, and for any
pub back_before : (high : ℕ) (es : List ℕ) (xs ys : List Finding) → BackRoom high es (xs ++ ys) → BackRoom high es xs
back_before high es xs ys r = omega (arith, r, ap length (back_append xs ys), length-append (back_only xs) (back_only ys))

pub room_before : {s : Noted} (xs ys : List Finding) → Room s (xs ++ ys) → Room s xs
room_before {s} xs ys r =
    record {
      back = back_before s.high s.list xs ys r.back;
      front = r.front;
      count = omega (arith, r.count, ap length (front_append xs ys), length-append (front_only xs) (front_only ys));
    }

-- SOME ARE LEFT: with them noted too the list and its extent are as they are to be, and there is room for them
pub record Left (t : List ℕ) (f : Frame) (s : Noted) (all : List Finding) (r : Noted) (rest : List Finding) : Type 0 where
  pub gives : notes t f r rest ≡ notes t f s all
  pub room : Room r rest
  pub same : length r.list ≡ length s.list

module _ (t : List ℕ) (f : Frame) {s : Noted} {all : List Finding} where
  -- at the start
  pub left_first : Room s all → Left t f s all s all
  left_first r = record { gives = refl; room = r; same = refl }

  module _ {r r' : Noted} where
    -- the first of them are noted, and the others are left
    pub left_on : (xs : List Finding) {ys : List Finding} → Left t f s all r (xs ++ ys) → r' ≡ notes t f r xs → Left t f s all r' ys
    left_on xs {ys} l e =
        record {
          gives = rw e (sym (notes_append t f r xs ys) ∙ l.gives);
          room = rw e (room_after t f r xs ys l.room);
          same = rw e (notes_length t f r xs (room_before xs ys l.room) ∙ l.same);
        }

  -- there is room for the first of them
  pub left_room : {r : Noted} (xs ys : List Finding) → Left t f s all r (xs ++ ys) → Room r xs
  left_room xs ys l = room_before xs ys l.room

-- ONE FAULT, as it is written
module _ (t : List ℕ) (f : Frame) (m : Extent) (es : List ℕ) (x : Fault) where
  pub put_clean : is_clean x ≡ true → Notes t f m es (x ∷ []) m es
  put_clean p = record { pieces = refl; noted = sym (rw (noticed_clean m.pieces x p) (notes_none t f (noted_by m es))) }

  module _ (p : is_clean x ≡ false) where
    abbrev one : Finding
    one = finding m.pieces x

    -- it is noted as it is alone
    noted_one : notes t f (noted_by m es) (noticed m.pieces (x ∷ [])) ≡ note t f (noted_by m es) one
    noted_one = rw (noticed_one m.pieces x p) (notes_one t f (noted_by m es) one)

    pub room_back : is_front x ≡ false → Room (noted_by m es) (noticed m.pieces (x ∷ [])) → 16 * m.high + 16 ≤ length es
    room_back q r = omega (arith, rw (noticed_one m.pieces x p) at r.back, back_backs one [] q)

    pub put_back : is_front x ≡ false → {es' : List ℕ} → es' ≡ laid es (16 * m.high) (error_words (record_of t f m.pieces x)) →
        Notes t f m es (x ∷ []) (record { pieces = m.pieces; low = m.low; high = m.high + 1; fronts = m.fronts }) es'
    put_back q o = record { pieces = refl; noted = rw o (sym (noted_one ∙ note_back t f (noted_by m es) one q)) }

    pub put_front : is_front x ≡ true → (m.low ≡ 0 → ⊥) → {es' : List ℕ} → es' ≡ laid es (16 * (m.low - 1)) (error_words (record_of t f m.pieces x)) →
        Notes t f m es (x ∷ []) (record { pieces = m.pieces; low = m.low - 1; high = m.high; fronts = m.fronts + 1 }) es'
    put_front q n o = record { pieces = refl; noted = rw o (sym (noted_one ∙ note_front t f (noted_by m es) one q (ne_eqb m.low 0 n))) }

    pub put_apart : is_front x ≡ true → m.low ≡ 0 → Notes t f m es (x ∷ []) (record { pieces = m.pieces; low = 0; high = m.high; fronts = m.fronts + 1 }) es
    put_apart q n = record { pieces = refl; noted = sym (noted_one ∙ note_apart t f (noted_by m es) one q (eq-eqb m.low 0 n)) }

-- SOME AND THEN OTHERS, as they are written
module _ (t : List ℕ) (f : Frame) {m m₁ : Extent} {es es₁ : List ℕ} (xs ys : List Fault) (n₁ : Notes t f m es xs m₁ es₁) where
  pub notes_then : {m₂ : Extent} {es₂ : List ℕ} → Notes t f m₁ es₁ ys m₂ es₂ → Notes t f m es (xs ++ ys) m₂ es₂
  notes_then n₂ =
      record {
        pieces = n₂.pieces ∙ n₁.pieces;
        noted =
            n₂.noted
            ∙ rw (n₁.noted, n₁.pieces)
            (sym (ap (notes t f (noted_by m es)) (noticed_append m.pieces xs ys) ∙ notes_append t f (noted_by m es) (noticed m.pieces xs) (noticed m.pieces ys)));
      }

  -- for which there is room
  pub room_then : Room (noted_by m es) (noticed m.pieces (xs ++ ys)) → Room (noted_by m₁ es₁) (noticed m₁.pieces ys)
  room_then r =
      rw (n₁.noted, n₁.pieces)
      (room_after t f (noted_by m es) (noticed m.pieces xs) (noticed m.pieces ys) (rw (noticed_append m.pieces xs ys) at r))

-- SOME OF THE BACK, wherever those of the front begin
abbrev at : ℕ → List ℕ → ℕ → ℕ → Noted
at high es low fronts = record { low = low; high = high; fronts = fronts; list = es }

module _ (t : List ℕ) (f : Frame) (high : ℕ) (es : List ℕ) (n : ℕ) (x : Fault) where
  pub back_clean : is_clean x ≡ true → BackNotes t f high es (noticed n (x ∷ [])) high es
  back_clean p = record { noted = λ low fronts. sym (rw (noticed_clean n x p) (notes_none t f (at high es low fronts))) }

  -- one that is wrong goes after those that are written
  module _ (p : is_clean x ≡ false) (q : is_front x ≡ false) where
    pub back_one : {es' : List ℕ} → es' ≡ laid es (16 * high) (error_words (record_of t f n x)) → BackNotes t f high es (noticed n (x ∷ [])) (high + 1) es'
    back_one o =
        record {
          noted =
              λ low fronts.
              rw o
              (sym
              (rw (noticed_one n x p)
              (notes_one t f (at high es low fronts) (finding n x) ∙ note_back t f (at high es low fronts) (finding n x) q)));
        }

    pub back_room : BackRoom high es (noticed n (x ∷ [])) → 16 * high + 16 ≤ length es
    back_room r = omega (arith, rw (noticed_one n x p) at r, back_backs (finding n x) [] q)

module _ (t : List ℕ) (f : Frame) {high high₁ : ℕ} {es es₁ : List ℕ} where
  -- some, and then others
  pub backs_then : (xs ys : List Finding) → BackNotes t f high es xs high₁ es₁ → {high₂ : ℕ} {es₂ : List ℕ} → BackNotes t f high₁ es₁ ys high₂ es₂ →
      BackNotes t f high es (xs ++ ys) high₂ es₂
  backs_then xs ys n₁ n₂ =
      record {
        noted =
            λ low fronts.
            n₂.noted low fronts
            ∙ ap (λ (s : Noted). notes t f s ys) (n₁.noted low fronts)
            ∙ sym (notes_append t f (at high es low fronts) xs ys);
      }

  -- after one there is room for the others
  pub back_after : (n : ℕ) (x : Fault) (xs : List Finding) → is_front x ≡ false → BackRoom high es (noticed n (x ∷ []) ++ xs) →
      BackNotes t f high es (noticed n (x ∷ [])) high₁ es₁ → BackRoom high₁ es₁ xs
  back_after n x xs q r k = go (is_clean x) refl (k.noted 0 0)
    where
      go : (b : Bool) → is_clean x ≡ b → at high₁ es₁ 0 0 ≡ notes t f (at high es 0 0) (noticed n (x ∷ [])) → BackRoom high₁ es₁ xs
      go true p e =
          let o : at high₁ es₁ 0 0 ≡ at high es 0 0 = e ∙ rw (noticed_clean n x p) (notes_none t f (at high es 0 0)) in
          omega (arith, rw (noticed_clean n x p) at r, ap (λ (o : Noted). o.high) o, ap (λ (o : Noted). length o.list) o)
      go false p e =
          let y = finding n x in
          let o : at high₁ es₁ 0 0 ≡ at_back (record_at t f y) (at high es 0 0) =
          e ∙ rw (noticed_one n x p) (notes_one t f (at high es 0 0) y ∙ note_back t f (at high es 0 0) y q)
          in
          let w = error_words_length (record_at t f y) in
          let room = rw (noticed_one n x p) at r in
          let b = back_backs y xs q in
          let same = laid_length es (16 * high) (error_words (record_at t f y)) (omega (arith, room)) in
          omega (arith, room, same, ap (λ (o : Noted). o.high) o, ap (λ (o : Noted). length o.list) o)

-- ALL OF THEM: the numbers of some findings' records
unfoldable pub in_words : List ℕ → Frame → List Finding → List ℕ
in_words t f xs = gather error_words (records t f xs)

module _ (t : List ℕ) (f : Frame) where
  pub words_more : (x : Finding) (xs : List Finding) → in_words t f (x ∷ xs) ≡ error_words (record_at t f x) ++ in_words t f xs
  unfolding in_words records gather
  words_more x xs = refl

  pub words_none : in_words t f [] ≡ []
  unfolding in_words records gather
  words_none = refl

  words_one : (x : Finding) → in_words t f (x ∷ []) ≡ error_words (record_at t f x)
  words_one x = words_more x [] ∙ rw words_none (append-nil (error_words (record_at t f x)))

  pub words_append : (xs ys : List Finding) → in_words t f (xs ++ ys) ≡ in_words t f xs ++ in_words t f ys
  words_append [] ys = rw words_none
  words_append (x ∷ xs) ys =
      rw (words_more x (xs ++ ys), words_more x xs, words_append xs ys) (sym (append_assoc (error_words (record_at t f x)) (in_words t f xs) (in_words t f ys)))

  pub words_length : (xs : List Finding) → length (in_words t f xs) ≡ 16 * length xs
  words_length [] = omega (arith, ap length words_none)
  words_length (x ∷ xs) =
      omega (
        arith,
        ap length (words_more x xs),
        length-append (error_words (record_at t f x)) (in_words t f xs),
        error_words_length (record_at t f x),
        words_length xs,
      )

  -- WITH NO ROOM BEFORE THEM those of the back are written, and those of the front are counted
  pub record Counted (s : Noted) (xs : List Finding) (r : Noted) : Type 0 where
    pub high : r.high ≡ s.high + length (back_only xs)
    pub fronts : r.fronts ≡ s.fronts + length (front_only xs)
    pub list : r.list ≡ laid s.list (16 * s.high) (in_words t f (back_only xs))

  pub notes_counted : (s : Noted) (xs : List Finding) → s.low ≡ 0 → Room s xs → Counted s xs (notes t f s xs)
  unfolding notes front_only back_only
  notes_counted s [] z r =
      record {
        high = omega arith;
        fronts = omega arith;
        list = sym (rw words_none (laid_none s.list (16 * s.high)));
      }
  notes_counted s (x ∷ xs) z r = go (case_of s x) (λ z'. notes_counted (note t f s x) xs z' (room_next t f x xs r))
    where
      go : FindingCase s x → ((note t f s x).low ≡ 0 → Counted (note t f s x) xs (notes t f (note t f s x) xs)) → Counted s (x ∷ xs) (notes t f (note t f s x) xs)
      go (FindingCase.back q) i =
          let e = note_back t f s x q in
          let k = i (ap (λ (o : Noted). o.low) e ∙ z) in
          let w = error_words (record_at t f x) in
          let n = error_words_length (record_at t f x) in
          let high = ap (λ (o : Noted). o.high) e in
          let next : 16 * (s.high + 1) ≡ 16 * s.high + length w = omega arith in
          record {
            high = omega (arith, k.high, high, back_backs x xs q);
            fronts = omega (arith, k.fronts, ap (λ (o : Noted). o.fronts) e, back_fronts x xs q);
            list =
                k.list
                ∙ rw (e, next, back_more x xs q, words_more x (back_only xs))
                (laid_on s.list (16 * s.high) w (in_words t f (back_only xs)) (omega (arith, words_length (back_only xs), r.back, back_backs x xs q)));
          }
      go (FindingCase.apart q y) i =
          let e = note_apart t f s x q y in
          let k = i (ap (λ (o : Noted). o.low) e) in
          record {
            high = omega (arith, k.high, ap (λ (o : Noted). o.high) e, front_backs x xs q);
            fronts = omega (arith, k.fronts, ap (λ (o : Noted). o.fronts) e, front_fronts x xs q);
            list = rw (back_same x xs q) (k.list ∙ rw e);
          }
      go (FindingCase.front q y) i = absurd (eqb-false s.low 0 y z)

  -- WITH ROOM BEFORE THEM each goes to its place: some are written from the low end to the high one, and the others go before and after them
  pub notes_placed : (base : List ℕ) (ys : List Finding) (s : Noted) (xs : List Finding) →
      s.list ≡ laid base (16 * s.low) (in_words t f ys) → s.high ≡ s.low + length ys → length (front_only xs) ≤ s.low →
      16 * (s.high + length (back_only xs)) ≤ length base →
      (notes t f s xs).list ≡ laid base (16 * (s.low - length (front_only xs))) (in_words t f (reversed (front_only xs) ++ (ys ++ back_only xs)))
  unfolding notes
  notes_placed base ys s [] e h l r =
      let k : s.low - 0 ≡ s.low = omega arith in
      rw (front_none, back_none, reversed_none, k, append-nil) e
  notes_placed base ys s (x ∷ xs) e h l r =
      go (case_of s x) (λ zs. notes_placed base zs (note t f s x) xs)
    where
      go : FindingCase s x →
          ((zs : List Finding) → (note t f s x).list ≡ laid base (16 * (note t f s x).low) (in_words t f zs) → (note t f s x).high ≡ (note t f s x).low + length zs →
          length (front_only xs) ≤ (note t f s x).low → 16 * ((note t f s x).high + length (back_only xs)) ≤ length base →
          (notes t f (note t f s x) xs).list ≡ laid base (16 * ((note t f s x).low - length (front_only xs))) (in_words t f (reversed (front_only xs) ++ (zs ++ back_only xs)))) →
          (notes t f (note t f s x) xs).list ≡ laid base (16 * (s.low - length (front_only (x ∷ xs)))) (in_words t f (reversed (front_only (x ∷ xs)) ++ (ys ++ back_only (x ∷ xs))))
      go (FindingCase.back q) i =
          let n = note_back t f s x q in
          let w = error_words (record_at t f x) in
          let c = error_words_length (record_at t f x) in
          let d = words_length ys in
          let low = ap (λ (o : Noted). o.low) n in
          let high = ap (λ (o : Noted). o.high) n in
          let a = back_fronts x xs q in
          let b = back_backs x xs q in
          let j : 16 * s.high ≡ 16 * s.low + length (in_words t f ys) = omega arith in
          let list : (note t f s x).list ≡ laid base (16 * s.low) (in_words t f (ys ++ (x ∷ []))) =
          ap (λ (o : Noted). o.list) n
          ∙ rw (e, j, words_append ys (x ∷ []), words_one x) (laid_on base (16 * s.low) (in_words t f ys) w (omega arith))
          in
          rw (front_same x xs q, back_more x xs q)
          (i (ys ++ (x ∷ [])) (list ∙ rw low) (omega (arith, length-append ys (x ∷ []))) (omega arith) (omega arith)
          ∙ rw (low, append_assoc ys (x ∷ []) (back_only xs)))
      go (FindingCase.apart q y) i = let z = eqb-true s.low 0 y in let a = front_fronts x xs q in absurd (omega arith)
      go (FindingCase.front q y) i =
          let n = note_front t f s x q y in
          let w = error_words (record_at t f x) in
          let c = error_words_length (record_at t f x) in
          let d = words_length ys in
          let some = eqb-false s.low 0 y in
          let low = ap (λ (o : Noted). o.low) n in
          let high = ap (λ (o : Noted). o.high) n in
          let a = front_fronts x xs q in
          let b = front_backs x xs q in
          let j : 16 * s.low ≡ 16 * (s.low - 1) + length w = omega arith in
          let list : (note t f s x).list ≡ laid base (16 * (s.low - 1)) (in_words t f (x ∷ ys)) =
          ap (λ (o : Noted). o.list) n ∙ rw (e, j, words_more x ys) (laid_before base (16 * (s.low - 1)) w (in_words t f ys) (omega arith))
          in
          let k : s.low - 1 - length (front_only xs) ≡ s.low - length (front_only (x ∷ xs)) = omega arith in
          rw (back_same x xs q)
          (i (x ∷ ys) (list ∙ rw low) (omega arith) (omega arith) (omega arith)
          ∙ rw (low, k, front_more x xs q, reversed_more x (front_only xs), append_assoc (reversed (front_only xs)) (x ∷ []) (ys ++ back_only xs)))
