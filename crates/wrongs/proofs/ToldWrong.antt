-- What is told to be wrong: the word `_` in three places, and a closing brace that is missing. It is what the step found wrong.
-- Rests on Wrongs, writing's Noting, quick's Tellings and `laws`' FaultLaws.
use Prim.Native.Nat.{ℕ, ◌+◌, ◌*◌, ◌≤◌}
use mathlib.Core.Path.{◌≡◌, refl, sym, ap, ◌∙◌}
use mathlib.Core.Bool.{Bool, true, false}
use mathlib.Core.List.{List, [], ◌∷◌, ◌++◌, append-nil}
use lib.Dec.{eqb}
use lib.ListN.{length}
use Rattle.utf8.specs.Choice.{pick}
use Rattle.frame.specs.Places.{place, range_of}
use Rattle.frame.specs.Spans.{span_between}
use Rattle.frame.specs.declared.Frame.{Frame}
use Rattle.frame.specs.declared.Span.{Span}
use Rattle.frame.specs.declared.TextPlace.{TextPlace}
use Rattle.closing.specs.Recovery.{because, gap_at}
use Rattle.closing.specs.Recovering.{is_silent}
use Rattle.closing.specs.declared.recover.Gap.{Gap}
use Rattle.closing.specs.declared.recover.Hint.{Hint}
use Rattle.laws.specs.FaultLaws.{wrong_++}
use Rattle.reading.specs.Faults.{is_clean, flaw_fault, gap_fault, hint_fault, argument_slots, missing_slots, closing_slots, step_slots, wrong, Finding}
use Rattle.reading.specs.Records.{is_front, record_of}
use Rattle.reading.specs.declared.Fault.{Fault}
use Rattle.reading.specs.declared.Step.{Step}
use Rattle.quick.specs.Tellings.{fill_of, spec_of, argument_of, blank_flaw, blanks_of, placed_hint, closing_of, told_read, Flawless}
use Rattle.quick.specs.declared.PlaceholderTold.{PlaceholderTold}
use Rattle.quick.specs.declared.SignHint.{SignHint}
use Rattle.words.specs.Laid.{laid}
use Rattle.words.specs.Layout.{error_words}
use Rattle.reading.specs.Records.{bare_error}
use Rattle.writing.specs.StepsWritten.{noted_by, noticed, Room, Notes, BackRoom, BackNotes}
use Rattle.writing.specs.declared.Extent.{Extent}
use Rattle.writing.proofs.Noting.{noticed_none, noticed_append, noticed_same, notes_none, room_before, put_clean, notes_then, room_then, back_clean, back_one, back_room, back_before, back_after, backs_then}
use Rattle.wrongs.specs.Wrongs.{why_told, missing_told, told_slots}

-- THE WORD `_` between two bytes: nothing is written where it does not stand there, else a record of the back
module _ (t : List ℕ) (f : Frame) (high : ℕ) (es : List ℕ) (b : Bool) (from to n : ℕ) where
  pub blank_none : b ≡ false → BackNotes t f high es (noticed n (flaw_fault (blank_flaw b from to) ∷ [])) high es
  unfolding blank_flaw pick
  blank_none e = rw e (back_clean t f high es n Fault.Clean refl)

  module _ (e : b ≡ true) where
    pub blank_room : BackRoom high es (noticed n (flaw_fault (blank_flaw b from to) ∷ [])) → 16 * high + 16 ≤ length es
    unfolding blank_flaw pick
    blank_room r = back_room t f high es n (Fault.Underscore (range_of (place from) (place to))) refl refl (rw e at r)

    pub blank_one : {s : Span} {es' : List ℕ} → s ≡ span_between t f (place from) (place to) →
        es' ≡ laid es (16 * high) (error_words (bare_error 6 s n)) → BackNotes t f high es (noticed n (flaw_fault (blank_flaw b from to) ∷ [])) (high + 1) es'
    unfolding blank_flaw pick record_of
    blank_one s o = rw e (back_one t f high es n (Fault.Underscore (range_of (place from) (place to))) refl refl (rw s at o))

-- it is none of the front
blank_back : (b : Bool) (from to : ℕ) → is_front (flaw_fault (blank_flaw b from to)) ≡ false
unfolding blank_flaw pick
blank_back true from to = refl
blank_back false from to = refl

-- THREE WORDS: the place, the width and the type, one after the other
module _ (t : List ℕ) (f : Frame) (high : ℕ) (es : List ℕ) (at : ℕ) (x : PlaceholderTold) (n : ℕ) where
  abbrev placed : Fault
  placed = flaw_fault (blank_flaw x.place.blank at x.place.end)

  abbrev wide : Fault
  wide = flaw_fault (blank_flaw x.spec.width.blank x.spec.from x.spec.word)

  abbrev typed : Fault
  typed = flaw_fault (blank_flaw x.spec.typed.blank x.spec.precision.end x.spec.typed.end)

  -- each as it is noticed
  abbrev one : Fault → List Finding
  one y = noticed n (y ∷ [])

  -- the clean ones between them are left out
  blanks_found : noticed n (argument_slots (blanks_of at x)) ≡ one placed ++ (one wide ++ one typed)
  unfolding argument_slots blanks_of wrong pick
  blanks_found =
      noticed_same n (argument_slots (blanks_of at x)) (placed ∷ wide ∷ typed ∷ []) refl
      ∙ noticed_append n (placed ∷ []) (wide ∷ typed ∷ [])
      ∙ ap (λ (l : List Finding). one placed ++ l) (noticed_append n (wide ∷ []) (typed ∷ []))

  -- there is room for each
  module _ (r : BackRoom high es (noticed n (argument_slots (blanks_of at x)))) where
    all_room : BackRoom high es (one placed ++ (one wide ++ one typed))
    all_room = rw blanks_found at r

    pub place_room : BackRoom high es (one placed)
    place_room = back_before high es (one placed) (one wide ++ one typed) all_room

    module _ {high₁ : ℕ} {es₁ : List ℕ} (n₁ : BackNotes t f high es (one placed) high₁ es₁) where
      rest_room : BackRoom high₁ es₁ (one wide ++ one typed)
      rest_room = back_after t f n placed (one wide ++ one typed) (blank_back x.place.blank at x.place.end) all_room n₁

      pub width_room : BackRoom high₁ es₁ (one wide)
      width_room = back_before high₁ es₁ (one wide) (one typed) rest_room

      pub type_room : {high₂ : ℕ} {es₂ : List ℕ} → BackNotes t f high₁ es₁ (one wide) high₂ es₂ → BackRoom high₂ es₂ (one typed)
      type_room n₂ = back_after t f n wide (one typed) (blank_back x.spec.width.blank x.spec.from x.spec.word) rest_room n₂

  -- and each is written
  pub blanks_noted : {high₁ high₂ high₃ : ℕ} {es₁ es₂ es₃ : List ℕ} → BackNotes t f high es (one placed) high₁ es₁ →
      BackNotes t f high₁ es₁ (one wide) high₂ es₂ → BackNotes t f high₂ es₂ (one typed) high₃ es₃ →
      BackNotes t f high es (noticed n (argument_slots (blanks_of at x))) high₃ es₃
  blanks_noted n₁ n₂ n₃ =
      rw blanks_found (backs_then t f (one placed) (one wide ++ one typed) n₁ (backs_then t f (one wide) (one typed) n₂ n₃))

-- A CLOSING BRACE THAT IS MISSING is a fault
gap_wrong : (g : Gap) → is_clean (gap_fault g) ≡ false
gap_wrong (Gap.Before p why) = refl
gap_wrong (Gap.AtEnd why) = refl

-- and what is said of the sign there is one, unless nothing is
sign_clean : (brace : TextPlace) (h : SignHint) (at : TextPlace) → is_clean (hint_fault brace (placed_hint h at)) ≡ is_silent (placed_hint h at)
sign_clean brace SignHint.Silent at = refl
sign_clean brace SignHint.Misplaced at = refl
sign_clean brace SignHint.Comma at = refl
sign_clean brace SignHint.Plus at = refl
sign_clean brace SignHint.Equals at = refl

-- the records of both, one after the other
module _ (t : List ℕ) (brace : ℕ) (x : PlaceholderTold) where
  abbrev gap : Fault
  gap = gap_fault (gap_at t (place x.close) (why_told t (place brace) x))

  abbrev said : Hint
  said = placed_hint x.hint (place x.close)

  abbrev sign : Fault
  sign = hint_fault (place brace) said

  module _ (f : Frame) (m : Extent) (es : List ℕ) where
    -- the first is not clean, and there is room for it
    module _ {y : Fault} (e : y ≡ gap) where
      pub missing_first : Room (noted_by m es) (noticed m.pieces (missing_told t brace x)) → (is_clean y ≡ false) × Room (noted_by m es) (noticed m.pieces (y ∷ []))
      unfolding missing_told
      missing_first r =
          rw e (
            gap_wrong (gap_at t (place x.close) (why_told t (place brace) x)),
            room_before (noticed m.pieces (gap ∷ [])) (noticed m.pieces (sign ∷ [])) (rw (noticed_append m.pieces (gap ∷ []) (sign ∷ [])) at r),
          )

      module _ {m₁ : Extent} {es₁ : List ℕ} (n : Notes t f m es (y ∷ []) m₁ es₁) where
        -- nothing is said of the sign
        pub missing_silent : is_silent said ≡ true → Notes t f m es (missing_told t brace x) m₁ es₁
        unfolding missing_told
        missing_silent s = notes_then t f (gap ∷ []) (sign ∷ []) (rw e at n) (put_clean t f m₁ es₁ sign (sign_clean (place brace) x.hint (place x.close) ∙ s))

        module _ {z : Fault} (q : z ≡ sign) where
          -- the second is not clean, and there is room for it
          pub missing_next : is_silent said ≡ false → Room (noted_by m es) (noticed m.pieces (missing_told t brace x)) →
              (is_clean z ≡ false) × Room (noted_by m₁ es₁) (noticed m₁.pieces (z ∷ []))
          unfolding missing_told
          missing_next s r =
              rw q (sign_clean (place brace) x.hint (place x.close) ∙ s, room_then t f (gap ∷ []) (sign ∷ []) (rw e at n) r)

          pub missing_both : {m₂ : Extent} {es₂ : List ℕ} → Notes t f m₁ es₁ (z ∷ []) m₂ es₂ → Notes t f m es (missing_told t brace x) m₂ es₂
          unfolding missing_told
          missing_both k = notes_then t f (gap ∷ []) (sign ∷ []) (rw e at n) (rw q at k)

-- ALL THAT IS WRONG: the words, and then what is said where the closing brace is missing
module _ (t : List ℕ) (f : Frame) (brace : ℕ) (x : PlaceholderTold) where
  abbrev words : List Fault
  words = argument_slots (blanks_of (brace + 1) x)

  slots_closed : x.closed ≡ true → told_slots t brace x ≡ words
  unfolding told_slots pick
  slots_closed e = ap (λ (b : Bool). words ++ pick b [] (missing_told t brace x)) e ∙ append-nil words

  slots_missing : x.closed ≡ false → told_slots t brace x ≡ words ++ missing_told t brace x
  unfolding told_slots pick
  slots_missing e = ap (λ (b : Bool). words ++ pick b [] (missing_told t brace x)) e

  -- nothing is wrong
  pub flawless_none : Flawless x → wrong (told_slots t brace x) ≡ []
  unfolding told_slots argument_slots blanks_of blank_flaw wrong pick
  flawless_none p = rw (p.closed, p.placed, p.wide, p.typed)

  pub wrongs_none : {m : Extent} {es : List ℕ} → Flawless x → Notes t f m es (told_slots t brace x) m es
  unfolding wrong
  wrongs_none {m} {es} p =
      record {
        pieces = refl;
        noted =
            sym
            (rw (noticed_same m.pieces (told_slots t brace x) [] (flawless_none p), noticed_none m.pieces) (notes_none t f (noted_by m es)));
      }

  module _ (m : Extent) {es : List ℕ} where
    -- there is room for the words
    pub blanks_room : Room (noted_by m es) (noticed m.pieces (told_slots t brace x)) → BackRoom m.high es (noticed m.pieces words)
    unfolding told_slots
    blanks_room r =
        let rest = pick x.closed [] (missing_told t brace x) in
        (room_before (noticed m.pieces words) (noticed m.pieces rest) (rw (noticed_append m.pieces words rest) at r)).back

    -- they are written
    module _ {high : ℕ} {es₁ : List ℕ} (n : BackNotes t f m.high es (noticed m.pieces words) high es₁) where
      abbrev after : Extent
      after = record { pieces = m.pieces; low = m.low; high = high; fronts = m.fronts }

      blanks_first : Notes t f m es words after es₁
      blanks_first = record { pieces = refl; noted = n.noted m.low m.fronts }

      -- with a closing brace that is all
      pub wrongs_closed : x.closed ≡ true → Notes t f m es (told_slots t brace x) after es₁
      wrongs_closed e = rw (slots_closed e) blanks_first

      -- without one there is room for the others
      module _ (e : x.closed ≡ false) where
        pub wrongs_room : Room (noted_by m es) (noticed m.pieces (told_slots t brace x)) →
            Room (noted_by after es₁) (noticed m.pieces (missing_told t brace x))
        wrongs_room r = room_then t f words (missing_told t brace x) blanks_first (rw (slots_missing e) at r)

        -- which are written after them
        pub wrongs_missing : {m₂ : Extent} {es₂ : List ℕ} → Notes t f after es₁ (missing_told t brace x) m₂ es₂ → Notes t f m es (told_slots t brace x) m₂ es₂
        wrongs_missing k = rw (slots_missing e) (notes_then t f words (missing_told t brace x) blanks_first k)

-- THE STEP'S are the same, but for clean ones
module _ (t : List ℕ) (f : Frame) (brace n : ℕ) (x : PlaceholderTold) where
  why_told_lem : because (argument_of t f brace n x).spec.fill (place (x.to + 1)) (place brace) ≡ why_told t (place brace) x
  unfolding argument_of spec_of fill_of why_told pick
  why_told_lem = go x.colon refl (eqb (x.to + 1) x.spec.fill) refl
    where
      go : (a : Bool) → x.colon ≡ a → (b : Bool) → eqb (x.to + 1) x.spec.fill ≡ b →
          because (argument_of t f brace n x).spec.fill (place (x.to + 1)) (place brace) ≡ why_told t (place brace) x
      go true e true d = rw (e, d)
      go true e false d = rw (e, d)
      go false e b d = rw e

  -- at its end: no word and no field are read
  closing_wrong : wrong (closing_slots (place brace) (closing_of t f brace n x)) ≡ wrong (pick x.closed [] (missing_told t brace x))
  unfolding closing_of missing_told closing_slots missing_slots argument_slots pick wrong
  closing_wrong = go x.closed refl
    where
      go : (b : Bool) → x.closed ≡ b → wrong (closing_slots (place brace) (closing_of t f brace n x)) ≡ wrong (pick x.closed [] (missing_told t brace x))
      go true e = rw e
      go false e = rw (why_told_lem, e)

  -- all of them
  pub told_wrong : wrong (step_slots (Step.Placeholder (told_read t f brace n x))) ≡ wrong (told_slots t brace x)
  unfolding step_slots told_read told_slots argument_of
  told_wrong =
      let all = argument_slots (blanks_of (brace + 1) x) in
      wrong_++ all (closing_slots (place brace) (closing_of t f brace n x)) ∙ rw closing_wrong (sym (wrong_++ all (pick x.closed [] (missing_told t brace x))))
