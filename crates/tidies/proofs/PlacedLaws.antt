-- An accepted text by the room of the output; and the call by what is decided before the text is read, then by its errors. Rests on Placed, on
-- scribe's InkLaws and on the laws of the answer.
use Rattle.std.specs.Prelude.{◌≡◌, refl, ℕ, ◌≤◌, ◌<◌, eqb, None, Result, Ok, Err}
use Rattle.std.proofs.Math.Path.{ap, sym}
use Rattle.std.proofs.Common.{◌∙◌, arith}
use Rattle.std.proofs.Math.Bool.{Bool, true, false}
use mathlib.Core.List.{List, [], ◌∷◌}
use borrow.Author.Tests.{ne_eqb, lt-ltb, le-ltb}
use Rattle.std.proofs.Math.Dec.{ltb}
use Rattle.std.proofs.Math.ListN.{length}
use Rattle.utf8.specs.Choice.{pick}
use Rattle.frame.specs.Bounds.{Small}
use Rattle.frame.specs.declared.Frame.{Frame}
use Rattle.frame.specs.declared.Mode.{Mode}
use Rattle.reading.specs.Answers.{is_broken, lacks_newline, frame_for, mode_of, refusal, first_of}
use Rattle.reading.specs.Lists.{pieces, errors, counts_of}
use Rattle.reading.specs.Wants.{wants}
use Rattle.reading.specs.Cases.{ask}
use Rattle.reading.specs.declared.Counts.{Counts}
use Rattle.reading.specs.declared.Request.{Request}
use Rattle.laws.specs.BrokenLaws.{broken_exactly}
use Rattle.laws.specs.Deciding as deciding
use Rattle.answer.specs.Decisions.{Opened}
use Rattle.answer.specs.DecisionLaws.{never_zero, opened_small}
use Rattle.answer.specs.Refusals.{number_of, place_of, answer_in}
use Rattle.answer.specs.declared.Readable.{Readable}
use Rattle.answer.specs.declared.Refusal.{Refusal}
use Rattle.pen.specs.Pens.{over, Fits, Laid}
use Rattle.plain.specs.Said.{said}
use Rattle.plain.specs.Plain.{plain_form}
use Rattle.plain.specs.Plainly.{plain_of}
use Rattle.plain.proofs.PlainlyLaws.{no_longer}
use Rattle.scribe.specs.Scribes.{AllInked}
use Rattle.scribe.proofs.InkLaws.{accepted_inked, accepted_fits}
use Rattle.tidiness.specs.Tidies.{unstyled, plain_text, wanted, is_faulty, refused_as, answer_by, tidied_of, output_of, Tidies}
use Rattle.tidiness.proofs.TidyLaws.{empty}
use Rattle.tidiness.specs.declared.Tidied.{Tidied}
use Rattle.tidies.specs.Placed.{refused_by, written_by, Ready, Placed}

-- AN ACCEPTED TEXT
module _ {t : List ℕ} {f : Frame} {m : Mode} (p : Ready t f m) where
  -- what the scribe asks
  pub ready_asked : Small t f × Fits 1 (plain_form (said t (pieces t f m))) × AllInked (pieces t f m)
  ready_asked = (p.small, accepted_fits p.accepted p.small.text, accepted_inked p.accepted)

  -- an output as long as the text has room
  pub ready_room : (room : ℕ) → length t ≤ room → length (plain_of m f t) ≤ room
  ready_room room h = omega (arith, h, no_longer p.accepted f)

module _ {t : List ℕ} {f : Frame} {m : Mode} {arguments : ℕ} {out out' : List ℕ} {r : Tidied} where
  -- with room it is laid
  pub with_room : {bytes : ℕ} → length (plain_of m f t) ≤ length out → Laid out 0 (plain_of m f t) bytes out' → r ≡ written_by bytes arguments →
      Placed t f m arguments out out' r
  unfolding pick
  with_room {bytes} h l e =
      let b : bytes ≡ length (plain_of m f t) = omega (arith, l.place) in
      record { answer = rw (le-ltb _ _ h) (e ∙ ap (λ n. written_by n arguments) b); output = rw (le-ltb _ _ h) l.bytes }

-- without, nothing is
pub without_room : {t : List ℕ} {f : Frame} {m : Mode} {out : List ℕ} {r : Tidied} {bytes : ℕ} (arguments : ℕ) → bytes ≡ length (plain_of m f t) → length out < bytes →
    r ≡ refused_by 11 0 bytes → Placed t f m arguments out out r
unfolding pick
without_room {t} {f} {m} {out} arguments b h e =
    let l : length out < length (plain_of m f t) = omega (arith, b, h) in
    record { answer = rw (lt-ltb _ _ l) (e ∙ ap (refused_by 11 0) b); output = rw (lt-ltb _ _ l) }

-- THE CALL
-- the request: no style, no snippet, no newline marked
abbrev pub asked : ℕ → Request
asked mode = ask mode None false false

-- the order of the tests: those before the text is read, then errors, then room
in_order : (over long broken faulty short : Bool) (prefix bytes arguments : ℕ) →
    let n = first_of (refusal 1 over ∷ refusal 3 long ∷ refusal 4 broken ∷ refusal 10 faulty ∷ refusal 11 short ∷ []) in
    let a = pick over (deciding.refused_as 1 0) (pick long (deciding.refused_as 3 0) (pick broken (deciding.refused_as 4 prefix) (deciding.refused_as 0 0))) in
    (eqb n 0 ≡ pick (eqb a.number 0) (pick faulty false (pick short false true)) false) ×
    (answer_by n prefix bytes arguments ≡
    pick (eqb a.number 0) (pick faulty (refused_by 10 0 0) (pick short (refused_by 11 0 bytes) (written_by bytes arguments)))
    (refused_by a.number a.place 0)) ×
    (a.number ≡ 0 → broken ≡ false)
unfolding pick first_of answer_by
in_order true long broken faulty short prefix bytes arguments = (refl, refl, λ e. absurd (omega (arith, e)))
in_order false true broken faulty short prefix bytes arguments = (refl, refl, λ e. absurd (omega (arith, e)))
in_order false false true faulty short prefix bytes arguments = (refl, refl, λ e. absurd (omega (arith, e)))
in_order false false false true short prefix bytes arguments = (refl, refl, λ e. refl)
in_order false false false false true prefix bytes arguments = (refl, refl, λ e. refl)
in_order false false false false false prefix bytes arguments = (refl, refl, λ e. refl)

turned : (b : Bool) (xs ys : List ℕ) → pick b xs ys ≡ pick (pick b false true) ys xs
unfolding pick
turned true xs ys = refl
turned false xs ys = refl

module _ (t : List ℕ) (mode : ℕ) where
  -- the answer and the output, by the number that is decided before the text is read
  decided : (r : Result Readable Refusal) → Opened t [] (asked mode) r → (out : List ℕ) →
      let n = (answer_in r).number in
      let short = ltb (length out) (length (plain_text t mode)) in
      (eqb (refused_as t mode (length out)) 0 ≡ pick (eqb n 0) (pick (is_faulty t mode) false (pick short false true)) false) ×
      (tidied_of t mode (length out) ≡
      pick (eqb n 0)
      (pick (is_faulty t mode) (refused_by 10 0 0) (pick short (refused_by 11 0 (length (plain_text t mode))) (written_by (length (plain_text t mode)) (wanted t mode))))
      (refused_by n (answer_in r).place 0)) ×
      (n ≡ 0 → is_broken t ≡ false)
  unfolding tidied_of refused_as deciding.open_answer lacks_newline pick
  decided r x out = rw x.answer (in_order _ _ _ _ _ _ _ _)

  -- refused before the text is read
  pub early : {e : Refusal} {out : List ℕ} {r : Tidied} → Opened t [] (asked mode) (Err e) → r ≡ refused_by (number_of e) (place_of e) 0 → Tidies t mode out out r
  unfolding output_of pick
  early {e} {out} x g =
      let k = decided (Err e) x out in
      let z = ne_eqb (number_of e) 0 (never_zero e) in
      record { answer = g ∙ sym (rw z at k.1); output = rw (rw z at k.0) }

  module _ {y : Readable} (x : Opened t [] (asked mode) (Ok y)) {c : Counts} (counted : c ≡ counts_of t y.frame y.mode) where
    its_errors : c.errors ≡ length (errors t (unstyled t) (mode_of mode))
    unfolding counts_of frame_for
    its_errors = ap (λ (x : Counts). x.errors) counted ∙ rw (x.readable.frame, x.readable.mode)

    -- errors
    pub faulty : {out : List ℕ} {r : Tidied} → 0 < c.errors → r ≡ refused_by 10 0 0 → Tidies t mode out out r
    unfolding output_of is_faulty pick
    faulty {out} h e =
        let k = decided (Ok y) x out in
        let f : ltb 0 (length (errors t (unstyled t) (mode_of mode))) ≡ true = lt-ltb _ _ (rw its_errors at h) in
        record { answer = e ∙ sym (rw f at k.1); output = rw (rw f at k.0) }

    -- none
    module _ (clean : c.errors ≤ 0) where
      pub is_ready : Ready t y.frame y.mode
      unfolding frame_for
      is_ready =
          record {
            small = opened_small t [] (asked mode) x;
            accepted =
                rw (x.readable.frame, x.readable.mode)
                (record { is_utf8 = (broken_exactly t).0 ((decided (Ok y) x []).2 refl); no_error = empty (errors t (unstyled t) (mode_of mode)) (rw its_errors at clean) });
          }

      pub by_room : {out out' : List ℕ} {r : Tidied} {arguments : ℕ} → arguments ≡ wants (pieces t y.frame y.mode) →
          Placed t y.frame y.mode arguments out out' r → Tidies t mode out out' r
      unfolding output_of is_faulty plain_text wanted frame_for pick
      by_room {out} {out'} w p =
          let k = decided (Ok y) x out in
          let f : ltb 0 (length (errors t (unstyled t) (mode_of mode))) ≡ false = le-ltb _ _ (rw its_errors at clean) in
          record { answer = rw (w, x.readable.frame, x.readable.mode) at p.answer ∙ sym (rw f at k.1); output = go (rw (x.readable.frame, x.readable.mode) at p.output) (rw f at k.0) }
        where
          short : Bool
          short = ltb (length out) (length (plain_text t mode))

          go : out' ≡ pick short out (over out 0 (plain_text t mode)) → eqb (refused_as t mode (length out)) 0 ≡ pick short false true →
              out' ≡ output_of t mode out
          go e h = e ∙ (turned short out (over out 0 (plain_text t mode)) ∙ sym (ap (λ b. pick b (over out 0 (plain_text t mode)) out) h))
