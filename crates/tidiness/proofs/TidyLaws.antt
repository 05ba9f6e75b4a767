-- The proof of Tidiness: when no refusal holds, and the answer and the output by the number of the one that does. Rests on Tidies and plain's page.
use Rattle.std.specs.Prelude.{◌≡◌, refl, Bool, true, ℕ, ◌≤◌, ltb, length, take, drop}
use Rattle.std.proofs.Math.Path.{ap, sym}
use Rattle.std.proofs.Common.{◌∙◌, arith, length-append, length-take}
use Rattle.std.proofs.Math.Bool.{false}
use mathlib.Core.List.{List, [], ◌∷◌, ◌++◌}
use borrow.Author.Tests.{eq-eqb, ne_eqb, le-ltb, ltb-true, ltb-false}
use Rattle.utf8.specs.Choice.{pick}
use Rattle.reading.specs.Answers.{is_long, is_broken, mode_of, refusal, first_of}
use Rattle.reading.specs.Lists.{pieces, errors}
use Rattle.laws.specs.AnswerLaws.{not_long}
use Rattle.laws.specs.BrokenLaws.{broken_exactly}
use Rattle.pen.specs.PenLaws.{over_whole}
use Rattle.plain.proofs.PlainlyLaws as plainly
use Rattle.plain.specs.Plainly.{Accepted}
use Rattle.tidiness.proofs.SaidWants.{same_wants}
use Rattle.tidiness.specs.Tidies.{unstyled, plain_text, wanted, is_faulty, refused_as, answer_by, tidied_of, output_of, Tidies, Writable}
use Rattle.tidiness.specs.declared.Tidied.{Tidied}

-- WHERE NO REFUSAL HOLDS
none_held : (over long broken faulty short : Bool) →
    first_of (refusal 1 over ∷ refusal 3 long ∷ refusal 4 broken ∷ refusal 10 faulty ∷ refusal 11 short ∷ []) ≡ 0 →
    (over ≡ false) × (long ≡ false) × (broken ≡ false) × (faulty ≡ false) × (short ≡ false)
unfolding first_of pick
none_held true long broken faulty short e = absurd (omega (arith, e))
none_held false true broken faulty short e = absurd (omega (arith, e))
none_held false false true faulty short e = absurd (omega (arith, e))
none_held false false false true short e = absurd (omega (arith, e))
none_held false false false false true e = absurd (omega (arith, e))
none_held false false false false false e = (refl, refl, refl, refl, refl)

pub empty : {A : Type 0} (xs : List A) → length xs ≤ 0 → xs ≡ []
empty [] h = refl
empty (x ∷ xs) h = absurd (omega (arith, h))

-- 11 holds alone: but for the room no refusal would
eleven : (over long broken faulty short : Bool) →
    first_of (refusal 1 over ∷ refusal 3 long ∷ refusal 4 broken ∷ refusal 10 faulty ∷ refusal 11 short ∷ []) ≡ 11 →
    (first_of (refusal 1 over ∷ refusal 3 long ∷ refusal 4 broken ∷ refusal 10 faulty ∷ refusal 11 false ∷ []) ≡ 0) × (short ≡ true)
unfolding first_of pick
eleven true long broken faulty short e = absurd (omega (arith, e))
eleven false true broken faulty short e = absurd (omega (arith, e))
eleven false false true faulty short e = absurd (omega (arith, e))
eleven false false false true short e = absurd (omega (arith, e))
eleven false false false false true e = (refl, refl)
eleven false false false false false e = absurd (omega (arith, e))

module _ (t : List ℕ) (mode room : ℕ) where
  -- the refusals in their order: "after 1, 3 and 4, number 10 for a text with errors, then 11 when the output is too short"
  in_order : refused_as t mode room ≡
      first_of (
      refusal 1 (ltb 2 mode) ∷ refusal 3 (is_long t false []) ∷ refusal 4 (is_broken t) ∷ refusal 10 (is_faulty t mode) ∷
      refusal 11 (ltb room (length (plain_text t mode))) ∷ []
      )
  unfolding refused_as
  in_order = refl

  tests_passed : ltb 2 mode ≡ false → is_long t false [] ≡ false → is_broken t ≡ false → is_faulty t mode ≡ false →
      (o : ℕ) → length (plain_text t mode) ≤ o → Writable t mode o
  unfolding is_faulty
  tests_passed a b c d o f =
      record {
        is_mode = ltb-false 2 mode a;
        within = not_long t false [] b;
        accepted = record { is_utf8 = (broken_exactly t).0 c; no_error = empty (errors t (unstyled t) (mode_of mode)) (ltb-false 0 _ d) };
        fits = f;
      }

  pub passed : refused_as t mode room ≡ 0 → Writable t mode room
  passed e =
      let h = none_held _ _ _ _ _ (sym in_order ∙ e) in
      tests_passed h.0 h.1 h.2 h.3 room (ltb-false room (length (plain_text t mode)) h.4)

  -- 11: an output with room would do
  pub but_for_room : refused_as t mode room ≡ 11 → (o : ℕ) → length (plain_text t mode) ≤ o → Writable t mode o
  but_for_room e o f = let h = none_held _ _ _ _ _ (eleven _ _ _ _ _ (sym in_order ∙ e)).0 in tests_passed h.0 h.1 h.2 h.3 o f

  pub passes : Writable t mode room → refused_as t mode room ≡ 0
  unfolding refused_as is_faulty is_long first_of pick
  passes p =
      rw (
        le-ltb 2 mode p.is_mode,
        le-ltb 65535 (length t) p.within,
        (broken_exactly t).1 p.accepted.is_utf8,
        p.accepted.no_error,
        le-ltb room (length (plain_text t mode)) p.fits,
      )

-- A PLAIN FORM is its own, wants as many arguments, and passes where it fits
module _ {t : List ℕ} {mode room : ℕ} (p : Writable t mode room) where
  pub plain_fixed : plain_text (plain_text t mode) mode ≡ plain_text t mode
  unfolding plain_text
  plain_fixed = plainly.twice p.accepted (unstyled (plain_text t mode))

  pub plain_wanted : wanted (plain_text t mode) mode ≡ wanted t mode
  unfolding plain_text wanted
  plain_wanted =
      let u = plain_text t mode in
      same_wants u t (pieces u (unstyled u) (mode_of mode)) (pieces t (unstyled t) (mode_of mode)) (plainly.same_pieces p.accepted (unstyled u))

  pub plain_short : length (plain_text t mode) ≤ length t
  unfolding plain_text
  plain_short = plainly.no_longer p.accepted (unstyled t)

  plain_accepted : Accepted (mode_of mode) (unstyled (plain_text t mode)) (plain_text t mode)
  unfolding plain_text
  plain_accepted = plainly.accepted p.accepted (unstyled (plain_text t mode))

  pub plain_passed : (o : ℕ) → length (plain_text t mode) ≤ o → Writable (plain_text t mode) mode o
  plain_passed o h =
      record { is_mode = p.is_mode; within = omega (arith, p.within, plain_short); accepted = plain_accepted; fits = rw plain_fixed h }

-- A CALL
module _ {t : List ℕ} {mode : ℕ} {out out' : List ℕ} {r : Tidied} (call : Tidies t mode out out' r) where
  pub its_number : r.number ≡ refused_as t mode (length out)
  unfolding tidied_of answer_by
  its_number = ap (λ (x : Tidied). x.number) call.answer

  -- that was refused: the output
  pub refused_output : ¬ (r.number ≡ 0) → out' ≡ out
  unfolding output_of pick
  refused_output n = call.output ∙ rw (ne_eqb _ _ (λ z. n (its_number ∙ z)))

  pub done_passed : r.number ≡ 0 → Writable t mode (length out)
  done_passed z = passed t mode (length out) (sym its_number ∙ z)

  -- that wrote: its answer, and the output
  pub done_answer : r.number ≡ 0 → r ≡ answer_by 0 0 (length (plain_text t mode)) (wanted t mode)
  unfolding tidied_of answer_by pick
  done_answer z = call.answer ∙ rw (sym its_number ∙ z)

  pub done_bytes : r.number ≡ 0 → r.bytes ≡ length (plain_text t mode)
  unfolding answer_by pick
  done_bytes z = ap (λ (x : Tidied). x.bytes) (done_answer z)

  pub done_arguments : r.number ≡ 0 → r.arguments ≡ wanted t mode
  unfolding answer_by pick
  done_arguments z = ap (λ (x : Tidied). x.arguments) (done_answer z)

  pub done_output : r.number ≡ 0 → out' ≡ plain_text t mode ++ drop (length (plain_text t mode)) out
  unfolding output_of pick
  done_output z =
      call.output ∙ (rw (eq-eqb _ _ (sym its_number ∙ z)) (over_whole out (plain_text t mode) (done_passed z).fits))

  -- so many bytes of the output can be taken
  pub done_fits : r.number ≡ 0 → r.bytes ≤ length out'
  done_fits z =
      let p = plain_text t mode in
      omega (arith, done_bytes z, ap length (done_output z), length-append p (drop (length p) out))

  pub done_taken : r.number ≡ 0 → r.bytes ≡ length (take r.bytes out')
  done_taken z = omega (arith, done_fits z, length-take r.bytes out')

  -- that was refused as 11: the answer
  pub short_bytes : r.number ≡ 11 → r.bytes ≡ length (plain_text t mode)
  unfolding tidied_of answer_by pick
  short_bytes e = ap (λ (x : Tidied). x.bytes) call.answer ∙ rw (sym its_number ∙ e)

  pub too_short : r.number ≡ 11 → ((o : ℕ) → length (plain_text t mode) ≤ o → Writable t mode o) × (length t ≤ length out → ⊥)
  unfolding refused_as
  too_short e =
      let n = sym its_number ∙ e in
      let h = but_for_room t mode (length out) n in
      let p = h (length (plain_text t mode)) (omega arith) in
      (h, λ l. absurd (omega (arith, l, plain_short p, ltb-true (length out) (length (plain_text t mode)) (eleven _ _ _ _ _ n).1)))
