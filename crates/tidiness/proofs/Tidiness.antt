-- THE PAGE OF THE CALL THAT WRITES PLAIN FORMS: when it writes, and what holds of what it wrote. The call is Tidies, what a text says and its plain form
-- are plain's; the work is in plain's page and in TidyLaws.
use Rattle.std.specs.Prelude.{◌≡◌, ◌↔◌, List, ℕ, ◌≤◌, length, take, drop}
use Rattle.std.proofs.Common.{ap, subst, ◌∙◌}
use Rattle.std.proofs.Math.Path.{sym}
use Rattle.std.proofs.Math.Seq.{take-append_seam, drop-append_seam}
use Rattle.frame.specs.declared.Frame.{Frame}
use Rattle.reading.specs.Answers.{mode_of}
use Rattle.reading.specs.Lists.{pieces}
use Rattle.reading.specs.Wants.{wants}
use Rattle.plain.proofs.PlainlyLaws as plainly
use Rattle.plain.specs.Plainly.{Accepted, sayings}
use Rattle.tidiness.specs.Tidies.{unstyled, plain_text, wanted, Tidies, Writable}
use Rattle.tidiness.proofs.SaidWants.{same_wants}
use Rattle.tidiness.proofs.TidyLaws.{passes, plain_fixed, plain_wanted, plain_short, plain_passed, its_number, done_passed, done_answer, done_bytes, done_arguments, done_output, refused_output, short_bytes, too_short}
use Rattle.tidiness.specs.declared.Tidied.{Tidied}

-- what a call wrote: as many bytes of the output as its answer says
abbrev pub wrote : Tidied → List ℕ → List ℕ
wrote r out' = take r.bytes out'

-- WHEN: for what is writable, and for nothing else
pub written_exactly : {t out out' : List ℕ} {mode : ℕ} {r : Tidied} → Tidies t mode out out' r → (r.number ≡ 0) ↔ Writable t mode (length out)
written_exactly {t} {out} {mode = mode} c = (done_passed c, λ p. its_number c ∙ passes t mode (length out) p)

-- A CALL THAT WROTE. What it wrote is read in any frame g.
module _ {t out out' : List ℕ} {mode : ℕ} {r : Tidied} (call : Tidies t mode out out' r) (done : r.number ≡ 0) where
  -- the plain form,
  pub is_plain_lem : wrote r out' ≡ plain_text t mode
  is_plain_lem = rw (done_bytes call done, done_output call done) (take-append_seam (plain_text t mode) _)

  -- and behind it what stood there
  pub rest_stays : drop r.bytes out' ≡ drop r.bytes out
  rest_stays = rw (done_bytes call done, done_output call done) (drop-append_seam (plain_text t mode) _)

  -- "Reading the plain form gives the same pieces"
  pub same_pieces : (g : Frame) → sayings (mode_of mode) g (wrote r out') ≡ sayings (mode_of mode) (unstyled t) t
  unfolding plain_text
  same_pieces g = rw is_plain_lem (plainly.same_pieces (done_passed call done).accepted g)

  -- it is accepted
  pub accepted : (g : Frame) → Accepted (mode_of mode) g (wrote r out')
  unfolding plain_text
  accepted g = rw is_plain_lem (plainly.accepted (done_passed call done).accepted g)

  -- W10's figure, "for the text that W2 writes": the answer's is the text's, and that of what was written
  pub same_arguments : (g : Frame) → (r.arguments ≡ wants (pieces t (unstyled t) (mode_of mode))) × (r.arguments ≡ wants (pieces (wrote r out') g (mode_of mode)))
  unfolding wanted
  same_arguments g =
      let e = done_arguments call done in
      (e, e ∙ sym (same_wants (wrote r out') t (pieces (wrote r out') g (mode_of mode)) (pieces t (unstyled t) (mode_of mode)) (same_pieces g)))

  -- it is no longer than the text
  pub no_longer : r.bytes ≤ length t
  no_longer = rw (done_bytes call done) (plain_short (done_passed call done))

  -- "writing twice changes nothing": a call on what was written, with room for as many bytes, answers the same and writes the same
  pub twice : {o o' : List ℕ} {s : Tidied} → Tidies (wrote r out') mode o o' s → r.bytes ≤ length o → (s ≡ r) × (wrote s o' ≡ wrote r out')
  twice {o} {o'} {s} again room =
      let p = done_passed call done in
      let c : Tidies (plain_text t mode) mode o o' s = subst (λ (u : List ℕ). Tidies u mode o o' s) is_plain_lem again in
      let z = its_number c ∙ passes (plain_text t mode) mode (length o) (plain_passed p (length o) (rw (← done_bytes call done) room)) in
      let e : s ≡ r = done_answer c z ∙ (rw (plain_fixed p, plain_wanted p) (sym (done_answer call done))) in
      let b : s.bytes ≡ length (plain_text t mode) = ap (λ (x : Tidied). x.bytes) e ∙ done_bytes call done in
      (e, rw (b, done_output c z, plain_fixed p) (take-append_seam (plain_text t mode) _) ∙ sym is_plain_lem)

-- "TWO ACCEPTED TEXTS of one mode have equal plain forms exactly when their pieces are so equal"
pub exactly : {t u out out' o o' : List ℕ} {mode : ℕ} {r s : Tidied} →
    Tidies t mode out out' r → r.number ≡ 0 → Tidies u mode o o' s → s.number ≡ 0 →
    (wrote r out' ≡ wrote s o') ↔ (sayings (mode_of mode) (unstyled t) t ≡ sayings (mode_of mode) (unstyled u) u)
unfolding plain_text
exactly c z d y = rw (is_plain_lem c z, is_plain_lem d y) (plainly.exactly (done_passed c z).accepted (done_passed d y).accepted)

-- ROOM. "11 when the output is too short": never where it is as long as the text;
pub never_short : {t out out' : List ℕ} {mode : ℕ} {r : Tidied} → Tidies t mode out out' r → length t ≤ length out → ¬ (r.number ≡ 11)
never_short c h e = (too_short c e).1 h

-- and an output of as many bytes as the answer then says is long enough
pub enough : {t out out' o o' : List ℕ} {mode : ℕ} {r s : Tidied} → Tidies t mode out out' r → r.number ≡ 11 → Tidies t mode o o' s →
    (s.number ≡ 0) ↔ (r.bytes ≤ length o)
enough {t} {o = o} {mode = mode} c e d = (
  λ z. rw (short_bytes c e) (done_passed d z).fits,
  λ h. its_number d ∙ passes t mode (length o) ((too_short c e).0 (length o) (rw (← short_bytes c e) h)),
)

-- REFUSED, the output is as it was: "with nothing written"
pub untouched : {t out out' : List ℕ} {mode : ℕ} {r : Tidied} → Tidies t mode out out' r → ¬ (r.number ≡ 0) → out' ≡ out
untouched c n = refused_output c n

-- NO FREEDOM: two results that the contract allows, with the output at exit, are equal
pub one_answer : {t out o p : List ℕ} {mode : ℕ} {r s : Tidied} → Tidies t mode out o r → Tidies t mode out p s → (r ≡ s) × (o ≡ p)
one_answer c d = (c.answer ∙ sym d.answer, c.output ∙ sym d.output)
