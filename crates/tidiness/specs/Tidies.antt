-- THE CALL THAT WRITES A TEXT'S PLAIN FORM: its refusals, its answer and the output that it leaves. Rests on plain's page and the reader's definitions.
use Rattle.std.specs.Prelude.{◌≡◌, Bool, false, List, [], ◌∷◌, ℕ, ◌≤◌, eqb, ltb, length, None}
use Rattle.utf8.specs.Choice.{pick, either}
use Rattle.utf8.specs.Utf8.{valid_prefix}
use Rattle.frame.specs.Frames.{frame_of}
use Rattle.frame.specs.declared.Frame.{Frame}
use Rattle.reading.specs.Answers.{is_long, is_broken, mode_of, Refusal, refusal, first_of}
use Rattle.reading.specs.Lists.{pieces, errors}
use Rattle.reading.specs.Wants.{wants}
use Rattle.pen.specs.Pens.{over}
use Rattle.plain.specs.Plainly.{Accepted, plain_of}
use Rattle.tidiness.specs.declared.Tidied.{Tidied}

-- a text with no style, no snippet and no newline marked, since none of them changes a plain form (R15.12)
abbrev pub unstyled : List ℕ → Frame
unstyled t = frame_of t None false [] false

-- OF A TEXT and a mode's number: its plain form, the arguments that its pieces want, and whether it has errors
unfoldable pub plain_text : List ℕ → ℕ → List ℕ
plain_text t mode = plain_of (mode_of mode) (unstyled t) t

unfoldable pub wanted : List ℕ → ℕ → ℕ
wanted t mode = wants (pieces t (unstyled t) (mode_of mode))

unfoldable pub is_faulty : List ℕ → ℕ → Bool
is_faulty t mode = ltb 0 (length (errors t (unstyled t) (mode_of mode)))

-- THE REFUSALS, with an output of so many bytes: "after 1, 3 and 4, number 10 for a text with errors, then 11 when the output is too short" (R15.13)
abbrev pub refusals : List ℕ → ℕ → ℕ → List Refusal
refusals t mode room =
    refusal 1 (ltb 2 mode) ∷
    refusal 3 (is_long t false []) ∷
    refusal 4 (is_broken t) ∷
    refusal 10 (is_faulty t mode) ∷
    refusal 11 (ltb room (length (plain_text t mode))) ∷
    []

-- the number of the first that holds, or 0 where the plain form is written
unfoldable pub refused_as : List ℕ → ℕ → ℕ → ℕ
refused_as t mode room = first_of (refusals t mode room)

-- THE ANSWER by that number (R15.14)
unfoldable pub answer_by : ℕ → ℕ → ℕ → ℕ → Tidied
answer_by number prefix bytes arguments =
    record {
      number = number;
      place = pick (eqb number 4) prefix 0;
      bytes = pick (either (eqb number 0) (eqb number 11)) bytes 0;
      arguments = pick (eqb number 0) arguments 0;
    }

unfoldable pub tidied_of : List ℕ → ℕ → ℕ → Tidied
tidied_of t mode room = answer_by (refused_as t mode room) (valid_prefix t) (length (plain_text t mode)) (wanted t mode)

-- THE OUTPUT: the plain form over its start, and the rest as it was; "with nothing written" where the call is refused (R15.15)
unfoldable pub output_of : List ℕ → ℕ → List ℕ → List ℕ
output_of t mode out = pick (eqb (refused_as t mode (length out)) 0) (over out 0 (plain_text t mode)) out

-- A CALL: the answer, and the output before and after it
pub record Tidies (t : List ℕ) (mode : ℕ) (out out' : List ℕ) (r : Tidied) : Type 0 where
  pub answer : r ≡ tidied_of t mode (length out)
  pub output : out' ≡ output_of t mode out

-- WHAT IS WRITTEN, in other words: a mode, a text within the limit that is accepted, and an output of so many bytes with room for its plain form
pub record Writable (t : List ℕ) (mode room : ℕ) : Type 0 where
  pub is_mode : mode ≤ 2
  pub within : length t ≤ 65535
  pub accepted : Accepted (mode_of mode) (unstyled t) t
  pub fits : length (plain_text t mode) ≤ room
