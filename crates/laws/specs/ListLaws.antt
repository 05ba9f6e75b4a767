-- Laws of the four lists: each step's share of them, and their lengths. Rests on Lists and LineLaws.
use Rattle.std.specs.Prelude.{ℕ, suc, ◌+◌, ◌*◌, ◌≡◌, Bool, false, length}
use Rattle.std.proofs.Math.Path.{refl}
use Rattle.std.proofs.Common.{◌∙◌, arith, length-append}
use mathlib.Core.List.{List, [], ◌∷◌, ◌++◌, append_assoc, append-nil}
use Rattle.utf8.specs.Choice.{pick}
use Rattle.utf8.specs.Chars.{Ch}
use Rattle.frame.specs.Places.{snippet, span_of}
use Rattle.frame.specs.declared.Frame.{Frame}
use Rattle.frame.specs.declared.Span.{Span}
use Rattle.reading.specs.declared.Fault.{Fault}
use Rattle.reading.specs.Faults.{faults_of, Finding, marked}
use Rattle.frame.specs.declared.Mode.{Mode}
use Rattle.reading.specs.Records.{is_front}
use Rattle.reading.specs.Lines.{chars_in, newlines, ended_lines, line_start}
use Rattle.laws.specs.LineLaws.{by_test, ended_length}
use Rattle.reading.specs.Lists.{gather, pieces_of, front_only, back_only, reversed, listed, records, findings, found, errors, places, lines, texts_of, literal_chars}
use Rattle.reading.specs.Steps.{reading}
use Rattle.reading.specs.Written.{pairs}
use Rattle.reading.specs.declared.Step.{Step}

module _ {A B : Type 0} (g : A → List B) where
  -- what joined lists give
  pub gather_append : (a b : List A) → gather g (a ++ b) ≡ gather g a ++ gather g b
  unfolding gather
  gather_append [] b = refl
  gather_append (x ∷ a) b = rw (gather_append a b, append_assoc)

  -- what the first gives, and the others
  pub gather_more : (x : A) (xs : List A) → gather g (x ∷ xs) ≡ g x ++ gather g xs
  unfolding gather
  gather_more x xs = refl

  -- what one alone gives
  pub gather_one : (x : A) → gather g (x ∷ []) ≡ g x
  unfolding gather
  gather_one x = append-nil (g x)

-- each finding is put at the front or at the back
pub parts_length : (xs : List Finding) → length (front_only xs) + length (back_only xs) ≡ length xs
unfolding front_only back_only pick
parts_length [] = omega arith
parts_length (x ∷ xs) =
    let front = front_only xs in
    let back = back_only xs in
    let same = parts_length xs in
    by_test (λ b. length (pick b (x ∷ front) front) + length (pick b back (x ∷ back)) ≡ suc (length xs)) (omega arith) (omega arith) (is_front x.fault)

reversed_length : (xs : List Finding) → length (reversed xs) ≡ length xs
unfolding reversed
reversed_length [] = refl
reversed_length (x ∷ xs) = omega (arith, length-append (reversed xs) (x ∷ []), reversed_length xs)

-- so as many are listed as there are
pub listed_length : (xs : List Finding) → length (listed xs) ≡ length xs
unfolding listed
listed_length xs = omega (arith, length-append (reversed (front_only xs)) (back_only xs), reversed_length (front_only xs), parts_length xs)

-- each has one record
pub records_length : (t : List ℕ) (f : Frame) (xs : List Finding) → length (records t f xs) ≡ length xs
unfolding records
records_length t f [] = refl
records_length t f (x ∷ xs) = omega (arith, records_length t f xs)

-- faults that are marked are as many, one list after another
pub marked_length : (n : ℕ) (xs : List Fault) → length (marked n xs) ≡ length xs
unfolding marked
marked_length n [] = refl
marked_length n (x ∷ xs) = omega (arith, marked_length n xs)

pub marked_append : (n : ℕ) (xs ys : List Fault) → marked n (xs ++ ys) ≡ marked n xs ++ marked n ys
unfolding marked
marked_append n [] ys = refl
marked_append n (x ∷ xs) ys = rw (marked_append n xs ys)

-- a step's findings, and those of the steps after it
pub findings_more : (n : ℕ) (x : Step) (xs : List Step) →
    findings n (x ∷ xs) ≡ marked n (faults_of x) ++ findings (n + length (pieces_of x)) xs
unfolding findings
findings_more n x xs = refl

-- no step, no finding
pub findings_none : (n : ℕ) → findings n [] ≡ []
unfolding findings
findings_none n = refl

-- there is one for each fault
pub findings_length : (n : ℕ) (xs : List Step) → length (findings n xs) ≡ length (gather faults_of xs)
unfolding findings gather
findings_length n [] = refl
findings_length n (x ∷ xs) =
    omega (
      arith,
      length-append (marked n (faults_of x)) (findings (n + length (pieces_of x)) xs),
      length-append (faults_of x) (gather faults_of xs),
      marked_length n (faults_of x),
      findings_length (n + length (pieces_of x)) xs,
    )

-- the faults of some findings, without their numbers
abbrev pub faults_in : List Finding → List Fault
faults_in [] = []
faults_in (x ∷ xs) = x.fault ∷ faults_in xs

pub faults_append : (xs ys : List Finding) → faults_in (xs ++ ys) ≡ faults_in xs ++ faults_in ys
faults_append [] ys = refl
faults_append (x ∷ xs) ys = rw (faults_append xs ys)

pub marked_faults : (n : ℕ) (xs : List Fault) → faults_in (marked n xs) ≡ xs
unfolding marked
marked_faults n [] = refl
marked_faults n (x ∷ xs) = rw (marked_faults n xs)

-- are what the steps found wrong
pub found_faults : (n : ℕ) (xs : List Step) → faults_in (findings n xs) ≡ gather faults_of xs
unfolding findings gather
found_faults n [] = refl
found_faults n (x ∷ xs) =
    faults_append (marked n (faults_of x)) (findings (n + length (pieces_of x)) xs)
    ∙ rw (marked_faults n (faults_of x), found_faults (n + length (pieces_of x)) xs)

-- so there are as many records as findings, and as faults
pub errors_found : (t : List ℕ) (f : Frame) (m : Mode) → length (errors t f m) ≡ length (found t f m)
unfolding errors
errors_found t f m = records_length t f (listed (found t f m)) ∙ listed_length (found t f m)

pub errors_length : (t : List ℕ) (f : Frame) (m : Mode) → length (errors t f m) ≡ length (gather faults_of (reading t f m))
unfolding found
errors_length t f m = errors_found t f m ∙ findings_length 0 (reading t f m)

-- the literal text of a step, and of those after it
pub literal_more : (t : List ℕ) (x : Step) (xs : List Step) → literal_chars t (x ∷ xs) ≡ gather (chars_in t) (texts_of x) ++ literal_chars t xs
unfolding literal_chars
literal_more t x xs = rw (gather_more, gather_append)

-- no step, no text
pub literal_none : (t : List ℕ) → literal_chars t [] ≡ []
unfolding literal_chars gather
literal_none t = refl

-- the lines of literal text with the last one, whatever stands before it
unfoldable pub plain_lines : Frame → List Ch → Bool → List Span
plain_lines f cs ended =
    ended_lines f (snippet f.quote) cs ++ pick ended (span_of (line_start f (snippet f.quote) cs) f.end ∷ []) []

-- a line for each newline, and the last where the text has ended
pub lines_length : (f : Frame) (cs : List Ch) (over : Bool) → length (plain_lines f cs over) ≡ newlines cs + pick over 1 0
unfolding plain_lines pick
lines_length f cs over =
    let first = snippet f.quote in
    let one = span_of (line_start f first cs) f.end in
    let some = ended_length f first cs in
    by_test (λ b. length (ended_lines f first cs ++ pick b (one ∷ []) []) ≡ newlines cs + pick b 1 0)
    (omega (arith, length-append (ended_lines f first cs) (one ∷ [])))
    (omega (arith, length-append (ended_lines f first cs) []))
    over

module _ (t : List ℕ) (f : Frame) (m : Mode) where
  -- what is no source literal has neither places nor lines
  pub no_places : f.literal ≡ false → places t f m ≡ []
  unfolding places pick
  no_places e = rw e

  pub no_lines : f.literal ≡ false → lines t f m ≡ []
  unfolding lines pick
  no_lines e = rw e

-- a list without length is empty
pub no_length : {A : Type 0} (xs : List A) → length xs ≡ 0 → xs ≡ []
no_length [] h = refl
no_length (x ∷ xs) h = absurd (omega arith)

-- a span is two numbers
pub pairs_length : (xs : List Span) → length (pairs xs) ≡ 2 * length xs
unfolding pairs
pairs_length [] = omega arith
pairs_length (x ∷ xs) = omega (arith, pairs_length xs)
