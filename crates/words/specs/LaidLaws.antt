-- Numbers laid over a list: the list keeps its length, and what is laid one after another is laid as one. Then how many numbers
-- each part of a record has. Rests on Laid and Layout.
use Rattle.std.specs.Prelude.{ℕ, ◌+◌, ◌≤◌, ◌≡◌, refl, List, ◌++◌, Option, Some, None}
use Rattle.std.proofs.Math.Path.{sym, ap}
use Rattle.std.proofs.Common.{◌∙◌, append_assoc, length-drop, take_at, drop_at}
use native.Mathlib.Omega.{arith}
use Rattle.std.proofs.Math.ListN.{length, take, drop, length-append}
use Rattle.std.proofs.lemmas.List.Edits.{sets}
use Rattle.std.proofs.Math.Seq.{sets-eq, length-take-le, drop-drop}
use Rattle.frame.specs.declared.Span.{Span}
use Rattle.frame.specs.declared.TextRange.{TextRange}
use Rattle.scan.specs.declared.Count.{Count}
use Rattle.placeholder.specs.declared.Argument.{Argument}
use Rattle.placeholder.specs.declared.Fill.{Fill}
use Rattle.placeholder.specs.declared.Place.{Place}
use Rattle.placeholder.specs.declared.Spec.{Spec}
use Rattle.reading.specs.declared.ErrorRecord.{ErrorRecord}
use Rattle.reading.specs.declared.Piece.{Piece}
use Rattle.words.specs.Laid.{laid}
use Rattle.words.specs.Layout.{fill_words, place_words, span_words, count_data, name_span_end, count_words, range_words, spec_words, argument_words, zeros, literal_words, piece_words, error_words}

module _ {A : Type 0} (old : List A) (k : ℕ) where
  module _ (xs : List A) where
    -- what stands before the rest
    front : List A
    front = take k old ++ xs

    laid_front : laid old k xs ≡ front ++ drop (k + length xs) old
    unfolding laid front
    laid_front = sym (append_assoc (take k old) xs (drop (k + length xs) old))

    module _ (room : k + length xs ≤ length old) where
      front_length : length front ≡ k + length xs
      unfolding front
      front_length = omega (arith, length-append (take k old) xs, length-take-le k old (omega arith))

      -- the list keeps its length
      pub laid_length : length (laid old k xs) ≡ length old
      laid_length =
          omega (arith, ap length laid_front, length-append front (drop (k + length xs) old), front_length, length-drop (k + length xs) old)

      -- stores one after another
      pub laid_sets : sets old k xs ≡ laid old k xs
      unfolding front
      laid_sets = sets-eq xs old k room ∙ sym laid_front

    -- what is laid one after another is laid as one
    pub laid_on : (ys : List A) → k + length xs + length ys ≤ length old → laid (laid old k xs) (k + length xs) ys ≡ laid old k (xs ++ ys)
    unfolding laid front
    laid_on ys h =
        let m = k + length xs in
        let room : k + length xs ≤ length old = omega arith in
        let a : take m (laid old k xs) ≡ front = rw laid_front (take_at front (drop m old) m (front_length room)) in
        let b : drop m (laid old k xs) ≡ drop m old = rw laid_front (drop_at front (drop m old) m (front_length room)) in
        let d : drop (m + length ys) (laid old k xs) ≡ drop (m + length ys) old =
        sym (drop-drop (length ys) m (laid old k xs)) ∙ ap (drop (length ys)) b ∙ drop-drop (length ys) m old
        in
        let j : k + length (xs ++ ys) ≡ m + length ys = omega (arith, length-append xs ys) in
        rw (j, a, d) (simp append_assoc)

-- LENGTHS
pub fill_words_length : (f : Option Fill) → length (fill_words f) ≡ 4
fill_words_length None = refl
fill_words_length (Some f) = refl

pub place_words_length : (p : Place) (s : Span) → length (place_words p s) ≡ 4
place_words_length (Place.Next n) s = refl
place_words_length (Place.At n) s = refl
place_words_length (Place.Named r) s = refl

pub span_words_length : (first : ℕ) (s : Option Span) → length (span_words first s) ≡ 4
span_words_length first None = refl
span_words_length first (Some s) = refl

pub count_data_length : (c : Count) → length (count_data c) ≡ 4
count_data_length Count.Implied = refl
count_data_length (Count.Fixed n) = refl
count_data_length (Count.ByName r s) = refl
count_data_length (Count.ByArgument n) = refl
count_data_length (Count.ByStar n) = refl

pub count_words_length : (c : Count) (s : Option Span) → length (count_words c s) ≡ 8
count_words_length c s =
    omega (arith, length-append (count_data c) (span_words (name_span_end c) s), count_data_length c, span_words_length (name_span_end c) s)

pub range_words_length : (r : Option TextRange) → length (range_words r) ≡ 4
range_words_length None = refl
range_words_length (Some r) = refl

pub spec_words_length : (s : Spec) → length (spec_words s) ≡ 32
unfolding spec_words
spec_words_length s =
    simp length-append
    (omega (
      arith,
      fill_words_length s.fill,
      count_data_length s.width,
      span_words_length (name_span_end s.width) s.widthspan,
      count_data_length s.precision,
      span_words_length (name_span_end s.precision) s.precisionspan,
      span_words_length 0 s.typespan,
    ))

pub argument_words_length : (a : Argument) → length (argument_words a) ≡ 40
unfolding argument_words
argument_words_length a = simp length-append (omega (arith, place_words_length a.place a.placespan, spec_words_length a.spec))

pub zeros_length : length zeros ≡ 24
unfolding zeros
zeros_length = refl

pub literal_words_length : (r : TextRange) → length (literal_words r) ≡ 40
unfolding literal_words zeros
literal_words_length r = refl

-- a piece is 40 numbers
pub piece_words_length : (p : Piece) → length (piece_words p) ≡ 40
piece_words_length (Piece.Literal r) = literal_words_length r
piece_words_length (Piece.Placeholder a) = argument_words_length a

-- an error record is 16
pub error_words_length : (e : ErrorRecord) → length (error_words e) ≡ 16
unfolding error_words
error_words_length e =
    simp length-append
    (omega (arith, span_words_length 0 e.second, range_words_length e.quoted, span_words_length 0 e.suggestion))
