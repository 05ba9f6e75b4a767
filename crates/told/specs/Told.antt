-- What is told of a placeholder, as it is written. Rests on words' Layout, quick's Tellings and passing's After.
use Rattle.std.specs.Prelude.{ℕ, ◌+◌, ◌≤◌, ◌≡◌, Bool, true, false, List, ◌++◌, length, Some}
use Rattle.frame.specs.Places.{place, range_of}
use Rattle.frame.specs.Spans.{span_between}
use Rattle.frame.specs.declared.Frame.{Frame}
use Rattle.quick.specs.Tellings.{name_of, type_span, argument_of, Tells}
use Rattle.quick.specs.declared.PlaceKind.{PlaceKind}
use Rattle.quick.specs.declared.CountKind.{CountKind}
use Rattle.quick.specs.declared.TypeTold.{TypeTold}
use Rattle.quick.specs.declared.PlaceholderTold.{PlaceholderTold}
use Rattle.passing.specs.After.{place_of}
use Rattle.words.specs.Laid.{laid}
use Rattle.words.specs.Layout.{low_of, four, hex_of, head_words, place_tag, place_words, count_words, span_words, argument_words}

-- a place's kind as a number, and a count's with its value; a name has its own
abbrev pub place_number : PlaceKind → ℕ
place_number PlaceKind.Nothing = 0
place_number (PlaceKind.Number value) = 1
place_number PlaceKind.Word = 2

abbrev pub kind_number : CountKind → ℕ
kind_number CountKind.Nothing = 0
kind_number (CountKind.Number value) = 1
kind_number (CountKind.Argument value) = 2
kind_number CountKind.Star = 3
kind_number CountKind.Name = 4
kind_number CountKind.Dot = 0

abbrev pub kind_value : ℕ → CountKind → ℕ
kind_value n CountKind.Nothing = 0
kind_value n (CountKind.Number value) = value
kind_value n (CountKind.Argument value) = value
kind_value n CountKind.Star = low_of n
kind_value n CountKind.Name = 0
kind_value n CountKind.Dot = 0

-- the first eight numbers: the argument's bytes, its place and the place's span
unfoldable pub told_head : List ℕ → Frame → ℕ → PlaceholderTold → ℕ → List ℕ
told_head t f brace x n =
    head_words 1 (range_of (place brace) (place x.on)) (place_tag (place_of (brace + 1) x.place n)) ++
    place_words (place_of (brace + 1) x.place n) (span_between t f (place (brace + 1)) (place x.to))

-- a count that is a name with its `$`, and starts at a byte of its own
unfoldable pub name_words : List ℕ → Frame → ℕ → ℕ → ℕ → List ℕ
name_words t f start from end = count_words (name_of t f from end) (Some (span_between t f (place start) (place end)))

-- a type
unfoldable pub type_words : List ℕ → Frame → TypeTold → List ℕ
type_words t f k = four (low_of k.from) (low_of k.end) (hex_of k.hex) 0 ++ span_words 0 (type_span t f k)

-- NUMBERS WRITTEN OVER, so many from a place on: where others are laid over all of them, nothing of them is left
pub record Spoilt (k n : ℕ) (old new : List ℕ) : Type 0 where
  pub gone : (j : ℕ) (ws : List ℕ) → j ≤ k → k + n ≤ j + length ws → j + length ws ≤ length old → laid new j ws ≡ laid old j ws

-- where something is told they are these
pub record Put (told : Type 0) (k n : ℕ) (ws old new : List ℕ) : Type 0 where
  pub wrote : told → new ≡ laid old k ws
  pub spoilt : Spoilt k n old new

-- A PLACEHOLDER that is told, and written from a place on
pub record ToldAndPut (t : List ℕ) (f : Frame) (brace n k : ℕ) (old new : List ℕ) (x : PlaceholderTold) : Type 0 where
  pub tells : Tells t (brace + 1) x
  pub wrote : new ≡ laid old k (argument_words (argument_of t f brace n x))
