-- A step that is passed without its record. Rests on reading's Steps, Faults and Lists, quick's Tellings, scan's Characters and `laws`' MoveLaws.
use Rattle.std.specs.Prelude.{ℕ, ◌+◌, ◌<◌, ◌≡◌, true, List, [], ◌⊎◌, length, get_or, Option, None, Some}
use Rattle.frame.specs.Places.{place, range_of}
use Rattle.frame.specs.declared.Frame.{Frame}
use Rattle.frame.specs.declared.Mode.{Mode}
use Rattle.frame.specs.declared.TextPlace.{TextPlace}
use Rattle.frame.specs.declared.TextRange.{TextRange}
use Rattle.scan.specs.Characters.{text_end}
use Rattle.reading.specs.Faults.{step_slots, wrong}
use Rattle.reading.specs.Lists.{pieces_of}
use Rattle.reading.specs.Steps.{step_at, onward}
use Rattle.reading.specs.declared.State.{State}
use Rattle.reading.specs.declared.Step.{Step}
use Rattle.laws.specs.MoveLaws.{given_by}
use Rattle.quick.specs.Tellings.{in_mode, Flawless}
use Rattle.quick.specs.declared.PlaceholderTold.{PlaceholderTold}
use Rattle.passing.specs.declared.Passed.{Passed}

-- TWO EQUAL BRACES stand at a byte
abbrev pub Doubled : List ℕ → ℕ → Type 0
Doubled t at = ((get_or t at 0 ≡ 0x7B) × (get_or t (at + 1) 0 ≡ 0x7B)) ⊎ ((get_or t at 0 ≡ 0x7D) × (get_or t (at + 1) 0 ≡ 0x7D))

-- A PLACEHOLDER starts at a byte: an opening brace, and not two
pub record OpenAt (t : List ℕ) (at : ℕ) : Type 0 where
  pub within : at < length t
  pub brace : get_or t at 0 ≡ 0x7B
  pub alone : get_or t (at + 1) 0 ≡ 0x7B → ⊥

-- what is told of it is told as a mode reads it, and nothing is wrong in it
pub record ClearTold (m : Mode) (x : PlaceholderTold) : Type 0 where
  pub speaks : in_mode m x.colon ≡ true
  pub flawless : Flawless x

-- THE STEP IS LITERAL TEXT, whose view ends where the run of plain characters does that starts at a byte
pub record LiteralFrom (t : List ℕ) (f : Frame) (m : Mode) (s : State) (from : ℕ) : Type 0 where
  pub start : TextPlace
  pub step : Step.Literal (range_of start (text_end t (place from))) ≡ step_at t f m s

-- A STEP THAT IS PASSED: nothing is wrong in it, it gives a piece, and reading goes on
pub record Clear (t : List ℕ) (f : Frame) (m : Mode) (s s' : State) : Type 0 where
  pub clean : wrong (step_slots (step_at t f m s)) ≡ []
  pub goes : onward s (step_at t f m s) ≡ Some s'
  pub one : length (pieces_of (step_at t f m s)) ≡ 1

-- where it is passed: so many characters were given back
pub record PassedStep (t : List ℕ) (f : Frame) (m : Mode) (s : State) (r : Passed) : Type 0 where
  pub clear : Clear t f m s r.state
  pub given : r.given ≡ given_by (step_at t f m s)

-- one that is literal text
pub record PassedText (t : List ℕ) (f : Frame) (m : Mode) (s : State) (r : Passed) : Type 0 where
  pub passes : PassedStep t f m s r
  pub view : TextRange
  pub step : Step.Literal view ≡ step_at t f m s

-- a step, passed or not
abbrev pub Passes : List ℕ → Frame → Mode → State → Option Passed → Type 0
Passes t f m s None = Unit {0}
Passes t f m s (Some r) = PassedStep t f m s r

abbrev pub PassesText : List ℕ → Frame → Mode → State → Option Passed → Type 0
PassesText t f m s None = Unit {0}
PassesText t f m s (Some r) = PassedText t f m s r
