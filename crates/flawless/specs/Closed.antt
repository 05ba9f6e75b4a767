-- How a spec ends in which nothing is wrong: at its closing brace; and what is told and written of it. Rests on quick's Tellings and told's Told.
use Rattle.std.specs.Prelude.{ℕ, ◌≡◌, Bool, true, false, List, get_or}
use Rattle.frame.specs.declared.Frame.{Frame}
use Rattle.quick.specs.Tellings.{spec_of, Flawless}
use Rattle.quick.specs.PartsTold.{FlagTold, SpecKnown}
use Rattle.quick.specs.declared.CountKind.{CountKind}
use Rattle.quick.specs.declared.CountPart.{CountPart}
use Rattle.quick.specs.declared.PlaceholderTold.{PlaceholderTold}
use Rattle.quick.specs.declared.SpecTold.{SpecTold}
use Rattle.quick.specs.declared.TypeTold.{TypeTold}
use Rattle.words.specs.Laid.{laid}
use Rattle.words.specs.Layout.{spec_words}
use Rattle.told.specs.Told.{ToldAndPut}

-- a count that is a number, or none
abbrev pub is_plain : CountKind → Bool
is_plain CountKind.Nothing = true
is_plain (CountKind.Number value) = true
is_plain _ = false

-- its parts: a `0` before a `$` is no flag, no word is `_`, and the type ends at a closing brace
pub record Ends (t : List ℕ) (zero : Bool) (from : ℕ) (width : CountPart) (k : TypeTold) : Type 0 where
  pub flag : FlagTold t zero from
  pub wide : width.blank ≡ false
  pub named : k.blank ≡ false
  pub brace : get_or t k.end 0 ≡ 0x7D

-- a spec ends so
pub record SpecEnds (t : List ℕ) (s : SpecTold) : Type 0 where
  pub wide : s.width.blank ≡ false
  pub named : s.typed.blank ≡ false
  pub brace : get_or t s.typed.end 0 ≡ 0x7D

-- A SPEC after a colon, told and written from a place on
pub record SpecPut (t : List ℕ) (f : Frame) (at n k : ℕ) (old new : List ℕ) (s : SpecTold) : Type 0 where
  pub known : SpecKnown t at s
  pub ends : SpecEnds t s
  pub wrote : new ≡ laid old k (spec_words (spec_of t f at n s))

-- A PLACEHOLDER in which nothing is wrong, told and written
pub record FlawlessPut (t : List ℕ) (f : Frame) (brace n k : ℕ) (old new : List ℕ) (x : PlaceholderTold) : Type 0 where
  pub put : ToldAndPut t f brace n k old new x
  pub flawless : Flawless x
