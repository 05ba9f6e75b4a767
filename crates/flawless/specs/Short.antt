-- What is told of a short spec: counts alone, or a word alone. Rests on quick's PartsTold and Closed.
use Rattle.std.specs.Prelude.{ℕ, ◌+◌, ◌≤◌, ◌≡◌, true, false, List, get_or}
use Rattle.scan.specs.Words.{is_digit}
use Rattle.placeholder.specs.declared.Align.{Align}
use Rattle.placeholder.specs.declared.Sign.{Sign}
use Rattle.quick.specs.declared.NumberPart.{NumberPart}
use Rattle.quick.specs.declared.CountPart.{CountPart}
use Rattle.quick.specs.declared.SpecTold.{SpecTold}
use Rattle.quick.specs.declared.TypeTold.{TypeTold}
use Rattle.quick.specs.PartsTold.{count_none, fixed_count, NumberTold, SpecKnown}
use Rattle.flawless.specs.Closed.{is_plain, SpecEnds}

-- the width of counts alone: none at the dot, or a number that does not begin with `0`
pub data ShortWidth (t : List ℕ) (at : ℕ) : CountPart → Type 0 where
  none : get_or t at 0 ≡ 0x2E → ShortWidth t at (count_none at)
  number : {n : NumberPart} → NumberTold t at n → 0x31 ≤ get_or t at 0 → get_or t at 0 ≤ 0x39 → ShortWidth t at (fixed_count n)

-- their precision: none, or a dot and a number
pub data ShortPrecision (t : List ℕ) (at : ℕ) : CountPart → Type 0 where
  none : (get_or t at 0 ≡ 0x2E → ⊥) → ShortPrecision t at (count_none at)
  number : {n : NumberPart} → NumberTold t (at + 1) n → get_or t at 0 ≡ 0x2E → is_digit (get_or t (at + 1) 0) ≡ true → ShortPrecision t at (fixed_count n)

-- a spec of these parts
abbrev pub short_spec : ℕ → ℕ → CountPart → CountPart → TypeTold → ℕ → SpecTold
short_spec at word width precision typed given =
    record {
      fill = at;
      align = Align.Unknown;
      sign = Sign.Absent;
      alternate = false;
      zero = false;
      from = at;
      word = word;
      width = width;
      precision = precision;
      typed = typed;
      given = given;
    }

-- it is told where a closing brace stands at its end
pub record ShortClosed (t : List ℕ) (at word : ℕ) (width precision : CountPart) (typed : TypeTold) (given : ℕ) (s : SpecTold) : Type 0 where
  pub parts : s ≡ short_spec at word width precision typed given
  pub brace : get_or t typed.end 0 ≡ 0x7D

-- a short spec that is told is the spec that is read, ends at its closing brace, and has numbers as counts or none
pub record ShortTold (t : List ℕ) (at : ℕ) (s : SpecTold) : Type 0 where
  pub known : SpecKnown t at s
  pub ends : SpecEnds t s
  pub wide : is_plain s.width.kind ≡ true
  pub precise : is_plain s.precision.kind ≡ true
