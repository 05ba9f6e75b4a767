-- That no number which an argument took is large, for the functions that add one to it: a number that is written has two bytes.
-- Rests on the records that the reader declares.
use Rattle.std.specs.Prelude.{◌<◌}
use Rattle.scan.specs.declared.Count.{Count}
use Rattle.placeholder.specs.declared.Argument.{Argument}
use Rattle.placeholder.specs.declared.Place.{Place}
use Rattle.reading.specs.declared.Step.{Step}

abbrev pub FewPlace : Place → Type 0
FewPlace (Place.Next n) = n < 0x100000
FewPlace (Place.At x) = Unit {0}
FewPlace (Place.Named r) = Unit {0}

abbrev pub FewCount : Count → Type 0
FewCount Count.Implied = Unit {0}
FewCount (Count.Fixed x) = Unit {0}
FewCount (Count.ByName r s) = Unit {0}
FewCount (Count.ByArgument x) = Unit {0}
FewCount (Count.ByStar n) = n < 0x100000

-- the numbers of an argument are small
pub record FewArgument (a : Argument) : Type 0 where
  pub place : FewPlace a.place
  pub width : FewCount a.spec.width
  pub precision : FewCount a.spec.precision

-- and so are those of a step
abbrev pub Few : Step → Type 0
Few Step.End = Unit {0}
Few (Step.Stop p) = Unit {0}
Few (Step.Literal r) = Unit {0}
Few (Step.Placeholder p) = FewArgument p.argument
