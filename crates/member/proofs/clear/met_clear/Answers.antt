-- `member::clear::met_clear` meets its contract: a placeholder, literal text, or neither.
use mathlib.Core.Path.{ap}
use Rattle.member.specs.Meetings.{met_step}
use Rattle.member.proofs.clear.met_clear.Goals as goal

pub met_open-requires : goal.met_open-requires
met_open-requires c = let p = c.requires in (p.0, p.1, c.is_open.ensures c.if-is_open.true, p.2)

pub returns : goal.returns
returns c =
    let a = c.args in
    let text = c.in_ok-passed.ensures in
    record {
      clear = text.passes.clear;
      met = rw (c.met_piece.ensures, c.no_sorts.ensures) (ap (met_step a.text.now a.met) text.step);
    }
