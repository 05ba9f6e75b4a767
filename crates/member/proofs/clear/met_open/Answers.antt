-- `member::clear::met_open` meets its contract: what is told without a flaw is the step, and is met by its place and its counts.
use mathlib.Core.Path.{sym, ap, ◌∙◌}
use Rattle.frame.specs.declared.Mode.{Mode}
use Rattle.passing.proofs.Passings.{open_step_lem, open_clear}
use Rattle.member.specs.Meetings.{met_step}
use Rattle.member.proofs.Clearing.{told_met}
use Rattle.member.proofs.clear.met_open.Goals as goal

pub returns : goal.returns
returns c =
    let a = c.args in
    let l = c.in_ok-told.ensures in
    let k = c.told_clear.ensures c.if-not-told_clear.false in
    record {
      clear = open_clear a.text.now a.frame Mode.Format a.state c.requires.2 l k c.after_told.ensures;
      met =
          rw (c.met_piece.ensures, c.sorts_at-sorts.ensures, c.takes_told.ensures, c.place_of-place.ensures, c.after_star.ensures)
          (sym (told_met a.text.now a.frame a.state.at.0 a.state.next c.in_ok-told.told a.met)
          ∙ ap (met_step a.text.now a.met) (open_step_lem a.text.now a.frame Mode.Format a.state c.requires.2 l k));
    }
