-- `writing::write_step` meets its contract: the step there is written, and reading goes on after it.
use Rattle.laws.specs.WantLaws.{few_step}
use Rattle.writing.proofs.Stepping.{stepped_on}
use Rattle.writing.proofs.write_step.Goals as goal

pub go_on-requires : goal.go_on-requires
go_on-requires c = few_step _ _ _ _ c.requires.1 c.step_at-step.ensures

pub put_step-requires : goal.put_step-requires
put_step-requires c = (c.requires.0, rw c.step_at-step.ensures c.requires.2)

pub returns : goal.returns
returns c =
    let a = c.args in
    stepped_on a.text.now a.frame a.mode a.state c.step_at-step.ensures c.put_step.ensures c.given_by.ensures c.go_on.ensures
