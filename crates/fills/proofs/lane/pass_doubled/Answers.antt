-- `fills::lane::pass_doubled` meets its contract: the step at a doubled brace is literal text from the second one on.
use Prim.Native.Nat.{◌+◌}
use mathlib.Core.Path.{ap, ◌∙◌}
use native.Mathlib.Omega.{arith}
use Rattle.frame.specs.Places.{place, range_of}
use Rattle.frame.specs.declared.TextPlace.{TextPlace}
use Rattle.reading.specs.declared.Step.{Step}
use Rattle.passing.proofs.Stepping.{doubled_within, step_doubled}
use Rattle.fills.proofs.lane.pass_doubled.Goals as goal

pub overflow_add-start : goal.overflow_add-start
overflow_add-start c = omega (arith, c.requires.0.text, doubled_within c.args.text.now c.args.state.at.0 c.requires.2)

pub overflow_add-i : goal.overflow_add-i
overflow_add-i c = omega (arith, c.requires.0.text, doubled_within c.args.text.now c.args.state.at.0 c.requires.2)

pub pass_literal-requires : goal.pass_literal-requires
pass_literal-requires c =
    let a = c.args in
    (ap (λ (p : TextPlace). Step.Literal (range_of (place (a.state.at.0 + 1)) p)) (rw c.whole.ensures at c.string_end-end.ensures) ∙ step_doubled a.text.now a.frame a.mode a.state (doubled_within a.text.now a.state.at.0 c.requires.2) c.requires.2, c.requires.1)
