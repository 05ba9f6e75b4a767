-- `fills::lane::pass` meets its contract: the byte there says which step it is.
use mathlib.Core.Path.{sym, ap, ◌∙◌}
use mathlib.Core.Logic.{inr}
use Rattle.frame.specs.Places.{range_of}
use Rattle.frame.specs.declared.TextPlace.{TextPlace}
use Rattle.reading.specs.declared.Step.{Step}
use Rattle.fills.proofs.Passing.{tried_none}
use Rattle.passing.proofs.Stepping.{step_literal}
use Rattle.fills.proofs.lane.pass.Goals as goal

pub returns-then-text-i : goal.returns-then-text-i
returns-then-text-i c = let a = c.args in tried_none a.text.now a.frame a.mode a.state a.n a.pieces.now

pub pass_doubled-requires : goal.pass_doubled-requires
pass_doubled-requires c =
    let s = c.requires in
    (s.0, s.2, inr (c.if-b-eq125.true, sym c.byte.ensures ∙ c.if-byte-eq125.true))

pub returns-then-b-eq125 : goal.returns-then-b-eq125
returns-then-b-eq125 c = let a = c.args in tried_none a.text.now a.frame a.mode a.state a.n a.pieces.now

pub pass_literal-requires : goal.pass_literal-requires
pass_literal-requires c =
    let a = c.args in
    (ap (λ (p : TextPlace). Step.Literal (range_of a.state.at p)) c.literal_end-end.ensures ∙ step_literal a.text.now a.frame a.mode a.state c.if-text-i.false c.if-b-eq123.false c.if-b-eq125.false, c.requires.2)
