-- `fills::lane::pass_literal` meets its contract: the step is literal text, and its view is what is written.
use Rattle.fills.proofs.Passing.{literal_fits, literal_passed}
use Rattle.fills.proofs.lane.pass_literal.Goals as goal

pub put_literal-requires : goal.put_literal-requires
put_literal-requires c =
    let a = c.args in
    literal_fits a.text.now a.frame a.mode a.state a.n a.pieces.now c.requires.0 c.requires.1

pub returns : goal.returns
returns c =
    let a = c.args in
    literal_passed a.text.now a.frame a.mode a.state a.n a.pieces.now c.requires.0 c.put_literal.ensures
