-- `scribe::parts::put_piece` meets its contract, by what the piece is.
use native.Mathlib.Omega.{arith}
use Rattle.scribe.proofs.parts.put_piece.Goals as goal

pub put_literal-requires : goal.put_literal-requires
put_literal-requires c =
    let h = rw c.in-Literal.is at c.requires.0 in
    omega (arith, h)

pub put_argument-requires : goal.put_argument-requires
put_argument-requires c = rw c.in-Placeholder.is at c.requires

pub returns-in-Literal : goal.returns-in-Literal
returns-in-Literal c = rw c.in-Literal.is c.put_literal.ensures

pub returns-in-Placeholder : goal.returns-in-Placeholder
returns-in-Placeholder c = rw c.in-Placeholder.is c.put_argument.ensures
