-- `scribe::run::put_text` meets its contract. The invariant: what is left of the plain form is that of the pieces from the cursor on.
use lib.ListN.{length}
use Rattle.turns.specs.Turns.{pieces_at}
use Rattle.scribe.specs.RunLaws.{Going}
use Rattle.scribe.proofs.run.put_text.Given as goal

abbrev pub invariant-loop-turn : goal.invariant-loop-turn
invariant-loop-turn l = Going l.text l.frame l.mode l.initial.out l.out l.cursor l.k

abbrev pub decreases-loop-turn : goal.decreases-loop-turn
decreases-loop-turn l = length (pieces_at l.text l.frame l.mode l.cursor)
