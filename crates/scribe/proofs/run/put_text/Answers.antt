-- `scribe::run::put_text` meets its contract. The invariant: what is left of the plain form is that of the pieces from the cursor on.
use Rattle.turns.specs.TurnLaws.{fresh_first}
use Rattle.scribe.specs.RunLaws.{going_first, piece_asked, going_on, going_less, going_last}
use Rattle.scribe.proofs.run.put_text.Goals as goal

pub loop-turn-init : goal.loop-turn-init
loop-turn-init c =
    let a = c.args in
    rw c.first_cursor-cursor.ensures (going_first a.text.now a.frame a.mode a.out.now (fresh_first a.text.now c.requires.0.text) c.requires.2)

pub next_piece-requires : goal.next_piece-requires
next_piece-requires c = (c.requires.0, c.loop-turn.invariant.fresh)

pub put_piece-k-requires : goal.put_piece-k-requires
put_piece-k-requires c =
    let a = c.args in
    piece_asked a.text.now a.frame a.mode c.loop-turn.invariant c.in-Some.ensures c.requires.1

pub loop-turn-smaller : goal.loop-turn-smaller
loop-turn-smaller c =
    let a = c.args in
    going_less a.text.now a.frame a.mode c.loop-turn.invariant c.in-Some.ensures

pub loop-turn-preserved : goal.loop-turn-preserved
loop-turn-preserved c =
    let a = c.args in
    going_on a.text.now a.frame a.mode c.loop-turn.invariant c.in-Some.ensures c.put_piece-k.ensures

pub returns : goal.returns
returns c =
    let a = c.args in
    going_last a.text.now a.frame a.mode c.loop-turn.invariant c.in_default.ensures
