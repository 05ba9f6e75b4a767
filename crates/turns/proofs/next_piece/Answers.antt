-- `turns::next_piece` meets its contract: the step at the cursor is the run's first, each step but the last has one piece,
-- and the pieces after it are those where reading goes on.
use Prim.Native.Nat.{◌<◌}
use native.Mathlib.Omega.{arith}
use mathlib.Core.Path.{sym, ◌∙◌}
use Rattle.laws.specs.WantLaws.{few_step}
use Rattle.turns.proofs.Turning.{pieces_none, pieces_over, pieces_on, fresh_on}
use Rattle.turns.proofs.next_piece.Goals as goal

pub returns-then-cursor-eq0 : goal.returns-then-cursor-eq0
returns-then-cursor-eq0 c =
    record { says = sym (pieces_none c.args.text.now c.args.frame c.args.mode c.args.cursor (omega arith)); fresh = tt }

pub go_on-requires : goal.go_on-requires
go_on-requires c =
    few_step c.args.text.now c.args.frame c.args.mode c.args.cursor.state (omega (arith, c.requires.1.0.next)) c.step_at-step.ensures

pub returns-in_err-state : goal.returns-in_err-state
returns-in_err-state c =
    let some : 0 < c.args.cursor.left = omega arith in
    let over = sym c.go_on.ensures ∙ c.in_err-state.was in
    rw c.from_residual.ensures
    record {
      says = sym (pieces_over c.args.text.now c.args.frame c.args.mode c.args.cursor some c.step_at-step.ensures over);
      fresh = tt;
    }

pub returns : goal.returns
returns c =
    let some : 0 < c.args.cursor.left = omega arith in
    let step = c.step_at-step.ensures in
    let on = sym c.go_on.ensures ∙ c.in_ok-state.was in
    let piece = sym c.piece_of.ensures ∙ c.in_ok-piece.was in
    record {
      says = sym (pieces_on c.args.text.now c.args.frame c.args.mode c.args.cursor some step on piece);
      fresh = fresh_on c.args.text.now c.args.frame c.args.mode c.args.cursor some step on c.requires.1;
    }
