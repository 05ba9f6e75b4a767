-- One step of the reading, and the steps of a whole text.
use Rattle.std.specs.Prelude.{ℕ, zero, suc, ◌+◌, List, [], ◌∷◌, ltb, length, Option, Some, None}
use Prim.Native.Char.{code}
use Rattle.utf8.specs.Choice.{pick}
use Rattle.frame.specs.Places.{place, range_of}
use Rattle.frame.specs.declared.TextPlace.{TextPlace}
use Rattle.frame.specs.declared.Frame.{Frame}
use Rattle.scan.specs.Characters.{consumed, text_end}
use Rattle.closing.specs.Wholes.{placeholder_read}
use Rattle.frame.specs.declared.Mode.{Mode}
use Rattle.reading.specs.Wants.{larger, argument_wants}
use Rattle.reading.specs.declared.State.{State}
use Rattle.reading.specs.declared.Step.{Step}

abbrev pub state_of : TextPlace → ℕ → ℕ → State
state_of at n w = record { at = at; next = n; arguments = w }

-- "`{{` or `}}` with the run after it"; "A literal's view starts at the second brace of a doubled one." (R5.1, R5.2)
unfoldable pub after_open : List ℕ → Frame → Mode → TextPlace → TextPlace → ℕ → Step
after_open t f m brace at n =
    let second = consumed t at (code "{") in
    pick second.ate (Step.Literal (range_of at (text_end t second.at))) (Step.Placeholder (placeholder_read t f m brace at n))

-- "The reader stops at the end or at a lone `}`" (R5.1, R5.2)
unfoldable pub after_close : List ℕ → TextPlace → TextPlace → Step
after_close t brace at =
    let second = consumed t at (code "}") in
    pick second.ate (Step.Literal (range_of at (text_end t second.at))) (Step.Stop brace)

-- the step where reading stands (R5.1)
unfoldable pub step_at : List ℕ → Frame → Mode → State → Step
step_at t f m s =
    let open' = consumed t s.at (code "{") in
    let close = consumed t s.at (code "}") in
    pick (ltb s.at.0 (length t))
    (pick open'.ate (after_open t f m s.at open'.at s.next)
    (pick close.ate (after_close t s.at close.at)
    (Step.Literal (range_of s.at (text_end t s.at)))))
    Step.End

-- where reading goes on after a step from a state; an argument may want more than those before it (R5.1, R8.6, R5.19)
abbrev pub onward : State → Step → Option State
onward s Step.End = None
onward s (Step.Stop p) = None
onward s (Step.Literal r) = Some (state_of r.end s.next s.arguments)
onward s (Step.Placeholder p) = Some (state_of p.at p.next (larger s.arguments (argument_wants p.argument)))

-- what follows a step
abbrev pub follow : (State → List Step) → Option State → List Step
follow more None = []
follow more (Some s) = more s

-- the steps from a state, at most k of them
unfoldable pub steps_from : ℕ → List ℕ → Frame → Mode → State → List Step
steps_from zero t f m s = []
steps_from (suc k) t f m s = step_at t f m s ∷ follow (steps_from k t f m) (onward s (step_at t f m s))

abbrev pub start : State
start = state_of (place 0) 0 0

-- the steps of a text, to the first None: each but the last passes a byte (R1.7)
unfoldable pub reading : List ℕ → Frame → Mode → List Step
reading t f m = steps_from (length t + 1) t f m start
