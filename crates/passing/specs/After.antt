-- Where reading stands after a placeholder that is told. Rests on quick's Tellings and reading's Wants.
use Rattle.std.specs.Prelude.{ℕ, ◌+◌}
use Rattle.utf8.specs.Choice.{pick}
use Rattle.frame.specs.Places.{place}
use Rattle.placeholder.specs.Arguments.{resolved}
use Rattle.placeholder.specs.declared.Place.{Place}
use Rattle.reading.specs.Steps.{state_of}
use Rattle.reading.specs.Wants.{larger, place_wants}
use Rattle.reading.specs.declared.State.{State}
use Rattle.quick.specs.Tellings.{found_of, after_star, next_of}
use Rattle.quick.specs.declared.CountKind.{CountKind}
use Rattle.quick.specs.declared.PlacePart.{PlacePart}
use Rattle.quick.specs.declared.PlaceholderTold.{PlaceholderTold}

-- the place that starts at a byte; one that is not written takes the argument's number
unfoldable pub place_of : ℕ → PlacePart → ℕ → Place
place_of at p n = (resolved (found_of at p) n).place

-- how many arguments a width or a precision wants: an argument's number that is written, or a star's
abbrev pub kind_wants : ℕ → CountKind → ℕ
kind_wants n CountKind.Nothing = 0
kind_wants n (CountKind.Number value) = 0
kind_wants n (CountKind.Argument value) = value + 1
kind_wants n CountKind.Star = n + 1
kind_wants n CountKind.Name = 0
kind_wants n CountKind.Dot = 0

-- the larger of a figure and what its counts want
unfoldable pub with_counts : ℕ → ℕ → PlaceholderTold → ℕ
with_counts n figure x = pick x.colon (larger (larger figure (kind_wants n x.spec.width.kind)) (kind_wants n x.spec.precision.kind)) figure

-- where reading stands after it
unfoldable pub told_state : State → PlaceholderTold → State
told_state s x =
    state_of (place x.on) (next_of s.next x)
    (larger (with_counts s.next s.arguments x) (place_wants (place_of 0 x.place (after_star s.next x.spec.precision))))
