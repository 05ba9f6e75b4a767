-- What is told to be wrong, as it is noted. Rests on quick's Tellings and reading's Faults.
use Rattle.std.specs.Prelude.{ℕ, ◌+◌, List, [], ◌∷◌, ◌++◌, eqb}
use Rattle.utf8.specs.Choice.{pick}
use Rattle.utf8.specs.Utf8.{peek_at}
use Rattle.frame.specs.Places.{place}
use Rattle.frame.specs.declared.TextPlace.{TextPlace}
use Rattle.closing.specs.Recovery.{gap_at}
use Rattle.reading.specs.Faults.{gap_fault, hint_fault, argument_slots}
use Rattle.reading.specs.declared.Fault.{Fault}
use Rattle.quick.specs.Tellings.{code_seen, blanks_of, placed_hint}
use Rattle.quick.specs.declared.PlaceholderTold.{PlaceholderTold}

-- what says why a closing brace was expected: the fill, which stands after the colon, if it is `}`, else the opening brace
unfoldable pub why_told : List ℕ → TextPlace → PlaceholderTold → TextPlace
why_told t brace x =
    let at = x.to + 1 in
    pick x.colon (pick (eqb at x.spec.fill) brace (pick (eqb (code_seen (peek_at t at)) 0x7D) (place at) brace)) brace

-- what may be wrong where its closing brace is missing: that it is, and what is said of the sign there
unfoldable pub missing_told : List ℕ → ℕ → PlaceholderTold → List Fault
missing_told t brace x =
    gap_fault (gap_at t (place x.close) (why_told t (place brace) x)) ∷
    hint_fault (place brace) (placed_hint x.hint (place x.close)) ∷
    []

-- what may be wrong in it, in the order of reading
unfoldable pub told_slots : List ℕ → ℕ → PlaceholderTold → List Fault
told_slots t brace x = argument_slots (blanks_of (brace + 1) x) ++ pick x.closed [] (missing_told t brace x)
