-- A text's pieces and error records, written as numbers over the first of two lists.
use Rattle.std.specs.Prelude.{ℕ, ◌≡◌, List, length}
use Rattle.frame.specs.declared.Frame.{Frame}
use Rattle.frame.specs.declared.Mode.{Mode}
use Rattle.reading.specs.Lists.{pieces, errors}
use Rattle.reading.specs.Wants.{wants}
use Rattle.reading.specs.Written.{over}
use Rattle.laws.specs.MoveLaws.{given, stop_of}
use Rattle.words.specs.Calls.{pieces_in, errors_in}
use Rattle.fills.specs.declared.run.Filled.{Filled}

-- both lists are filled, and r says how many records they have, how many arguments the pieces want, how much was given back and where reading stopped
pub record Fills (t : List ℕ) (f : Frame) (m : Mode) (ps ps' es es' : List ℕ) (r : Filled) : Type 0 where
  pub arguments : r.arguments ≡ wants (pieces t f m)
  pub given : r.given ≡ given t f m
  pub stop : r.stop ≡ stop_of t f m
  pub pieces : r.pieces ≡ length (pieces t f m)
  pub errors : r.errors ≡ length (errors t f m)
  pub wrote_pieces : ps' ≡ over (pieces_in t f m) ps
  pub wrote_errors : es' ≡ over (errors_in t f m) es
