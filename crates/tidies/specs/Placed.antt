-- What the functions below the call come to. Rests on tidiness's Tidies and plain's page.
use Rattle.std.specs.Prelude.{◌≡◌, List, ℕ, ltb, length}
use Rattle.utf8.specs.Choice.{pick}
use Rattle.frame.specs.Bounds.{Small}
use Rattle.frame.specs.declared.Frame.{Frame}
use Rattle.frame.specs.declared.Mode.{Mode}
use Rattle.pen.specs.Pens.{over}
use Rattle.plain.specs.Plainly.{Accepted, plain_of}
use Rattle.tidiness.specs.declared.Tidied.{Tidied}

-- an answer where nothing is written
abbrev pub refused_by : ℕ → ℕ → ℕ → Tidied
refused_by number at bytes = record { number = number; place = at; bytes = bytes; arguments = 0 }

abbrev pub written_by : ℕ → ℕ → Tidied
written_by bytes arguments = record { number = 0; place = 0; bytes = bytes; arguments = arguments }

-- an accepted text within the limits
pub record Ready (t : List ℕ) (f : Frame) (m : Mode) : Type 0 where
  pub small : Small t f
  pub accepted : Accepted m f t

-- what is answered for it, and the output: 11 or 0, by the room
pub record Placed (t : List ℕ) (f : Frame) (m : Mode) (arguments : ℕ) (out out' : List ℕ) (r : Tidied) : Type 0 where
  pub answer :
      let p = plain_of m f t in
      r ≡ pick (ltb (length out) (length p)) (refused_by 11 0 (length p)) (written_by (length p) arguments)
  pub output : let p = plain_of m f t in out' ≡ pick (ltb (length out) (length p)) out (over out 0 p)
