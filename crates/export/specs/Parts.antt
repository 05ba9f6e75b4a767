-- What the parts of a call come to: the lists at exit by the answer's number, and when a text need not be counted first. Rests on Calls.
use Rattle.std.specs.Prelude.{ℕ, ◌*◌, ◌≤◌, ◌≡◌, Bool, true, false, List, length}
use Rattle.frame.specs.Bounds.{Small}
use Rattle.frame.specs.declared.Frame.{Frame}
use Rattle.frame.specs.declared.Mode.{Mode}
use Rattle.reading.specs.Lists.{pieces, places, lines, counts_of}
use Rattle.reading.specs.Moves.{moves}
use Rattle.reading.specs.Wants.{wants}
use Rattle.reading.specs.Answers.{answered, frame_for, mode_for}
use Rattle.laws.specs.Deciding.{counted_by}
use Rattle.reading.specs.Written.{over, pairs}
use Rattle.reading.specs.Exits.{at_exit}
use Rattle.answer.specs.Asking.{freshly, asked_answer}
use Rattle.answer.specs.declared.Asked.{Asked}
use Rattle.reading.specs.declared.Request.{Request}
use Rattle.reading.specs.declared.Rooms.{Rooms}
use Rattle.reading.specs.declared.Answer.{Answer}
use Rattle.words.specs.Calls.{pieces_in, errors_in}
use Rattle.words.specs.Calls.{request_of, rooms_in}

-- no list can be too short for a text of n bytes: each piece and each error has a byte of its own, and only a source literal has spans
pub record Roomy (n : ℕ) (f : Frame) (r : Rooms) : Type 0 where
  pub literal : f.literal ≡ false
  pub pieces : n ≤ r.pieces
  pub errors : n ≤ r.errors

-- the same of lists of numbers
pub record Ample (t : List ℕ) (f : Frame) (ps es : List ℕ) : Type 0 where
  pub small : Small t f
  pub literal : f.literal ≡ false
  pub pieces : 40 * length t ≤ length ps
  pub errors : 16 * length t ≤ length es

-- a text that is read without being counted first: done, and both lists filled
pub record Filled (t : List ℕ) (f : Frame) (m : Mode) (ps ps' es es' : List ℕ) (a : Answer) : Type 0 where
  pub answer : a ≡ answered 0 0 (counts_of t f m) (wants (pieces t f m)) (moves t f m)
  pub pieces : ps' ≡ over (pieces_in t f m) ps
  pub errors : es' ≡ over (errors_in t f m) es

-- the four lists at exit, by the answer's number
pub record Lists (t : List ℕ) (f : Frame) (m : Mode) (number : ℕ) (ps ps' es es' ls ls' ns ns' : List ℕ) : Type 0 where
  pub pieces : ps' ≡ at_exit number (pieces_in t f m) ps
  pub errors : es' ≡ at_exit number (errors_in t f m) es
  pub places : ls' ≡ at_exit number (pairs (places t f m)) ls
  pub lines : ns' ≡ at_exit number (pairs (lines t f m)) ns

-- a text that is read by a frame and a mode
pub record ReadBy (t : List ℕ) (f : Frame) (m : Mode) (ps ps' es es' ls ls' ns ns' : List ℕ) (a : Answer) : Type 0 where
  pub answer : a ≡ counted_by t f m (rooms_in ps es ls ns)
  pub lists : Lists t f m a.number ps ps' es es' ls ls' ns ns'

-- a call on a text of which something may be known
pub record Read (t s : List ℕ) (q : Asked) (ps ps' es es' ls ls' ns ns' : List ℕ) (a : Answer) : Type 0 where
  pub answer : a ≡ asked_answer q t s (rooms_in ps es ls ns)
  pub lists : Lists t (frame_for t s q.request) (mode_for q.request) a.number ps ps' es es' ls ls' ns ns'

-- lists of p and of e numbers have a record for each byte of a text of n bytes, which is within the limit
pub record Enough (n p e : ℕ) : Type 0 where
  pub text : n ≤ 65535
  pub pieces : 40 * n ≤ p
  pub errors : 16 * n ≤ e

-- A BARE REQUEST asks for nothing beside the text: Format mode, no style, no snippet, no appended newline
abbrev pub bare_request : Request
bare_request = request_of 0 0 0 0 0

-- a call whose lists are ample, and whose numbers make such a request, however many hashes they name
pub record Bare (a : Bool) (mode style given newline : ℕ) : Type 0 where
  pub ample : a ≡ true
  pub request : (hashes : ℕ) → request_of mode style hashes given newline ≡ bare_request

-- a call with such a request on a fresh text: it is read alike whatever the snippet and the lists of spans hold, and these stay
pub record ReadBare (t ps ps' es es' : List ℕ) (a : Answer) : Type 0 where
  pub read : (s ls ns : List ℕ) → Read t s (freshly bare_request) ps ps' es es' ls ls ns ns a
