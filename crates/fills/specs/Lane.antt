-- The lane, and a whole text. Rests on passing's Clear, writing's StepsWritten and reading's Lists.
use Rattle.std.specs.Prelude.{ℕ, ◌+◌, ◌*◌, ◌≤◌, ◌<◌, ◌≡◌, List, [], ◌++◌, length, Option, None, Some}
use Rattle.frame.specs.declared.Frame.{Frame}
use Rattle.frame.specs.declared.Mode.{Mode}
use Rattle.reading.specs.Lists.{gather, pieces_of, pieces, found}
use Rattle.reading.specs.Steps.{step_at}
use Rattle.reading.specs.Wants.{wants}
use Rattle.reading.specs.Written.{over}
use Rattle.laws.specs.MoveLaws.{given_by, given, stop_of}
use Rattle.reading.specs.declared.Piece.{Piece}
use Rattle.reading.specs.declared.State.{State}
use Rattle.words.specs.Laid.{laid}
use Rattle.words.specs.Layout.{piece_words}
use Rattle.writing.specs.StepsWritten.{Noted, noted_by, notes}
use Rattle.writing.specs.declared.Extent.{Extent}
use Rattle.words.specs.Calls.{pieces_in}
use Rattle.passing.specs.Clear.{Clear, PassedStep}
use Rattle.passing.specs.declared.Passed.{Passed}
use Rattle.fills.specs.declared.lane.Stopped.{Stopped}

-- THE STEP WHERE THE LANE STOPPED: its own piece is yet to be laid over what was tried there
pub record Tried (t : List ℕ) (f : Frame) (m : Mode) (s : State) (n : ℕ) (ps ps' : List ℕ) : Type 0 where
  pub left : laid ps' (40 * n) (gather piece_words (pieces_of (step_at t f m s))) ≡ laid ps (40 * n) (gather piece_words (pieces_of (step_at t f m s)))

-- A STEP THAT IS PASSED: its piece is written
pub record PassedHere (t : List ℕ) (f : Frame) (m : Mode) (s : State) (n : ℕ) (ps : List ℕ) (r : Passed) (ps' : List ℕ) : Type 0 where
  pub passes : PassedStep t f m s r
  pub wrote : ps' ≡ laid ps (40 * n) (gather piece_words (pieces_of (step_at t f m s)))

-- a step, passed or not
abbrev pub PassedBy : List ℕ → Frame → Mode → State → ℕ → List ℕ → Option Passed → List ℕ → Type 0
PassedBy t f m s n ps None ps' = Tried t f m s n ps ps'
PassedBy t f m s n ps (Some r) ps' = PassedHere t f m s n ps r ps'

-- SUCH STEPS ONE AFTER ANOTHER, from a state to another: the pieces that they give, and how much they give back
pub data Way (t : List ℕ) (f : Frame) (m : Mode) (s : State) : List Piece → ℕ → State → Type 0 where
  none : Way t f m s [] 0 s
  more : {xs : List Piece} {h : ℕ} {a b : State} → Way t f m s xs h a → Clear t f m a b →
      Way t f m s (xs ++ pieces_of (step_at t f m a)) (h + given_by (step_at t f m a)) b

-- wherever they lead there is room for the piece of the step there, and the figures are small
pub record LaneRoom (t : List ℕ) (f : Frame) (m : Mode) (s : State) (n : ℕ) (ps : List ℕ) : Type 0 where
  pub pieces : {xs : List Piece} {g : ℕ} {a : State} → Way t f m s xs g a → 40 * (n + length xs + length (pieces_of (step_at t f m a))) ≤ length ps
  pub next : {xs : List Piece} {g : ℕ} {a : State} → Way t f m s xs g a → a.next < 0xFFFFE
  pub given : {xs : List Piece} {g : ℕ} {a : State} → Way t f m s xs g a → g + given_by (step_at t f m a) ≤ 0xFFFFFFFFFFFF

-- the lane: their pieces are written, and it stopped at the step after them
pub record LaneRan (t : List ℕ) (f : Frame) (m : Mode) (s : State) (n : ℕ) (ps : List ℕ) (r : Stopped) (ps' : List ℕ) : Type 0 where
  pub passed : List Piece
  pub way : Way t f m s passed r.given r.state
  pub count : r.pieces ≡ n + length passed
  pub tried : Tried t f m r.state r.pieces (laid ps (40 * n) (gather piece_words passed)) ps'

-- THE FIGURES OF A READING: how many arguments its pieces want, how much was given back, and where it stopped
pub record Figures (t : List ℕ) (f : Frame) (m : Mode) (arguments back stop : ℕ) : Type 0 where
  pub wanted : arguments ≡ wants (pieces t f m)
  pub gave : back ≡ given t f m
  pub stopped : stop ≡ stop_of t f m

-- A WHOLE TEXT: all pieces, and the records as they are noted one after the other, with room before them for some of the front
abbrev pub fresh : ℕ → List ℕ → Noted
fresh k es = record { low = k; high = k; fronts = 0; list = es }

pub record Ran (t : List ℕ) (f : Frame) (m : Mode) (k : ℕ) (ps es : List ℕ) (r : Extent) (ps' es' : List ℕ) : Type 0 where
  pub pieces : r.pieces ≡ length (pieces t f m)
  pub wrote : ps' ≡ over (pieces_in t f m) ps
  pub noted : noted_by r es' ≡ notes t f (fresh k es) (found t f m)
