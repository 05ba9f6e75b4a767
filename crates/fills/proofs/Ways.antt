-- The lane's steps, one after another: their pieces are laid as one. Rests on Lane, Spoiling and writing's Overlays, and on `laws`' StepLaws.
use Prim.Native.Nat.{ℕ, ◌+◌, ◌-◌, ◌*◌, ◌≤◌, ◌<◌}
use mathlib.Core.Path.{◌≡◌, sym, ap, subst, ◌∙◌}
use mathlib.Core.List.{List, [], ◌++◌}
use native.Mathlib.Omega.{arith}
use lib.ListN.{length, length-append}
use Rattle.frame.specs.declared.Frame.{Frame}
use Rattle.frame.specs.declared.Mode.{Mode}
use Rattle.reading.specs.Lists.{gather, pieces_of}
use Rattle.laws.specs.ListLaws.{gather_append}
use Rattle.laws.specs.MoveLaws.{given_by}
use Rattle.laws.specs.StepLaws.{step_later}
use Rattle.reading.specs.Steps.{step_at}
use Rattle.reading.specs.declared.Piece.{Piece}
use Rattle.reading.specs.declared.State.{State}
use Rattle.words.specs.Laid.{laid}
use Rattle.words.specs.LaidLaws.{laid_length, laid_on, piece_words_length}
use Rattle.words.specs.Layout.{piece_words}
use Rattle.writing.proofs.Overlays.{laid_none, gather_length}
use Rattle.passing.specs.Clear.{Clear}
use Rattle.fills.specs.Lane.{Tried, Way, LaneRoom, LaneRan}

-- WHERE THE LANE STANDS: the steps so far are passed, and their pieces written
pub record OnWay (t : List ℕ) (f : Frame) (m : Mode) (s₀ : State) (n₀ : ℕ) (ps₀ : List ℕ) (s : State) (n g : ℕ) (ps : List ℕ) : Type 0 where
  pub passed : List Piece
  pub way : Way t f m s₀ passed g s
  pub count : n ≡ n₀ + length passed
  pub wrote : ps ≡ laid ps₀ (40 * n₀) (gather piece_words passed)

module _ (t : List ℕ) (f : Frame) (m : Mode) (s₀ : State) (n₀ : ℕ) (ps₀ : List ℕ) where
  -- at first
  pub way_first : OnWay t f m s₀ n₀ ps₀ s₀ n₀ 0 ps₀
  unfolding gather
  way_first = record { passed = []; way = Way.none; count = omega arith; wrote = sym (laid_none ps₀ (40 * n₀)) }

  module _ (room : LaneRoom t f m s₀ n₀ ps₀) {s : State} {n b : ℕ} {ps : List ℕ} (g : OnWay t f m s₀ n₀ ps₀ s n b ps) where
    many : length (gather piece_words g.passed) ≡ 40 * length g.passed
    many = gather_length piece_words 40 piece_words_length g.passed

    -- the list keeps its length
    pub way_same : length ps ≡ length ps₀
    way_same = ap length g.wrote ∙ laid_length ps₀ (40 * n₀) (gather piece_words g.passed) (omega (arith, many, room.pieces g.way))

    -- there is room for the step where it stands
    pub way_room : 40 * (n + length (pieces_of (step_at t f m s))) ≤ length ps
    way_room = omega (arith, room.pieces g.way, g.count, way_same)

    -- it is passed
    pub way_on : {a : State} {ps₁ : List ℕ} → Clear t f m s a → ps₁ ≡ laid ps (40 * n) (gather piece_words (pieces_of (step_at t f m s))) →
        {x : ℕ} → x ≡ given_by (step_at t f m s) → OnWay t f m s₀ n₀ ps₀ a (n + 1) (b + x) ps₁
    way_on {a} c w {x} e =
        let xs = g.passed in
        let ys = pieces_of (step_at t f m s) in
        let many_ys = gather_length piece_words 40 piece_words_length ys in
        let q : 40 * n ≡ 40 * n₀ + length (gather piece_words xs) = omega (arith, many, g.count) in
        let r : 40 * n₀ + length (gather piece_words xs) + length (gather piece_words ys) ≤ length ps₀ = omega (arith, many, many_ys, room.pieces g.way) in
        record {
          passed = xs ++ ys;
          way = subst (λ (k : ℕ). Way t f m s₀ (xs ++ ys) k a) (ap (λ (k : ℕ). b + k) (sym e)) (Way.more g.way c);
          count = omega (arith, g.count, length-append xs ys, c.one);
          wrote = w ∙ rw (g.wrote, q) (laid_on ps₀ (40 * n₀) (gather piece_words xs) (gather piece_words ys) r) ∙ ap (laid ps₀ (40 * n₀)) (sym (gather_append piece_words xs ys));
        }

    -- or the lane stops there
    pub way_done : {ps₁ : List ℕ} → Tried t f m s n ps ps₁ → LaneRan t f m s₀ n₀ ps₀ (record { state = s; pieces = n; given = b }) ps₁
    way_done w = record { passed = g.passed; way = g.way; count = g.count; tried = rw g.wrote at w }

-- a step that is passed passes a byte
pub clear_later : (t : List ℕ) (f : Frame) (m : Mode) (s a : State) → Clear t f m s a → length t - a.at.0 < length t - s.at.0
clear_later t f m s a c = let l = step_later t f m s c.goes in omega (arith, l.within, l.on)
