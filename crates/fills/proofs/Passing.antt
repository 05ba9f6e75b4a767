-- Steps of the lane: what is passed, what is left, and where it stops. Rests on Lane and passing's Passings.
use Prim.Native.Nat.{ℕ, ◌+◌, ◌*◌, ◌≤◌, ◌<◌}
use mathlib.Core.Path.{◌≡◌, refl, sym, ap, ◌∙◌}
use mathlib.Core.Bool.{true}
use mathlib.Core.List.{List}
use native.Mathlib.Omega.{arith}
use lib.ListN.{length, get_or}
use Rattle.frame.specs.Places.{place}
use Rattle.frame.specs.declared.Frame.{Frame}
use Rattle.frame.specs.declared.Mode.{Mode}
use Rattle.frame.specs.declared.TextRange.{TextRange}
use Rattle.closing.specs.Wholes.{placeholder_read}
use Rattle.reading.specs.Lists.{gather, pieces_of}
use Rattle.laws.specs.ListLaws.{gather_one}
use Rattle.laws.specs.MoveLaws.{given_by}
use Rattle.reading.specs.Steps.{state_of, step_at}
use Rattle.reading.specs.declared.Piece.{Piece}
use Rattle.reading.specs.declared.State.{State}
use Rattle.reading.specs.declared.Step.{Step}
use Rattle.quick.specs.Tellings.{argument_of, told_read, in_mode}
use Rattle.quick.specs.declared.PlaceholderTold.{PlaceholderTold}
use Rattle.words.specs.Laid.{laid}
use Rattle.words.specs.LaidLaws.{piece_words_length}
use Rattle.words.specs.Layout.{literal_words, piece_words}
use Rattle.told.specs.Told.{Spoilt}
use Rattle.flawless.specs.Closed.{FlawlessPut}
use Rattle.passing.specs.After.{told_state}
use Rattle.passing.specs.Clear.{OpenAt, Clear}
use Rattle.passing.proofs.Stepping.{step_open, step_told}
use Rattle.passing.proofs.Passings.{literal_clear, literal_given, open_clear, open_given}
use Rattle.fills.specs.Lane.{Tried, PassedHere}

module _ (t : List ℕ) (f : Frame) (m : Mode) (s : State) (n : ℕ) (ps : List ℕ) where
  -- NOTHING WAS TRIED
  pub tried_none : Tried t f m s n ps ps
  tried_none = record { left = refl }

  -- A STEP THAT IS PASSED
  passed_on : {g : ℕ} {a : State} {ps' : List ℕ} → Clear t f m s a → ps' ≡ laid ps (40 * n) (gather piece_words (pieces_of (step_at t f m s))) →
      g ≡ given_by (step_at t f m s) → PassedHere t f m s n ps (record { state = a; given = g }) ps'
  passed_on c w g = record { passes = record { clear = c; given = g }; wrote = w }

-- LITERAL TEXT is passed
module _ (t : List ℕ) (f : Frame) (m : Mode) (s : State) (n : ℕ) (ps : List ℕ) {view : TextRange} (step : Step.Literal view ≡ step_at t f m s) where
  pub literal_fits : 40 * (n + length (pieces_of (step_at t f m s))) ≤ length ps → 40 * n + 40 ≤ length ps
  literal_fits r = let q = rw (← step) at r in omega (arith, q)

  pub literal_passed : {ps' : List ℕ} → ps' ≡ laid ps (40 * n) (literal_words view) →
      PassedHere t f m s n ps (record { state = state_of view.end s.next s.arguments; given = 0 }) ps'
  literal_passed w =
      passed_on t f m s n ps
      (literal_clear t f m s step)
      (w ∙ ap (laid ps (40 * n)) (sym (gather_one piece_words (Piece.Literal view))) ∙ ap (λ (y : Step). laid ps (40 * n) (gather piece_words (pieces_of y))) step)
      (literal_given t f m s step)

-- A PLACEHOLDER
module _ (t : List ℕ) (f : Frame) (m : Mode) (s : State) (n : ℕ) (ps : List ℕ) (h : s.at.0 < length t) (o : get_or t s.at.0 0 ≡ 0x7B) (d : get_or t (s.at.0 + 1) 0 ≡ 0x7B → ⊥) where
  here : OpenAt t s.at.0
  here = record { within = h; brace = o; alone = d }

  pub open_fits : 40 * (n + length (pieces_of (step_at t f m s))) ≤ length ps → 40 * n + 40 ≤ length ps
  open_fits r = let q = rw (← step_open t f m s h o d) at r in omega (arith, q)

  module _ (room : 40 * n + 40 ≤ length ps) {ps' : List ℕ} (w : Spoilt (40 * n) 40 ps ps') where
    -- one that is not told: the step's own piece goes over what was tried
    pub own_piece : laid ps' (40 * n) (gather piece_words (pieces_of (step_at t f m s))) ≡ laid ps (40 * n) (gather piece_words (pieces_of (step_at t f m s)))
    own_piece =
        let step = step_open t f m s h o d in
        let p = Piece.Placeholder (placeholder_read t f m s.at (place (s.at.0 + 1)) s.next).argument in
        let e : gather piece_words (pieces_of (step_at t f m s)) ≡ piece_words p = ap (λ (y : Step). gather piece_words (pieces_of y)) (sym step) ∙ gather_one piece_words p in
        let c = piece_words_length p in
        rw e (w.gone (40 * n) (piece_words p) (omega arith) (omega (arith, c)) (omega (arith, c, room)))

    pub open_left : Tried t f m s n ps ps'
    open_left = record { left = own_piece }

  -- one in which nothing is wrong is passed
  module _ {x : PlaceholderTold} {ps' : List ℕ} (p : FlawlessPut t f s.at.0 s.next (40 * n) ps ps' x) (z : in_mode m x.colon ≡ true) where
    step : Step.Placeholder (told_read t f s.at.0 s.next x) ≡ step_at t f m s
    step = step_told t f m s x h o d p.put.tells z

    pub open_passed : {a : State} → a ≡ told_state s x → PassedHere t f m s n ps (record { state = a; given = x.spec.given }) ps'
    unfolding told_read
    open_passed {a} q =
        passed_on t f m s n ps
        (open_clear t f m s here p.put.tells (record { speaks = z; flawless = p.flawless }) q)
        (p.put.wrote ∙ ap (laid ps (40 * n)) (sym (gather_one piece_words (Piece.Placeholder (argument_of t f s.at.0 s.next x))))
        ∙ ap (λ (z : Step). laid ps (40 * n) (gather piece_words (pieces_of z))) step)
        (open_given t f m s here p.put.tells (record { speaks = z; flawless = p.flawless }))
