-- The whole reading of a text in which codes stand, beside the parser's answer: nothing is wrong exactly where the parser gives elements, and
-- then the pieces are theirs; and no error is recorded exactly where nothing is wrong. Rests on Steps and Unique.
use Rattle.std.specs.Prelude.{◌≡◌, refl, length}
use Rattle.std.proofs.Common.{ap, sym, ◌∙◌, arith}
use mathlib.Core.List.{List, [], ◌∷◌, ◌++◌}
use Prim.Native.Nat.{ℕ, zero, suc, ◌<◌}
use Rattle.frame.specs.declared.Frame.{Frame}
use Rattle.frame.specs.declared.Mode.{Mode}
use Rattle.reading.specs.Steps.{step_at, onward, follow, steps_from, reading}
use Rattle.reading.specs.Faults.{step_slots, wrong as wrongOnes, faults_of}
use Rattle.reading.specs.Lists.{gather, pieces_of as stepPieces, errors}
use Rattle.laws.specs.ListLaws.{no_length, errors_length}
use Rattle.reading.specs.declared.State.{State}
use Rattle.reading.specs.declared.Step.{Step as ReadStep}
use Rattle.grammar.specs.Grammar.{Element}
use Rattle.grammar.specs.Pieces.{end_of, piece_at, pieces_of}
use Rattle.unique.specs.Device.Runs.{never}
use Rattle.unique.specs.Device.Parser.{step, Answer, none, some, more, parse}
use Rattle.unique.specs.Device.Made.{step_made}
use Rattle.unique.specs.Device.Splits.{split}
use Rattle.unique.specs.Device.Unique.{case_s, step_shorter, parse_piece, parse_done, parse_wrong}
use Rattle.unique.specs.Device.Stands.{Stands, part_place}
use Rattle.unique.specs.Device.Steps.{Took, step_same}

-- of two lists that come to nothing neither has anything
pub append_none : {A : Type 0} (xs ys : List A) → xs ++ ys ≡ [] → (xs ≡ []) × (ys ≡ [])
append_none [] ys h = (refl, h)
append_none (x ∷ xs) ys h = absurd (never h)

-- NO ERROR IS RECORDED exactly where nothing is wrong: there are as many of the one as of the other
pub errors_faults : (t : List ℕ) (f : Frame) (m : Mode) → errors t f m ≡ [] → gather faults_of (reading t f m) ≡ []
errors_faults t f m h = no_length (gather faults_of (reading t f m)) (sym (errors_length t f m) ∙ ap length h)

pub faults_errors : (t : List ℕ) (f : Frame) (m : Mode) → gather faults_of (reading t f m) ≡ [] → errors t f m ≡ []
faults_errors t f m h = no_length (errors t f m) (errors_length t f m ∙ ap length h)

-- THE WHOLE READING
abbrev pub Whole : ℕ → State → Answer → List ReadStep → Type 0
Whole q s none xs = gather faults_of xs ≡ [] → ⊥
Whole q s (some es) xs = (gather faults_of xs ≡ []) × (gather stepPieces xs ≡ pieces_of q s.at.0 s.next es)

module _ (t : List ℕ) (f : Frame) (m : Mode) where
  -- a step, and then the rest
  more_whole : (s : State) (e : Element) (u : List ℕ) (x : ReadStep) (k : Took t f m s e u x) → k.to.at.0 ≡ end_of s.at.0 e →
      (a : Answer) (xs : List ReadStep) → Whole f.quote k.to a xs → Whole f.quote s (more e a) (x ∷ xs)
  unfolding more gather pieces_of
  more_whole s e u x k p none xs w = λ h. w (append_none (faults_of x) (gather faults_of xs) h).1
  more_whole s e u x k p (some es) xs w = (
    rw k.clean w.0,
    rw k.pieces (ap (λ l. piece_at f.quote s.at.0 s.next e ∷ l) (rw (← p, ← k.number) w.1)),
  )

  -- the end
  ended : (s : State) (x : ReadStep) → x ≡ ReadStep.End → (go : State → List ReadStep) → Whole f.quote s (some []) (x ∷ follow go (onward s x))
  unfolding gather pieces_of faults_of step_slots wrongOnes
  ended s x z go = rw z (refl, refl)

  pub whole : (k : ℕ) (s : State) (cs : List ℕ) → Stands t s.at.0 cs → length cs < k → Whole f.quote s (parse m k cs) (steps_from k t f m s)
  unfolding steps_from gather
  whole zero s cs h l = absurd (omega arith)
  whole (suc k) s cs h l =
      let x : ReadStep = step_at t f m s in
      let y = step_same t f m s cs h in
      case_s (step m cs)
      (λ e u q.
      let z : Took t f m s e u x = rw q at y in
      let p = part_place t s.at.0 z.to.at.0 (split e) cs u (step_made m cs q).spelled h z.stands in
      rw (parse_piece m k cs q, z.goes)
      (more_whole s e u x z p (parse m k u) (steps_from k t f m z.to) (whole k z.to u z.stands (omega (arith, step_shorter m cs q)))))
      (λ q. let z : x ≡ ReadStep.End = rw q at y in rw (parse_done m k cs q) (ended s x z (steps_from k t f m)))
      (λ q.
      let z : faults_of x ≡ [] → ⊥ = rw q at y in
      rw (parse_wrong m k cs q) (λ g. z (append_none (faults_of x) (gather faults_of (follow (steps_from k t f m) (onward s x))) g).0))
