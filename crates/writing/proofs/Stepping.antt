-- A step's piece and its records, by what the step is, and where reading goes on. Rests on StepsWritten.
use Rattle.std.specs.Prelude.{Option}
use Prim.Native.Nat.{ℕ, ◌+◌, ◌*◌, ◌≤◌}
use mathlib.Core.Path.{◌≡◌, refl, sym, ap, ◌∙◌}
use mathlib.Core.List.{List}
use native.Mathlib.Omega.{arith}
use lib.ListN.{length}
use Rattle.frame.specs.declared.Frame.{Frame}
use Rattle.frame.specs.declared.TextPlace.{TextPlace}
use Rattle.frame.specs.declared.TextRange.{TextRange}
use Rattle.frame.specs.declared.Mode.{Mode}
use Rattle.closing.specs.declared.whole.PlaceholderRead.{PlaceholderRead}
use Rattle.reading.specs.Faults.{step_slots, wrong, marked}
use Rattle.reading.specs.Lists.{gather}
use Rattle.laws.specs.ListLaws.{gather_one}
use Rattle.laws.specs.MoveLaws.{given_by}
use Rattle.reading.specs.Steps.{step_at, onward}
use Rattle.reading.specs.declared.Piece.{Piece}
use Rattle.reading.specs.declared.State.{State}
use Rattle.reading.specs.declared.Step.{Step}
use Rattle.words.specs.Laid.{laid}
use Rattle.words.specs.Layout.{literal_words, argument_words, piece_words}
use Rattle.writing.specs.StepsWritten.{noted_by, notes, noticed, Notes, one_more, StepRoom, Stepped, SteppedOn}
use Rattle.writing.specs.declared.Extent.{Extent}
use Rattle.writing.proofs.Overlays.{laid_none}

module _ (t : List ℕ) (f : Frame) {m : Extent} {ps es : List ℕ} where
  -- THE END gives nothing
  pub stepped_end : Stepped t f Step.End m ps es m ps es
  unfolding gather step_slots notes noticed wrong marked
  stepped_end = record { pieces = omega arith; wrote = sym (laid_none ps (40 * m.pieces)); noted = refl }

  -- A LONE `}` gives a record
  pub stepped_stop : {x : Step} {p : TextPlace} → x ≡ Step.Stop p → {r : Extent} {es' : List ℕ} → Notes t f m es (step_slots x) r es' → Stepped t f x m ps es r ps es'
  unfolding gather
  stepped_stop q n = record { pieces = rw q (omega (arith, n.pieces)); wrote = rw q (sym (laid_none ps (40 * m.pieces))); noted = n.noted }

  -- LITERAL TEXT gives a piece
  module _ {v : TextRange} where
    pub literal_room : StepRoom (Step.Literal v) m ps es → 40 * m.pieces + 40 ≤ length ps
    literal_room r = omega (arith, r.pieces)

    pub stepped_literal : {r : Extent} {ps' : List ℕ} → r ≡ one_more m → ps' ≡ laid ps (40 * m.pieces) (literal_words v) → Stepped t f (Step.Literal v) m ps es r ps' es
    unfolding step_slots notes noticed wrong marked
    stepped_literal e w =
        record {
          pieces = ap (λ (o : Extent). o.pieces) e;
          wrote = w ∙ ap (laid ps (40 * m.pieces)) (sym (gather_one piece_words (Piece.Literal v)));
          noted = ap (λ (o : Extent). noted_by o es) e;
        }

  -- A PLACEHOLDER gives a piece and its records
  module _ {p : PlaceholderRead} where
    pub argument_room : StepRoom (Step.Placeholder p) m ps es → 40 * m.pieces + 40 ≤ length ps
    argument_room r = omega (arith, r.pieces)

    pub stepped_placeholder : {ps' : List ℕ} → ps' ≡ laid ps (40 * m.pieces) (argument_words p.argument) → {o : Extent} {es' : List ℕ} →
        Notes t f m es (step_slots (Step.Placeholder p)) o es' → {r : Extent} → r ≡ one_more o → Stepped t f (Step.Placeholder p) m ps es r ps' es'
    stepped_placeholder w {es' = es'} n e =
        record {
          pieces = ap (λ (o : Extent). o.pieces) e ∙ ap (λ (k : ℕ). k + 1) n.pieces;
          wrote = w ∙ ap (laid ps (40 * m.pieces)) (sym (gather_one piece_words (Piece.Placeholder p.argument)));
          noted = ap (λ (o : Extent). noted_by o es') e ∙ n.noted;
        }

-- WHERE READING GOES ON: as it does after the step
module _ (t : List ℕ) (f : Frame) (m : Mode) (s : State) {x : Step} (e : x ≡ step_at t f m s) {k r : Extent} {ps es ps' es' : List ℕ} (w : Stepped t f x k ps es r ps' es') where
  module _ {g : ℕ} (b : g ≡ given_by x) where
    pub stepped_on : {n : Option State} → n ≡ onward s x → SteppedOn t f m s k ps es (record { next = n; extent = r; given = g }) ps' es'
    stepped_on o = record { stepped = rw (← e) w; next = rw (← e) o; given = rw (← e) b }
