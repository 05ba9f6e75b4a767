-- What lists of numbers have room for, and what they hold at exit. Rests on Calls, Parts, and the laws of answer and reading.
use Rattle.std.specs.Prelude.{Option, Some, None}
use Prim.Native.Nat.{ℕ, zero, suc, ◌+◌, ◌*◌, ◌≤◌}
use mathlib.Core.Path.{◌≡◌, refl, sym, ap, ◌∙◌}
use mathlib.Core.Bool.{false}
use mathlib.Core.List.{List, [], ◌∷◌}
use native.Mathlib.Omega.{arith}
use borrow.Author.Tests.{eq-eqb, ne_eqb, le-ltb}
use lib.Dec.{eqb}
use lib.ListN.{length, set}
use lib.Seq.{sets-eq}
use Rattle.utf8.specs.Choice.{pick}
use Rattle.frame.specs.Bounds.{Small}
use Rattle.frame.specs.declared.Frame.{Frame}
use Rattle.frame.specs.declared.Mode.{Mode}
use Rattle.reading.specs.Lists.{pieces, errors, places, lines, counts_of}
use Rattle.reading.specs.Wants.{wants}
use Rattle.reading.specs.Moves.{moves}
use Rattle.reading.specs.Steps.{step_at, onward, follow, steps_from, start, reading}
use Rattle.reading.specs.declared.State.{State}
use Rattle.laws.specs.MoveLaws.{given, given_in, stop_of, moves_told, step_given}
use Rattle.laws.proofs.MovesTold.{moves_told_lem}
use Rattle.laws.specs.ListLaws.{no_places, no_lines}
use Rattle.laws.specs.RoomLaws.{few_pieces, few_errors}
use Rattle.reading.specs.declared.Counts.{Counts}
use Rattle.reading.specs.Answers.{answered}
use Rattle.laws.specs.Deciding.{room_for}
use Rattle.laws.specs.AnswerLaws.{room_enough}
use Rattle.reading.specs.Written.{over, pairs}
use Rattle.reading.specs.Exits.{at_exit}
use Rattle.reading.specs.declared.Rooms.{Rooms}
use Rattle.reading.specs.declared.Answer.{Answer}
use Rattle.fills.specs.Filling.{Fills}
use Rattle.words.specs.Calls.{pieces_in, errors_in}
use Rattle.fills.specs.declared.run.Filled.{Filled as Found}
use Rattle.words.specs.Calls.{rooms_in, answer_words}
use Rattle.export.specs.Parts.{Roomy, Ample, Filled, ReadBy}

-- an answer's eight numbers, set one after the other
pub eight : (l : List ℕ) (a : Answer) → 8 ≤ length l →
    set (set (set (set (set (set (set (set l 0 a.number) 1 a.place) 2 a.counts.pieces) 3 a.counts.errors) 4 a.counts.places) 5 a.counts.lines) 6 a.arguments) 7 a.moves ≡
    over (answer_words a) l
unfolding over answer_words
eight l a h = sets-eq (a.number ∷ a.place ∷ a.counts.pieces ∷ a.counts.errors ∷ a.counts.places ∷ a.counts.lines ∷ a.arguments ∷ a.moves ∷ []) l 0 h

-- a list at exit, where the number is 0 and where it is not
module _ (n : ℕ) (new old : List ℕ) where
  pub at_done : n ≡ 0 → over new old ≡ at_exit n new old
  unfolding at_exit pick
  at_done z = rw (eq-eqb n 0 z)

  pub at_refused : (n ≡ 0 → ⊥) → old ≡ at_exit n new old
  unfolding at_exit pick
  at_refused some = rw (ne_eqb n 0 some)

-- a figure as it is said, where the number is 0 and where it is not
said : (w : ℕ) {n : ℕ} → n ≡ 0 → w ≡ pick (eqb n 0) w 0
unfolding pick
said w {n} z = rw (eq-eqb n 0 z)

unsaid : (w : ℕ) {n : ℕ} → (n ≡ 0 → ⊥) → 0 ≡ pick (eqb n 0) w 0
unfolding pick
unsaid w {n} some = rw (ne_eqb n 0 some)

-- nothing over a list
over_none : (old : List ℕ) → old ≡ over (pairs []) old
unfolding over pairs
over_none old = refl

module _ (t : List ℕ) (f : Frame) (m : Mode) where
  -- no list is too short where none can be
  roomy_zero : {r : Rooms} → Roomy (length t) f r → room_for (counts_of t f m) r ≡ 0
  unfolding room_for counts_of pick
  roomy_zero {r} x =
      rw (
        le-ltb r.pieces (length (pieces t f m)) (omega (arith, few_pieces t f m, x.pieces)),
        le-ltb r.errors (length (errors t f m)) (omega (arith, few_errors t f m, x.errors)),
        no_places t f m x.literal,
        no_lines t f m x.literal,
        le-ltb r.places 0 (omega arith),
        le-ltb r.lines 0 (omega arith),
      )

  module _ {ps es : List ℕ} where
    -- a record a byte is room enough
    pub ample_room : Ample t f ps es → Small t f × (40 * length (pieces t f m) ≤ length ps) × (16 * length (errors t f m) ≤ length es)
    ample_room x = (x.small, omega (arith, few_pieces t f m, x.pieces), omega (arith, few_errors t f m, x.errors))

    -- and what is no source literal is filled with that
    pub filled_is : {ps' es' : List ℕ} {r : Found} {v : ℕ} → f.literal ≡ false → Fills t f m ps ps' es es' r → v ≡ moves_told t r.stop r.given →
        Filled t f m ps ps' es es' (answered 0 0 (record { pieces = r.pieces; errors = r.errors; places = 0; lines = 0 }) r.arguments v)
    unfolding counts_of
    filled_is {r = r} {v = v} e x w =
        let same : v ≡ moves t f m = w ∙ ap (λ (k : ℕ). moves_told t k r.given) x.stop ∙ ap (moves_told t (stop_of t f m)) x.given ∙ sym (moves_told_lem t f m) in
        record { answer = rw (same, x.pieces, x.errors, x.arguments, no_places t f m e, no_lines t f m e); pieces = x.wrote_pieces; errors = x.wrote_errors }

  -- what is given back can be counted
  given_sum : length t ≤ 65535 → (k : ℕ) (s : State) → given_in (steps_from k t f m s) ≤ k * 262140
  unfolding steps_from given_in
  given_sum h zero s = omega arith
  given_sum h (suc k) s = go (onward s (step_at t f m s)) (given_sum h k)
    where
      go : (o : Option State) → ((a : State) → given_in (steps_from k t f m a) ≤ k * 262140) → given_in (step_at t f m s ∷ follow (steps_from k t f m) o) ≤ suc k * 262140
      go None on = omega (arith, step_given t f m s)
      go (Some a) on = omega (arith, step_given t f m s, on a)

  pub given_small : length t ≤ 65535 → {n : ℕ} → n ≡ given t f m → n ≤ 0xFFFFFFFFFFFF
  unfolding given reading
  given_small h e = omega (arith, e, given_sum h (length t + 1) start)

  module _ (ps es ls ns : List ℕ) where
    -- lists of numbers with room for so many records
    pub record Ready : Type 0 where
      pub pieces : 40 * length (pieces t f m) ≤ length ps
      pub errors : 16 * length (errors t f m) ≤ length es
      pub places : 2 * length (places t f m) ≤ length ls
      pub lines : 2 * length (lines t f m) ≤ length ns

    -- where the counts say so
    pub ready : {n : ℕ} {c : Counts} {r : Rooms} → n ≡ room_for c r → c ≡ counts_of t f m → r ≡ rooms_in ps es ls ns → n ≡ 0 → Ready
    unfolding rooms_in counts_of
    ready {c = c} {r = r} p e q z =
        let x = room_enough (counts_of t f m) (rooms_in ps es ls ns) (rw (e, q) at (sym p ∙ z)) in
        record { pieces = omega (arith, x.pieces); errors = omega (arith, x.errors); places = omega (arith, x.places); lines = omega (arith, x.lines) }

    -- where no list can be too short
    pub ample : {r : Rooms} → Small t f → r ≡ rooms_in ps es ls ns → Roomy (length t) f r → Ample t f ps es
    unfolding rooms_in
    ample small q x =
        let y = rw q at x in
        record { small = small; literal = y.literal; pieces = omega (arith, y.pieces); errors = omega (arith, y.errors) }

    -- THE LISTS AT EXIT
    module _ {n : ℕ} {c : Counts} {r : Rooms} (p : n ≡ room_for c r) (e : c ≡ counts_of t f m) (q : r ≡ rooms_in ps es ls ns) where
      -- a list without room leaves them all
      pub refused_by_lem : (n ≡ 0 → ⊥) → ReadBy t f m ps ps es es ls ls ns ns (answered n 0 c 0 0)
      refused_by_lem some =
          record {
            answer = ap (λ (w : ℕ). answered n 0 c w 0) (unsaid (wants (pieces t f m)) some) ∙ ap (answered n 0 c _) (unsaid (moves t f m) some) ∙ rw (p, e, q);
            lists =
                record {
                  pieces = at_refused n (pieces_in t f m) ps some;
                  errors = at_refused n (errors_in t f m) es some;
                  places = at_refused n (pairs (places t f m)) ls some;
                  lines = at_refused n (pairs (lines t f m)) ns some;
                };
          }

      -- with room each is filled
      pub done_by : {w v : ℕ} {ps' es' ls' ns' : List ℕ} → w ≡ wants (pieces t f m) → v ≡ moves t f m → n ≡ 0 → ps' ≡ over (pieces_in t f m) ps → es' ≡ over (errors_in t f m) es →
          ls' ≡ over (pairs (places t f m)) ls → ns' ≡ over (pairs (lines t f m)) ns →
          ReadBy t f m ps ps' es es' ls ls' ns ns' (answered n 0 c w v)
      done_by {w} {v} ew ev z a b d g =
          record {
            answer = ap (λ (x : ℕ). answered n 0 c x v) (ew ∙ said (wants (pieces t f m)) z) ∙ ap (answered n 0 c _) (ev ∙ said (moves t f m) z) ∙ rw (p, e, q);
            lists =
                record {
                  pieces = a ∙ at_done n (pieces_in t f m) ps z;
                  errors = b ∙ at_done n (errors_in t f m) es z;
                  places = d ∙ at_done n (pairs (places t f m)) ls z;
                  lines = g ∙ at_done n (pairs (lines t f m)) ns z;
                };
          }

    -- and so it is where no list can be too short; the lists of spans stay
    pub roomy_by : {r : Rooms} {ps' es' : List ℕ} {a : Answer} → r ≡ rooms_in ps es ls ns → Roomy (length t) f r → Filled t f m ps ps' es es' a →
        ReadBy t f m ps ps' es es' ls ls ns ns a
    roomy_by {r = r} q x y =
        rw y.answer
        (done_by (sym (roomy_zero x)) refl q refl refl refl y.pieces y.errors (rw (no_places t f m x.literal) (over_none ls)) (rw (no_lines t f m x.literal) (over_none ns)))
