-- A whole text written step by step: some pieces and records are written, the steps left give the rest. Then what the two runs of `fill` leave.
-- Rests on StepsWritten, Filling, Noting and Overlays, and on `laws`' WalkLaws, FaultLaws and ListLaws.
use Rattle.std.specs.Prelude.{Option, Some, None}
use Prim.Native.Nat.{ℕ, zero, suc, ◌+◌, ◌-◌, ◌*◌, ◌≤◌, ◌<◌}
use mathlib.Core.Path.{◌≡◌, refl, sym, ap, subst, ◌∙◌}
use mathlib.Core.List.{List, [], ◌∷◌, ◌++◌}
use native.Mathlib.Nat.{zero-add}
use native.Mathlib.Omega.{arith}
use lib.ListN.{length, length-append}
use Rattle.frame.specs.Bounds.{Small}
use Rattle.frame.specs.declared.Frame.{Frame}
use Rattle.frame.specs.declared.Mode.{Mode}
use Rattle.reading.specs.Faults.{step_slots, wrong, faults_of, Finding}
use Rattle.reading.specs.Lists.{gather, pieces_of, pieces, front_only, back_only, reversed, listed, records, findings, found, errors}
use Rattle.laws.specs.ListLaws.{gather_append, gather_more, parts_length, findings_more, findings_none, errors_found}
use Rattle.reading.specs.Steps.{step_at, onward, follow, steps_from, start, reading}
use Rattle.laws.specs.MoveLaws.{given_by, given_in, given, stop_of, given_on, given_last, step_given}
use Rattle.laws.specs.StepLaws.{step_later}
use Rattle.laws.specs.StateLaws.{last_state, last_on, last_over, arguments_all}
use Rattle.reading.specs.Wants.{wants}
use Rattle.laws.specs.WalkLaws.{Kept, kept_start, kept_on, steps_some, steps_on, steps_over}
use Rattle.reading.specs.declared.Piece.{Piece}
use Rattle.reading.specs.declared.State.{State}
use Rattle.reading.specs.declared.Step.{Step}
use Rattle.reading.specs.Written.{over}
use Rattle.words.specs.Laid.{laid}
use Rattle.words.specs.LaidLaws.{laid_length, laid_on, piece_words_length}
use Rattle.words.specs.Layout.{piece_words, error_words}
use Rattle.fills.specs.Filling.{Fills}
use Rattle.words.specs.Calls.{pieces_in, errors_in}
use Rattle.writing.specs.StepsWritten.{Noted, noted_by, notes, noticed, StepRoom, Stepped, SteppedOn}
use Rattle.passing.specs.Clear.{Clear}
use Rattle.fills.specs.Lane.{Way, LaneRoom, LaneRan, Figures, fresh, Ran}
use Rattle.fills.specs.declared.lane.Stopped.{Stopped}
use Rattle.writing.specs.declared.Extent.{Extent}
use Rattle.writing.specs.declared.StepWritten.{StepWritten}
use Rattle.writing.proofs.Overlays.{laid_none, laid_first, over_again, gather_length}
use Rattle.fills.proofs.Stopping.{left_end, left_over}
use Rattle.writing.proofs.Noting.{noticed_none, noticed_same, notes_none, Left, left_first, left_on, left_room, in_words, words_more, words_none, words_length, Counted, notes_counted, notes_placed}

-- HOW MANY: there are as many records as go to the front and to the back
module _ (t : List ℕ) (f : Frame) (m : Mode) where
  pub parts_count : length (front_only (found t f m)) + length (back_only (found t f m)) ≡ length (errors t f m)
  parts_count = parts_length (found t f m) ∙ sym (errors_found t f m)

  words_all : (xs : List Finding) → gather error_words (records t f xs) ≡ in_words t f xs
  unfolding gather records
  words_all [] = sym (words_none t f)
  words_all (x ∷ xs) = rw (words_more t f x xs, words_all xs)

  -- and their numbers are those of the front, the last first, and of the back
  pub errors_words : errors_in t f m ≡ in_words t f (reversed (front_only (found t f m)) ++ back_only (found t f m))
  unfolding errors_in errors listed
  errors_words = words_all (listed (found t f m))

-- PIECES: some are written, and with the rest laid after them the list is as it is to be
pub record Laying (old : List ℕ) (all : List Piece) (new : List ℕ) (n : ℕ) (rest : List Piece) : Type 0 where
  pub gives : laid new (40 * n) (gather piece_words rest) ≡ laid old 0 (gather piece_words all)
  pub count : n + length rest ≡ length all
  pub same : length new ≡ length old

laying_first : (old : List ℕ) (all : List Piece) → Laying old all old 0 all
laying_first old all = record { gives = refl; count = omega arith; same = refl }

module _ {old : List ℕ} {all : List Piece} {new : List ℕ} {n : ℕ} {rest : List Piece} (g : Laying old all new n rest) where
  -- none is left
  laying_done : rest ≡ [] → (n ≡ length all) × (new ≡ over (gather piece_words all) old)
  unfolding gather
  laying_done e =
      (omega (arith, g.count, ap length e), sym (laid_none new (40 * n)) ∙ rw e at g.gives ∙ laid_first old (gather piece_words all))

  module _ (xs ys : List Piece) (e : rest ≡ xs ++ ys) (room : 40 * length all ≤ length old) where
    -- there is room for the next ones
    laying_room : 40 * (n + length xs) ≤ length new
    laying_room = omega (arith, g.count, g.same, ap length e, length-append xs ys)

    -- and when they are written, for the others
    laying_on : {new' : List ℕ} {k : ℕ} → k ≡ n + length xs → new' ≡ laid new (40 * n) (gather piece_words xs) → Laying old all new' k ys
    laying_on {new'} {k} c w =
        let a = gather_length piece_words 40 piece_words_length xs in
        let b = gather_length piece_words 40 piece_words_length ys in
        let l = length-append xs ys in
        let h = ap length e in
        let q : 40 * k ≡ 40 * n + length (gather piece_words xs) = omega arith in
        let r : 40 * n + length (gather piece_words xs) + length (gather piece_words ys) ≤ length new = omega (arith, g.count, g.same) in
        let j : laid new (40 * n) (gather piece_words xs ++ gather piece_words ys) ≡ laid old 0 (gather piece_words all) =
        rw (e, gather_append piece_words xs ys) at g.gives
        in
        record {
          gives = rw (w, q) (laid_on new (40 * n) (gather piece_words xs) (gather piece_words ys) r ∙ j);
          count = omega (arith, g.count);
          same = rw w (laid_length new (40 * n) (gather piece_words xs) (omega arith)) ∙ g.same;
        }

-- a step's findings, and those of the steps after it
found_more : (n : ℕ) (x : Step) (xs : List Step) → findings n (x ∷ xs) ≡ noticed n (step_slots x) ++ findings (n + length (pieces_of x)) xs
unfolding noticed faults_of
found_more n x xs = findings_more n x xs

-- A RUN: what is written, where reading stands, and how many turns are left
pub record Going (t : List ℕ) (f : Frame) (m : Mode) (k : ℕ) (ps₀ es₀ ps es : List ℕ) (s : State) (r : Extent) (left : ℕ) : Type 0 where
  pub pieces : Laying ps₀ (pieces t f m) ps r.pieces (gather pieces_of (steps_from left t f m s))
  pub errors : Left t f (fresh k es₀) (found t f m) (noted_by r es) (findings r.pieces (steps_from left t f m s))
  pub kept : Kept left s
  pub last : last_state left t f m s ≡ last_state (length t + 1) t f m start
  pub inside : s.at.0 ≤ length t
  pub far : length t < s.at.0 + left

module _ (t : List ℕ) (f : Frame) (m : Mode) where
  module _ (k : ℕ) (ps₀ es₀ : List ℕ) (room : 40 * length (pieces t f m) ≤ length ps₀) where
    -- at the start
    going_first : Small t f → 16 * length (errors t f m) ≤ length es₀ → k ≤ length (front_only (found t f m)) →
        Going t f m k ps₀ es₀ ps₀ es₀ start (record { pieces = 0; low = k; high = k; fronts = 0 }) (length t + 1)
    unfolding pieces found reading
    going_first small r h =
        let c = parts_count t f m in
        record {
          pieces = laying_first ps₀ (pieces t f m);
          errors =
              left_first t f {s = fresh k es₀} {all = found t f m}
              (record { back = omega arith; front = omega arith; count = omega arith });
          kept = kept_start t small.text;
          last = refl;
          inside = omega arith;
          far = omega arith;
        }

    -- all is written
    ran : {ps es : List ℕ} {r : Extent} → Laying ps₀ (pieces t f m) ps r.pieces [] → Left t f (fresh k es₀) (found t f m) (noted_by r es) [] →
        Ran t f m k ps₀ es₀ r ps es
    unfolding notes pieces_in
    ran p l = record { pieces = (laying_done p refl).0; wrote = (laying_done p refl).1; noted = l.gives }

    module _ {ps es : List ℕ} (s : State) {r : Extent} (left : ℕ) (g : Going t f m k ps₀ es₀ ps es s r left) where
      -- there is room for the step where reading stands
      going_room : 0 < left → StepRoom (step_at t f m s) r ps es
      going_room h =
          let x = step_at t f m s in
          let more = follow (steps_from (left - 1) t f m) (onward s x) in
          let e = steps_some t f m s refl left h in
          record {
            pieces =
                laying_room g.pieces (pieces_of x) (gather pieces_of more) (ap (gather pieces_of) e ∙ gather_more pieces_of x more) room;
            errors = left_room t f (noticed r.pieces (step_slots x)) (findings (r.pieces + length (pieces_of x)) more) (rw (e, found_more r.pieces x more) at g.errors);
          }

      module _ {r' : Extent} {ps' es' : List ℕ} (d : Stepped t f (step_at t f m s) r ps es r' ps' es') (more : List Step)
          (e : steps_from left t f m s ≡ step_at t f m s ∷ more) where
        -- when the step is written, those after it are left
        pieces_on : Laying ps₀ (pieces t f m) ps' r'.pieces (gather pieces_of more)
        pieces_on =
            laying_on g.pieces (pieces_of (step_at t f m s)) (gather pieces_of more)
            (ap (gather pieces_of) e ∙ gather_more pieces_of (step_at t f m s) more) room d.pieces d.wrote

        errors_on : Left t f (fresh k es₀) (found t f m) (noted_by r' es') (findings r'.pieces more)
        errors_on =
            let x = step_at t f m s in
            rw d.pieces (left_on t f (noticed r.pieces (step_slots x)) (rw (e, found_more r.pieces x more) at g.errors) d.noted)

      module _ {o : StepWritten} {ps' es' : List ℕ} (h : 0 < left) (d : SteppedOn t f m s r ps es o ps' es') where
        -- reading goes on
        going_on : {a : State} → o.next ≡ Some a → Going t f m k ps₀ es₀ ps' es' a o.extent (left - 1)
        going_on {a} y =
            let to = sym d.next ∙ y in
            let more = steps_from (left - 1) t f m a in
            let e = steps_on t f m s refl left h to in
            record {
              pieces = pieces_on d.stepped more e;
              errors = errors_on d.stepped more e;
              kept = kept_on t f m s refl left h to g.kept;
              last = sym (last_on t f m s refl left h to) ∙ g.last;
              inside = (step_later t f m s to).inside;
              far = omega (arith, (step_later t f m s to).on, g.far, h);
            }

        -- it is over
        going_over : o.next ≡ None → Ran t f m k ps₀ es₀ o.extent ps' es'
        unfolding gather
        going_over n =
            let e = steps_over t f m s refl left h (sym d.next ∙ n) in
            ran (pieces_on d.stepped [] e) (rw findings_none at (errors_on d.stepped [] e))

        wanted_over : o.next ≡ None → s.arguments ≡ wants (pieces t f m)
        wanted_over n = ap (λ (s : State). s.arguments) (sym (last_over t f m s refl left (sym d.next ∙ n)) ∙ g.last) ∙ arguments_all t f m

-- PIECES MORE, laid after others
laid_more : (ps : List ℕ) (n : ℕ) (xs ys : List Piece) → 40 * (n + length xs + length ys) ≤ length ps →
    laid (laid ps (40 * n) (gather piece_words xs)) (40 * (n + length xs)) (gather piece_words ys) ≡ laid ps (40 * n) (gather piece_words (xs ++ ys))
laid_more ps n xs ys h =
    let x = gather_length piece_words 40 piece_words_length xs in
    let y = gather_length piece_words 40 piece_words_length ys in
    let q : 40 * (n + length xs) ≡ 40 * n + length (gather piece_words xs) = omega (arith, x) in
    ap (λ (i : ℕ). laid (laid ps (40 * n) (gather piece_words xs)) i (gather piece_words ys)) q
    ∙ laid_on ps (40 * n) (gather piece_words xs) (gather piece_words ys) (omega (arith, x, y, h))
    ∙ ap (laid ps (40 * n)) (sym (gather_append piece_words xs ys))

none_more : (ps : List ℕ) (k : ℕ) → laid ps k (gather piece_words []) ≡ ps
unfolding gather
none_more ps k = laid_none ps k

-- HOW MUCH IS GIVEN BACK: not much
given_some : (t : List ℕ) (f : Frame) (m : Mode) → length t ≤ 65535 → (k : ℕ) (s : State) → given_in (steps_from k t f m s) ≤ 262140 * k
unfolding steps_from given_in
given_some t f m h zero s = omega arith
given_some t f m h (suc k) s = go (onward s (step_at t f m s)) (λ a. given_some t f m h k a)
  where
    go : (o : Option State) → ((a : State) → given_in (steps_from k t f m a) ≤ 262140 * k) →
        given_by (step_at t f m s) + given_in (follow (steps_from k t f m) o) ≤ 262140 * suc k
    go None rest = omega (arith, step_given t f m s, h)
    go (Some a) rest = omega (arith, step_given t f m s, h, rest a)

pub given_all : (t : List ℕ) (f : Frame) (m : Mode) → length t ≤ 65535 → given t f m ≤ 262140 * 65536
unfolding given reading
given_all t f m h = omega (arith, given_some t f m h (length t + 1) start, h)

-- A RUN, whatever number of turns is left: there is one more, since each step passes a byte. So much was given back
pub record Underway (t : List ℕ) (f : Frame) (m : Mode) (k : ℕ) (ps₀ es₀ ps es : List ℕ) (s : State) (r : Extent) (g : ℕ) : Type 0 where
  pub left : ℕ
  pub going : Going t f m k ps₀ es₀ ps es s r left
  pub back : g + given_in (steps_from left t f m s) ≡ given t f m

-- what is written after some pieces more
abbrev pub further : Extent → ℕ → Extent
further r n = record { pieces = n; low = r.low; high = r.high; fronts = r.fronts }

module _ (t : List ℕ) (f : Frame) (m : Mode) (k : ℕ) (ps₀ es₀ : List ℕ) (room : 40 * length (pieces t f m) ≤ length ps₀) where
  -- at the start
  pub underway_first : Small t f → 16 * length (errors t f m) ≤ length es₀ → k ≤ length (front_only (found t f m)) →
      Underway t f m k ps₀ es₀ ps₀ es₀ start (record { pieces = 0; low = k; high = k; fronts = 0 }) 0
  unfolding given reading
  underway_first small r h = record { left = length t + 1; going = going_first t f m k ps₀ es₀ room small r h; back = zero-add _ }

  module _ {ps es : List ℕ} {s : State} {r : Extent} {g : ℕ} (u : Underway t f m k ps₀ es₀ ps es s r g) where
    one_left : 0 < u.left
    one_left = omega (arith, u.going.inside, u.going.far)

    -- there is room for the step where reading stands
    pub standing_room : StepRoom (step_at t f m s) r ps es
    standing_room = going_room t f m k ps₀ es₀ room s u.left u.going one_left

    pub standing_next : s.next < 0xFFFFE
    standing_next = omega (arith, u.going.kept.next)

    module _ {o : StepWritten} {ps' es' : List ℕ} (d : SteppedOn t f m s r ps es o ps' es') where
      -- reading goes on
      pub underway_on : {a : State} → o.next ≡ Some a → Underway t f m k ps₀ es₀ ps' es' a o.extent (g + o.given)
      underway_on y =
          record {
            left = u.left - 1;
            going = going_on t f m k ps₀ es₀ room s u.left u.going one_left d y;
            back = omega (arith, u.back, d.given, given_on t f m s refl u.left one_left (sym d.next ∙ y));
          }

      -- it is over
      pub underway_over : o.next ≡ None → Ran t f m k ps₀ es₀ o.extent ps' es' × Figures t f m s.arguments (g + o.given) s.at.0
      unfolding stop_of
      underway_over n = (
        going_over t f m k ps₀ es₀ room s u.left u.going one_left d n,
        record {
          wanted = wanted_over t f m k ps₀ es₀ room s u.left u.going one_left d n;
          gave = omega (arith, u.back, d.given, given_last t f m s refl u.left one_left (sym d.next ∙ n));
          stopped = ap (λ (s : State). s.at.0) (sym (last_over t f m s refl u.left (sym d.next ∙ n)) ∙ u.going.last);
        },
      )

    -- a step that the lane passes
    clear_on : {a : State} → Clear t f m s a →
        Underway t f m k ps₀ es₀ (laid ps (40 * r.pieces) (gather piece_words (pieces_of (step_at t f m s)))) es a (further r (r.pieces + length (pieces_of (step_at t f m s)))) (g + given_by (step_at t f m s))
    unfolding wrong
    clear_on {a} c =
        underway_on {o = record { next = Some a; extent = further r (r.pieces + length (pieces_of (step_at t f m s))); given = given_by (step_at t f m s) }}
        (record {
          stepped = record {
            pieces = refl;
            wrote = refl;
            noted = sym (rw (noticed_same r.pieces (step_slots (step_at t f m s)) [] c.clean, noticed_none r.pieces) (notes_none t f (noted_by r es)));
          };
          next = sym c.goes;
          given = refl;
        })
        refl

  -- the same list and figures
  same_underway : (r : Extent) {ps ps' es : List ℕ} {s : State} {n n' g g' : ℕ} → ps ≡ ps' → n ≡ n' → g ≡ g' →
      Underway t f m k ps₀ es₀ ps es s (further r n) g → Underway t f m k ps₀ es₀ ps' es s (further r n') g'
  same_underway r {ps} {ps'} {es} {s} {n} {n'} {g} {g'} e c b u =
      subst (λ (l : List ℕ). Underway t f m k ps₀ es₀ l es s (further r n') g') e
      (subst (λ (i : ℕ). Underway t f m k ps₀ es₀ ps es s (further r i) g') c (subst (λ (i : ℕ). Underway t f m k ps₀ es₀ ps es s (further r n) i) b u))

  -- all those that it passes
  pub underway_way : {ps es : List ℕ} {s : State} {r : Extent} {g : ℕ} → Underway t f m k ps₀ es₀ ps es s r g → {xs : List Piece} {h : ℕ} {a : State} → Way t f m s xs h a →
      Underway t f m k ps₀ es₀ (laid ps (40 * r.pieces) (gather piece_words xs)) es a (further r (r.pieces + length xs)) (g + h)
  underway_way {ps} {es} {s} {r} {g} u Way.none = same_underway r (sym (none_more ps (40 * r.pieces))) (omega arith) (omega arith) u
  underway_way {ps} {es} {s} {r} {g} u (Way.more {xs} {h} {a} {b} w c) =
      let v = underway_way u w in
      let ys = pieces_of (step_at t f m a) in
      same_underway r (laid_more ps r.pieces xs ys (omega (arith, (standing_room v).pieces, v.going.pieces.same, u.going.pieces.same)))
      (omega (arith, length-append xs ys))
      (omega arith)
      (clear_on v c)

  module _ (small : length t ≤ 65535) {ps es : List ℕ} {s : State} {r : Extent} {g : ℕ} (u : Underway t f m k ps₀ es₀ ps es s r g) where
    -- so much is given back at most
    pub back_few : g + given_by (step_at t f m s) ≤ 0x7FFFFFFFFFFF
    back_few = omega (arith, u.back, given_all t f m small, step_given t f m s, small)

  module _ (small : length t ≤ 65535) {ps es : List ℕ} {s : State} {r : Extent} {g : ℕ} (u : Underway t f m k ps₀ es₀ ps es s r g) where
    -- wherever the lane leads there is room
    pub lane_room : LaneRoom t f m s r.pieces ps
    lane_room =
        record {
          pieces = λ w. let v = underway_way u w in omega (arith, (standing_room v).pieces, v.going.pieces.same, u.going.pieces.same);
          next = λ w. standing_next (underway_way u w);
          given = λ w. omega (arith, back_few small (underway_way u w));
        }

    -- where it stopped
    module _ {o : Stopped} {ps₁ : List ℕ} (d : LaneRan t f m s r.pieces ps o ps₁) where
      abbrev mid : List ℕ
      mid = laid ps (40 * r.pieces) (gather piece_words d.passed)

      pub lane_underway : Underway t f m k ps₀ es₀ mid es o.state (further r o.pieces) (g + o.given)
      lane_underway = rw d.count (underway_way u d.way)

      -- there is room for the step there in the list as the lane left it
      pub lane_left : length ps₁ ≡ length ps → StepRoom (step_at t f m o.state) (further r o.pieces) ps₁ es
      lane_left same =
          let v = lane_underway in
          record { pieces = omega (arith, (standing_room v).pieces, v.going.pieces.same, u.going.pieces.same, same); errors = (standing_room v).errors }

      -- at the end of the text all is written
      pub lane_over : length t ≤ o.state.at.0 → Ran t f m k ps₀ es₀ (further r o.pieces) ps₁ es × Figures t f m o.state.arguments (g + o.given) o.state.at.0
      lane_over e =
          let w = underway_over lane_underway (left_over t f m o.state d.tried (left_end t f m o.state e)) refl in
          (w.0, record { wanted = w.1.wanted; gave = omega (arith, w.1.gave); stopped = w.1.stopped })

-- A TURN PASSES A BYTE: the lane goes back nowhere
module _ (t : List ℕ) (f : Frame) (m : Mode) where
  way_late : {s : State} {xs : List Piece} {h : ℕ} {a : State} → Way t f m s xs h a → s.at.0 ≤ a.at.0
  way_late Way.none = omega arith
  way_late {s} (Way.more {xs} {h} {a} {b} w c) = omega (arith, way_late w, (step_later t f m a c.goes).on)

  pub run_later : {s a : State} {xs : List Piece} {h : ℕ} → Way t f m s xs h a → {r : Extent} {ps es : List ℕ} {o : StepWritten} {ps' es' : List ℕ} →
      SteppedOn t f m a r ps es o ps' es' → {b : State} → o.next ≡ Some b → length t - b.at.0 < length t - s.at.0
  run_later {s} {a} w d y = let l = step_later t f m a (sym d.next ∙ y) in omega (arith, way_late w, l.within, l.on)

-- TWO RUNS
no_faults : (xs : List Finding) → length xs ≡ 0 → xs ≡ []
no_faults [] e = refl
no_faults (x ∷ xs) e = absurd (omega arith)

module _ (t : List ℕ) (f : Frame) (m : Mode) {ps es ps₁ es₁ : List ℕ} {r : Extent} (room : 16 * length (errors t f m) ≤ length es)
    (g : Ran t f m 0 ps es r ps₁ es₁) where
  abbrev front : List Finding
  front = front_only (found t f m)

  abbrev back : List Finding
  back = back_only (found t f m)

  -- the first counts those of the front, and writes those of the back
  abbrev first : Noted
  first = notes t f (fresh 0 es) (found t f m)

  first_counted : Counted t f (fresh 0 es) (found t f m) first
  first_counted =
      let c = parts_count t f m in
      notes_counted t f (fresh 0 es) (found t f m) refl (record { back = omega arith; front = omega arith; count = omega arith })

  pub first_fronts : r.fronts ≡ length front
  first_fronts = omega (arith, ap (λ (o : Noted). o.fronts) g.noted, first_counted.fronts)

  pub first_high : r.high ≡ length back
  first_high = omega (arith, ap (λ (o : Noted). o.high) g.noted, first_counted.high)

  pub first_errors : r.fronts + r.high ≡ length (errors t f m)
  first_errors = omega (arith, first_fronts, first_high, parts_count t f m)

  first_list : es₁ ≡ over (in_words t f back) es
  first_list = ap (λ (o : Noted). o.list) g.noted ∙ first_counted.list ∙ laid_first es (in_words t f back)

  -- where none goes to the front that is all
  pub filled_once : {w b p : ℕ} → Figures t f m w b p → r.fronts ≡ 0 → Fills t f m ps ps₁ es es₁ (record { pieces = r.pieces; errors = r.fronts + r.high; arguments = w; given = b; stop = p })
  unfolding reversed
  filled_once said z =
      let none : front ≡ [] = no_faults front (omega (arith, first_fronts)) in
      let all : errors_in t f m ≡ in_words t f back = errors_words t f m ∙ rw none in
      record {
        pieces = g.pieces;
        errors = first_errors;
        arguments = said.wanted;
        given = said.gave;
        stop = said.stopped;
        wrote_pieces = g.wrote;
        wrote_errors = first_list ∙ rw all;
      }

  -- else the second writes each to its place
  module _ {r₂ : Extent} {ps₂ es₂ : List ℕ} (d : Ran t f m r.fronts ps₁ es₁ r₂ ps₂ es₂) (same : length es₁ ≡ length es) where
    second_list : es₂ ≡ over (errors_in t f m) es₁
    second_list =
        let c = parts_count t f m in
        let a = first_fronts in
        let z : 16 * (r.fronts - length front) ≡ 0 = omega arith in
        let nothing : es₁ ≡ laid es₁ (16 * r.fronts) (in_words t f []) = rw (words_none t f) (sym (laid_none es₁ (16 * r.fronts))) in
        let placed = notes_placed t f es₁ [] (fresh r.fronts es₁) (found t f m) nothing (omega arith) (omega arith) (omega arith) in
        ap (λ (o : Noted). o.list) d.noted ∙ placed ∙ rw (z, errors_words t f m) (laid_first es₁ (in_words t f (reversed front ++ back)))

    fewer : length (in_words t f back) ≤ length (errors_in t f m)
    fewer =
        omega (
          arith,
          words_length t f back,
          ap length (errors_words t f m),
          words_length t f (reversed front ++ back),
          length-append (reversed front) back,
        )

    pub filled_twice : {w b p : ℕ} → Figures t f m w b p → Fills t f m ps ps₂ es es₂ (record { pieces = r.pieces; errors = r.fronts + r.high; arguments = w; given = b; stop = p })
    filled_twice said =
        record {
          pieces = g.pieces;
          errors = first_errors;
          arguments = said.wanted;
          given = said.gave;
          stop = said.stopped;
          wrote_pieces = d.wrote ∙ rw g.wrote (over_again ps (pieces_in t f m) (pieces_in t f m) (omega arith));
          wrote_errors = second_list ∙ rw first_list (over_again es (in_words t f back) (errors_in t f m) fewer);
        }
