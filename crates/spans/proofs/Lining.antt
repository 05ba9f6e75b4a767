-- The lines of literal text, a character, a part or a step at a time, and those that a reading still has. Rests on Filling and
-- reading's Lines, LineLaws, Lists, ListLaws and WalkLaws.
use Rattle.std.specs.Prelude.{Option, Some, None}
use Prim.Native.Nat.{ℕ, ◌+◌, ◌-◌, ◌*◌, ◌≤◌, ◌<◌}
use mathlib.Core.Path.{◌≡◌, refl, sym, ap, ◌∙◌}
use mathlib.Core.Bool.{Bool, true, false}
use mathlib.Core.List.{List, [], ◌∷◌, ◌++◌, append_assoc, append-nil}
use native.Mathlib.Nat.{zero-add}
use lib.ListN.{length}
use Rattle.utf8.specs.Choice.{pick}
use Rattle.utf8.specs.Chars.{Ch}
use Rattle.frame.specs.Places.{place, span_of}
use Rattle.frame.specs.Spans.{to_snippet}
use Rattle.frame.specs.declared.Frame.{Frame}
use Rattle.frame.specs.declared.SnippetPlace.{SnippetPlace}
use Rattle.frame.specs.declared.Span.{Span}
use Rattle.frame.specs.declared.Mode.{Mode}
use Rattle.reading.specs.Lines.{is_newline, ch_start, ch_end, cut, line_after, ended_lines, line_start}
use Rattle.laws.specs.LineLaws.{ended_append, start_append}
use Rattle.reading.specs.Steps.{step_at, onward, follow, steps_from, reading}
use Rattle.reading.specs.Lists.{gather, texts_of, literal_chars, is_end, to_the_end, lines, places_of, places}
use Rattle.laws.specs.ListLaws.{literal_more, plain_lines}
use Rattle.reading.specs.declared.State.{State}
use Rattle.reading.specs.declared.Step.{Step}
use Rattle.spans.specs.Fills.{written, LinesPut, step_chars, last_of}
use Rattle.spans.specs.declared.LineRun.{LineRun}
use Rattle.laws.specs.StepLaws.{not_end}
use Rattle.laws.specs.OrderLaws.{lines_plain}
use Rattle.laws.specs.WalkLaws.{steps_some, steps_on, steps_over}
use Rattle.spans.proofs.Filling.{Going, going_first, going_done, going_room, going_on, put_none, put_one}

-- ONE CHARACTER
module _ (f : Frame) (run : LineRun) (c : Ch) (old : List ℕ) where
  -- a newline asks for room for its line
  pub newline_room : is_newline c ≡ true → 2 * (run.count + length (ended_lines f run.line (c ∷ []))) ≤ length old →
      2 * (run.count + 1) ≤ length old
  unfolding ended_lines pick
  newline_room e room = rw e at room

  -- and ends the line
  pub newline_put : {new : List ℕ} {end past : SnippetPlace} → is_newline c ≡ true → end ≡ ch_start f c → past ≡ ch_end f c →
      new ≡ written old run.count (span_of run.line end ∷ []) →
      LinesPut f run (c ∷ []) old new (record { line = past; count = run.count + 1 })
  unfolding ended_lines line_start line_after pick
  newline_put e p q w = record { line = rw e q; put = rw e (put_one w (ap (span_of run.line) p)) }

  -- any other character may be cut
  pub other_put : {start : SnippetPlace} → is_newline c ≡ false → start ≡ cut f run.line c →
      LinesPut f run (c ∷ []) old old (record { line = start; count = run.count })
  unfolding ended_lines line_start line_after pick
  other_put e q = record { line = rw e q; put = rw e (put_none old run.count) }

-- no characters, no lines
pub lines_put_none : (f : Frame) (run : LineRun) (old : List ℕ) → LinesPut f run [] old old run
unfolding line_start ended_lines
lines_put_none f run old =
    record { line = refl; put = put_none old run.count }

-- THE REST: some characters are passed, and with the lines of the rest the list is as it is to be
pub record Lining (f : Frame) (first : LineRun) (all : List Ch) (old new : List ℕ) (run : LineRun) (rest : List Ch) : Type 0 where
  pub line : line_start f run.line rest ≡ line_start f first.line all
  pub going : Going old first.count (ended_lines f first.line all) new run.count (ended_lines f run.line rest)

-- at the start
pub lining_first : (f : Frame) (run : LineRun) (all : List Ch) (old : List ℕ) → Lining f run all old old run all
lining_first f run all old = record { line = refl; going = going_first old run.count (ended_lines f run.line all) }

module _ {f : Frame} {first : LineRun} {all : List Ch} {old new : List ℕ} {run : LineRun} {rest : List Ch}
    (l : Lining f first all old new run rest) where
  -- where none is left
  pub lining_done : rest ≡ [] → LinesPut f first all old new run
  unfolding line_start ended_lines
  lining_done e =
      record {
        line = sym (ap (line_start f run.line) e) ∙ l.line;
        put = going_done l.going (ap (ended_lines f run.line) e);
      }

  module _ (cs ds : List Ch) (e : rest ≡ cs ++ ds) (room : 2 * (first.count + length (ended_lines f first.line all)) ≤ length old) where
    -- the lines of the rest are theirs and the others'
    split : ended_lines f run.line rest ≡ ended_lines f run.line cs ++ ended_lines f (line_start f run.line cs) ds
    split = rw e (ended_append f run.line cs ds)

    -- there is room for the lines of the next ones
    pub lining_room : 2 * (run.count + length (ended_lines f run.line cs)) ≤ length new
    lining_room = going_room l.going (ended_lines f run.line cs) (ended_lines f (line_start f run.line cs) ds) split room

    -- and when they are written, for the others'
    pub lining_on : {new' : List ℕ} {on : LineRun} → LinesPut f run cs new new' on → Lining f first all old new' on ds
    lining_on {on = on} p =
        record {
          line = rw p.line (sym (start_append f run.line cs ds) ∙ sym (ap (line_start f run.line) e) ∙ l.line);
          going =
              rw p.line
              (going_on l.going (ended_lines f run.line cs) (ended_lines f (line_start f run.line cs) ds) split room p.put);
        }

-- some characters, and then others
module _ (f : Frame) (run : LineRun) (old : List ℕ) (cs ds : List Ch)
    (room : 2 * (run.count + length (ended_lines f run.line (cs ++ ds))) ≤ length old) where
  -- there is room for the lines of the first
  pub join_first : 2 * (run.count + length (ended_lines f run.line cs)) ≤ length old
  join_first = lining_room (lining_first f run (cs ++ ds) old) cs ds refl room

  module _ {mid : List ℕ} {on : LineRun} (p : LinesPut f run cs old mid on) where
    rest : Lining f run (cs ++ ds) old mid on ds
    rest = lining_on (lining_first f run (cs ++ ds) old) cs ds refl room p

    -- then for those of the others
    pub join_second : 2 * (on.count + length (ended_lines f on.line ds)) ≤ length mid
    join_second = lining_room rest ds [] (sym (append-nil ds)) room

    -- and then all are written
    pub join : {new : List ℕ} {last : LineRun} → LinesPut f on ds mid new last → LinesPut f run (cs ++ ds) old new last
    join q = lining_done (lining_on rest ds [] (sym (append-nil ds)) room q) refl

-- THE LINES THAT A READING STILL HAS, where the line starts at a place
unfoldable pub lines_left : List ℕ → Frame → SnippetPlace → List Step → List Span
lines_left t f line steps =
    ended_lines f line (literal_chars t steps) ++
    pick (to_the_end steps) (span_of (line_start f line (literal_chars t steps)) f.end ∷ []) []

module _ (t : List ℕ) (f : Frame) where
  -- none where no step is left
  pub lines_left_none : (line : SnippetPlace) → lines_left t f line [] ≡ []
  unfolding lines_left literal_chars gather to_the_end ended_lines pick
  lines_left_none line = refl

  module _ (line : SnippetPlace) (x : Step) where
    -- those of a step after which reading goes on, and then the others
    pub lines_left_on : (xs : List Step) (s : State) {a : State} → onward s x ≡ Some a →
        lines_left t f line (x ∷ xs) ≡ ended_lines f line (step_chars t x) ++ lines_left t f (line_start f line (step_chars t x)) xs
    unfolding lines_left to_the_end pick
    lines_left_on xs s g =
        rw (
          not_end s x g,
          literal_more t x xs,
          ended_append f line (step_chars t x) (literal_chars t xs),
          start_append f line (step_chars t x) (literal_chars t xs),
        ) (append_assoc (ended_lines f line (step_chars t x)) _ _)

    -- those of the last step, and the last line
    pub lines_left_over : lines_left t f line (x ∷ []) ≡ ended_lines f line (step_chars t x) ++ last_of f (line_start f line (step_chars t x)) x
    unfolding lines_left literal_chars to_the_end gather pick
    lines_left_over = rw (append-nil (texts_of x), ends (is_end x))
      where
        ends : (b : Bool) → pick b true false ≡ b
        ends true = refl
        ends false = refl

  module _ (m : Mode) where
    -- those after a step: the last line where reading is over, those from the next step on where it goes on
    abbrev pub lines_after : ℕ → SnippetPlace → Step → Option State → List Span
    lines_after k line x None = last_of f line x
    lines_after k line x (Some a) = lines_left t f line (steps_from k t f m a)

    module _ (s : State) {x : Step} (e : x ≡ step_at t f m s) (k : ℕ) (some : 0 < k) where
      -- a step's argument places, and then the others
      pub places_some : gather (places_of t f) (steps_from k t f m s) ≡
          places_of t f x ++ gather (places_of t f) (follow (steps_from (k - 1) t f m) (onward s x))
      unfolding gather
      places_some = rw (steps_some t f m s e k some)

      -- a step's lines, and then the others
      pub lines_some : (line : SnippetPlace) → lines_left t f line (steps_from k t f m s) ≡
          ended_lines f line (step_chars t x) ++ lines_after (k - 1) (line_start f line (step_chars t x)) x (onward s x)
      lines_some line = go (onward s x) refl
        where
          go : (o : Option State) → onward s x ≡ o → lines_left t f line (steps_from k t f m s) ≡
              ended_lines f line (step_chars t x) ++ lines_after (k - 1) (line_start f line (step_chars t x)) x o
          go None g = ap (lines_left t f line) (steps_over t f m s e k some g) ∙ lines_left_over line x
          go (Some a) g =
              ap (lines_left t f line) (steps_on t f m s e k some g) ∙ lines_left_on line x (steps_from (k - 1) t f m a) s g

      module _ {old new : List ℕ} {all : List Span} (run : LineRun) (room : 2 * (0 + length all) ≤ length old)
          (g : Going old 0 all new run.count (lines_left t f run.line (steps_from k t f m s))) where
        -- there is room for a step's lines
        pub step_room : 2 * (run.count + length (ended_lines f run.line (step_chars t x))) ≤ length new
        step_room =
            going_room g (ended_lines f run.line (step_chars t x))
            (lines_after (k - 1) (line_start f run.line (step_chars t x)) x (onward s x)) (lines_some run.line) room

        -- and when they are written, for the others
        pub step_written : {new' : List ℕ} {on : LineRun} → LinesPut f run (step_chars t x) new new' on →
            Going old 0 all new' on.count (lines_after (k - 1) on.line x (onward s x))
        step_written {on = on} p =
            rw p.line
            (going_on g (ended_lines f run.line (step_chars t x))
            (lines_after (k - 1) (line_start f run.line (step_chars t x)) x (onward s x)) (lines_some run.line) room p.put)

    -- a source literal has all lines still at its start
    pub lines_all : f.literal ≡ true → {first : SnippetPlace} → first ≡ to_snippet f (place 0) →
        lines t f m ≡ lines_left t f first (reading t f m)
    unfolding plain_lines lines_left pick to_snippet
    lines_all e h = lines_plain t f m ∙ rw (e, h, zero-add)

    pub places_all : f.literal ≡ true → places t f m ≡ gather (places_of t f) (reading t f m)
    unfolding places pick
    places_all e = rw e
