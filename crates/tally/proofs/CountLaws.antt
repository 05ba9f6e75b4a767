-- Laws of the counts: what some steps come to, a step at a time, and that the counts of a whole reading are the lengths of its lists.
-- Rests on Lists and ListLaws.
use Rattle.std.specs.Prelude.{Option, Some, None}
use Prim.Native.Nat.{ℕ, ◌+◌, ◌-◌, ◌≤◌, ◌<◌}
use mathlib.Core.Path.{◌≡◌, refl, sym, ◌∙◌, ap, subst}
use mathlib.Core.Bool.{Bool, true, false}
use mathlib.Core.List.{List, [], ◌∷◌, append-nil}
use native.Mathlib.Nat.{add-zero, zero-add, add_assoc}
use native.Mathlib.Omega.{arith}
use lib.ListN.{length, length-append}
use Rattle.utf8.specs.Choice.{pick}
use Rattle.frame.specs.declared.Frame.{Frame}
use Rattle.frame.specs.declared.Mode.{Mode}
use Rattle.closing.specs.declared.whole.Closing.{Closing}
use Rattle.reading.specs.Steps.{step_at, onward, steps_from, reading}
use Rattle.laws.specs.StepLaws.{steps_more, steps_over, steps_none, not_end}
use Rattle.reading.specs.Faults.{faults_of}
use Rattle.reading.specs.Lines.{chars_in, newlines}
use Rattle.laws.specs.LineLaws.{by_test, newlines_append}
use Rattle.reading.specs.Lists.{gather, pieces_of, pieces, closed_span, places_of, places, missing_text, texts_of, literal_chars, is_end, to_the_end, counts_of}
use Rattle.laws.specs.Counting.{piece_count, closed_count, place_count, closing_lines, line_count, step_counts, sum, Countable}
use Rattle.laws.specs.ListLaws.{gather_one, errors_length, literal_more, plain_lines, lines_length}
use Rattle.laws.specs.OrderLaws.{lines_plain}
use Rattle.passing.specs.Clear.{Clear}
use Rattle.reading.specs.declared.State.{State}
use Rattle.reading.specs.declared.Step.{Step}
use Rattle.reading.specs.declared.Counts.{Counts}

-- counts of four numbers
abbrev made : ℕ → ℕ → ℕ → ℕ → Counts
made p e a l = record { pieces = p; errors = e; places = a; lines = l }

-- counts are equal where each is
same : {p e a l p' e' a' l' : ℕ} → p ≡ p' → e ≡ e' → a ≡ a' → l ≡ l' → made p e a l ≡ made p' e' a' l'
same w x y z = cc

-- nothing before some counts
pub sum_zero : (c : Counts) → sum (made 0 0 0 0) c ≡ c
sum_zero c = same (zero-add _) (zero-add _) (zero-add _) (zero-add _)

-- nothing after them
sum_nothing : (c : Counts) → sum c (made 0 0 0 0) ≡ c
sum_nothing c = same (add-zero _) (add-zero _) (add-zero _) (add-zero _)

-- counts added one after the other
sum_assoc : (a b c : Counts) → sum (sum a b) c ≡ sum a (sum b c)
sum_assoc a b c = same (add_assoc _ _ _) (add_assoc _ _ _) (add_assoc _ _ _) (add_assoc _ _ _)

-- what some steps come to
unfoldable pub counts_in : List ℕ → Frame → List Step → Counts
counts_in t f xs =
    made
    (length (gather pieces_of xs))
    (length (gather faults_of xs))
    (pick f.literal (length (gather (places_of t f) xs)) 0)
    (pick f.literal (newlines (literal_chars t xs) + pick (to_the_end xs) 1 0) 0)

-- a choice of a sum, or nothing
pick_add : (b : Bool) (x y : ℕ) → pick b (x + y) 0 ≡ pick b x 0 + pick b y 0
unfolding pick
pick_add b x y = by_test (λ b. pick b (x + y) 0 ≡ pick b x 0 + pick b y 0) refl (omega arith) b

-- no steps, nothing
counts_none : (t : List ℕ) (f : Frame) → counts_in t f [] ≡ made 0 0 0 0
unfolding counts_in gather literal_chars newlines to_the_end pick
counts_none t f =
    let P : Bool → Type 0 = λ b. ◌≡◌ {A = ℕ} (pick b 0 0) 0 in
    same refl refl (by_test P refl refl f.literal) (by_test P refl refl f.literal)

-- a step's argument places are the closed placeholder's
step_places : (t : List ℕ) (f : Frame) (x : Step) → length (places_of t f x) ≡ place_count x
step_places t f Step.End = refl
step_places t f (Step.Stop p) = refl
step_places t f (Step.Literal r) = refl
step_places t f (Step.Placeholder p) = go p.closing
  where
    go : (c : Closing) → length (closed_span t f p.argument.range.start c) ≡ closed_count c
    go (Closing.Closed e) = refl
    go (Closing.Missing x on) = refl

-- the lines that end in a step's literal text, and the last at the end
step_lines_lem : (t : List ℕ) (x : Step) → newlines (gather (chars_in t) (texts_of x)) + pick (is_end x) 1 0 ≡ line_count t x
unfolding gather newlines pick
step_lines_lem t Step.End = refl
step_lines_lem t (Step.Stop p) = refl
step_lines_lem t (Step.Literal r) = rw (append-nil, add-zero)
step_lines_lem t (Step.Placeholder p) = rw (add-zero, newlines_append) (ap (λ (n : ℕ). newlines (chars_in t p.text) + n) (go p.closing))
  where
    go : (c : Closing) → newlines (gather (chars_in t) (missing_text c)) ≡ closing_lines t c
    go (Closing.Closed e) = refl
    go (Closing.Missing x on) = rw append-nil

-- the lines of one step
lines_one : (t : List ℕ) (x : Step) → newlines (literal_chars t (x ∷ [])) + pick (to_the_end (x ∷ [])) 1 0 ≡ line_count t x
unfolding literal_chars gather to_the_end pick
lines_one t x =
    let own = newlines (gather (chars_in t) (texts_of x)) in
    let same_end = by_test (λ b. ◌≡◌ {A = ℕ} (pick (pick b true false) 1 0) (pick b 1 0)) refl refl (is_end x) in
    rw append-nil (ap (λ (n : ℕ). own + n) same_end ∙ step_lines_lem t x)

-- and of those that follow
lines_more : (t : List ℕ) (x : Step) (xs : List Step) → is_end x ≡ false →
    newlines (literal_chars t (x ∷ xs)) + pick (to_the_end (x ∷ xs)) 1 0 ≡ line_count t x + (newlines (literal_chars t xs) + pick (to_the_end xs) 1 0)
unfolding to_the_end pick
lines_more t x xs e =
    let here = rw e at (step_lines_lem t x) in
    rw (e, literal_more, newlines_append) (omega (arith, here))

module _ (t : List ℕ) (f : Frame) (x : Step) where
  -- one step
  counts_one : counts_in t f (x ∷ []) ≡ step_counts t f x
  unfolding counts_in step_counts
  counts_one =
      same
      (ap length (gather_one pieces_of x))
      (ap length (gather_one faults_of x))
      (ap (λ (n : ℕ). pick f.literal n 0) (ap length (gather_one (places_of t f) x) ∙ step_places t f x))
      (ap (λ (n : ℕ). pick f.literal n 0) (lines_one t x))

  -- a step after which reading goes on, and those that follow
  counts_more : (from : State) (xs : List Step) {s : State} → onward from x ≡ Some s →
      counts_in t f (x ∷ xs) ≡ sum (step_counts t f x) (counts_in t f xs)
  unfolding counts_in step_counts gather
  counts_more from xs e =
      same
      (length-append (pieces_of x) (gather pieces_of xs))
      (length-append (faults_of x) (gather faults_of xs))
      (ap (λ (k : ℕ). pick f.literal k 0) (rw (length-append, step_places)) ∙ pick_add f.literal _ _)
      (ap (λ (k : ℕ). pick f.literal k 0) (lines_more t x xs (not_end from x e)) ∙ pick_add f.literal _ _)

-- a whole reading
pub counts_all : (t : List ℕ) (f : Frame) (m : Mode) → counts_in t f (reading t f m) ≡ counts_of t f m
unfolding counts_in counts_of pieces places pick
counts_all t f m =
    let xs = reading t f m in
    let spans = gather (places_of t f) xs in
    let cs = literal_chars t xs in
    let all = plain_lines f cs (to_the_end xs) in
    let count = newlines cs + pick (to_the_end xs) 1 0 in
    same refl (sym (errors_length t f m))
    (by_test (λ b. pick b (length spans) 0 ≡ length (pick b spans [])) refl refl f.literal)
    (by_test (λ b. pick b count 0 ≡ length (pick b all [])) (sym (lines_length f cs (to_the_end xs))) refl f.literal
    ∙ ap length (sym (lines_plain t f m)))

-- a step has one piece at most
pub piece_few : (x : Step) → piece_count x ≤ 1
piece_few Step.End = omega arith
piece_few (Step.Stop p) = omega arith
piece_few (Step.Literal r) = omega arith
piece_few (Step.Placeholder p) = omega arith

-- and one argument place at most
pub place_few : (x : Step) → place_count x ≤ 1
place_few Step.End = omega arith
place_few (Step.Stop p) = omega arith
place_few (Step.Literal r) = omega arith
place_few (Step.Placeholder p) = go p.closing
  where
    go : (c : Closing) → closed_count c ≤ 1
    go (Closing.Closed e) = omega arith
    go (Closing.Missing x on) = omega arith

-- counts that are added add up to no more than both limits
pub countable_sum : {p q r : ℕ} {a b c : Counts} → Countable p a → Countable q b → c ≡ sum a b → p + q ≤ r → Countable r c
countable_sum {r = r} x y e l = subst (Countable r) (sym e) (omega arith)

-- A STEP THAT IS PASSED adds a piece and nothing else, where there are no argument places and no lines
pub clear_counts : (t : List ℕ) (f : Frame) (m : Mode) (s : State) {a : State} → Clear t f m s a → f.literal ≡ false → step_counts t f (step_at t f m s) ≡ made 1 0 0 0
unfolding step_counts faults_of pick
clear_counts t f m s c e = same c.one (ap length c.clean) (rw e refl) (rw e refl)

pub one_more_lem : (a : Counts) {b c : Counts} → c ≡ made (a.pieces + 1) a.errors a.places a.lines → b ≡ made 1 0 0 0 → c ≡ sum a b
one_more_lem a e q = rw q (e ∙ same refl (sym (add-zero _)) (sym (add-zero _)) (sym (add-zero _)))

pub one_countable : {b : Counts} → b ≡ made 1 0 0 0 → Countable 131070 b
one_countable e = subst (Countable 131070) (sym e) (omega arith)

-- a turn of the tally, from a state with turns left: the step x there comes to b, and with the counts a before it to c
module _ (t : List ℕ) (f : Frame) (m : Mode) (k : ℕ) (s : State) (a : Counts) {x : Step} {o : Option State} {b c : Counts} (h : 0 < k)
    (step : x ≡ step_at t f m s) (on : o ≡ onward s x) (count : b ≡ step_counts t f x) (add : c ≡ sum a b) where
  -- where reading goes on, what it all comes to stays
  pub turn_more : {s' : State} → o ≡ Some s' →
      sum c (counts_in t f (steps_from (k - 1) t f m s')) ≡ sum a (counts_in t f (steps_from k t f m s))
  turn_more {s'} g =
      let w : onward s (step_at t f m s) ≡ Some s' = cc in
      rw (add, count, sum_assoc, steps_more t f m k s h w, ← step, counts_more t f x s _ (sym on ∙ g))

  -- where it is over, it is c
  pub turn_over : o ≡ None → c ≡ sum a (counts_in t f (steps_from k t f m s))
  turn_over g =
      let w : onward s (step_at t f m s) ≡ None = cc in
      rw (steps_over t f m k s h w, ← step, counts_one t f x, ← count) add

-- with no turn left it is a
pub turn_none : (t : List ℕ) (f : Frame) (m : Mode) (k : ℕ) (s : State) (a : Counts) → k ≤ 0 → a ≡ sum a (counts_in t f (steps_from k t f m s))
turn_none t f m k s a h = rw (steps_none t f m k s h, counts_none t f) (sym (sum_nothing a))
