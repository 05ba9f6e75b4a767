-- Spans written over a list of numbers, some and then the rest: one, one after another, none left. Rests on Fills, and on reading's Written.
use Prim.Native.Nat.{ℕ, suc, ◌+◌, ◌*◌, ◌≤◌}
use mathlib.Core.Path.{◌≡◌, refl, sym, ap, ◌∙◌}
use mathlib.Core.List.{List, [], ◌∷◌, ◌++◌, append_assoc}
use native.Mathlib.Nat.{add-zero}
use native.Mathlib.Numerals.{add-one}
use native.Mathlib.Omega.{arith}
use lib.ListN.{length, take, drop, set, take-append-drop, length-append, length-drop}
use lib.Seq.{sets-eq, length-take-le, take_at, drop_at, drop-drop}
use Rattle.frame.specs.declared.Span.{Span}
use Rattle.reading.specs.Written.{over, pairs}
use Rattle.laws.specs.ListLaws.{pairs_length}
use Rattle.spans.specs.Fills.{written, Put}

-- of joined spans
pairs_append : (xs ys : List Span) → pairs (xs ++ ys) ≡ pairs xs ++ pairs ys
unfolding pairs
pairs_append [] ys = refl
pairs_append (x ∷ xs) ys = ap (λ (l : List ℕ). x.start.0 ∷ x.end.0 ∷ l) (pairs_append xs ys)

-- two numbers set one after the other
two : (l : List ℕ) (i a b : ℕ) → i + 2 ≤ length l → set (set l i a) (suc i) b ≡ take i l ++ (a ∷ b ∷ drop (i + 2) l)
two l i a b h = sets-eq (a ∷ b ∷ []) l i h ∙ append_assoc (take i l) (a ∷ b ∷ []) (drop (i + 2) l)

module _ (l : List ℕ) (n : ℕ) where
  -- with no spans the list stays
  pub written_none : written l n [] ≡ l
  unfolding written pairs
  written_none = rw add-zero (take-append-drop (2 * n) l)

  -- one span is two numbers
  pub written_one : (x : Span) → 2 * (n + 1) ≤ length l → set (set l (2 * n) x.start.0) (2 * n + 1) x.end.0 ≡ written l n (x ∷ [])
  unfolding written pairs
  written_one x h =
      let q : 2 * n + 2 ≡ 2 * (n + 1) = omega arith in
      rw (add-one (2 * n), ← q) (two l (2 * n) x.start.0 x.end.0 (omega arith))

  module _ (xs : List Span) (room : 2 * (n + length xs) ≤ length l) where
    -- what stands before the rest
    front : List ℕ
    front = take (2 * n) l ++ pairs xs

    front_length : length front ≡ 2 * (n + length xs)
    unfolding front
    front_length = omega (arith, length-append (take (2 * n) l) (pairs xs), pairs_length xs, length-take-le (2 * n) l (omega arith))

    written_front : written l n xs ≡ front ++ drop (2 * (n + length xs)) l
    unfolding written front
    written_front = sym (append_assoc (take (2 * n) l) (pairs xs) _)

    -- the list keeps its length
    pub written_length : length (written l n xs) ≡ length l
    written_length =
        omega (arith, ap length written_front, length-append front (drop (2 * (n + length xs)) l), front_length, length-drop (2 * (n + length xs)) l)

    -- some spans and then others are all of them
    pub written_more : (ys : List Span) → written (written l n xs) (n + length xs) ys ≡ written l n (xs ++ ys)
    unfolding written front
    written_more ys =
        let m = 2 * (n + length xs) in
        let a : take m (written l n xs) ≡ front = rw written_front (take_at front (drop m l) m front_length) in
        let b : drop m (written l n xs) ≡ drop m l = rw written_front (drop_at front (drop m l) m front_length) in
        let k : 2 * (n + length xs + length ys) ≡ m + 2 * length ys = omega arith in
        let j : 2 * (n + length (xs ++ ys)) ≡ m + 2 * length ys = omega (arith, length-append xs ys) in
        let d : drop (m + 2 * length ys) (written l n xs) ≡ drop (m + 2 * length ys) l =
        sym (drop-drop (2 * length ys) m (written l n xs)) ∙ ap (drop (2 * length ys)) b ∙ drop-drop (2 * length ys) m l
        in
        rw (k, j, a, d, pairs_append xs ys) (simp append_assoc)

-- from the first pair on, spans are written over the first of a list
pub written_first : (l : List ℕ) (xs : List Span) → written l 0 xs ≡ over (pairs xs) l
unfolding written over
written_first l xs =
    let k : 2 * (0 + length xs) ≡ length (pairs xs) = omega (arith, pairs_length xs) in
    rw k

-- THE REST: some of the spans are written, and with the rest from the n-th pair on the list is as it is to be
pub record Going (old : List ℕ) (first : ℕ) (all : List Span) (new : List ℕ) (n : ℕ) (rest : List Span) : Type 0 where
  pub gives : written new n rest ≡ written old first all
  pub count : n + length rest ≡ first + length all
  pub same : length new ≡ length old

-- at the start
pub going_first : (old : List ℕ) (first : ℕ) (all : List Span) → Going old first all old first all
going_first old first all = record { gives = refl; count = refl; same = refl }

module _ {old : List ℕ} {first : ℕ} {all : List Span} {new : List ℕ} {n : ℕ} {rest : List Span} (g : Going old first all new n rest) where
  -- where none is left
  pub going_done : rest ≡ [] → Put old first all new n
  going_done e =
      record { count = omega (arith, g.count, ap length e); wrote = sym (rw e (written_none new n)) ∙ g.gives }

  module _ (xs ys : List Span) (e : rest ≡ xs ++ ys) (room : 2 * (first + length all) ≤ length old) where
    -- there is room for the next ones
    pub going_room : 2 * (n + length xs) ≤ length new
    going_room = omega (arith, g.count, g.same, ap length e, length-append xs ys)

    -- and when they are written, for the others
    pub going_on : {new' : List ℕ} {k : ℕ} → Put new n xs new' k → Going old first all new' k ys
    going_on p =
        record {
          gives = rw (p.wrote, p.count, written_more new n xs going_room ys, ← e) g.gives;
          count = omega (arith, p.count, g.count, ap length e, length-append xs ys);
          same = rw p.wrote (written_length new n xs going_room) ∙ g.same;
        }

-- all of them, from the first pair on
pub put_over : {old : List ℕ} {all : List Span} {new : List ℕ} {n : ℕ} → Put old 0 all new n → new ≡ over (pairs all) old
put_over {old} {all} p = p.wrote ∙ written_first old all

-- none of them
pub put_none : (old : List ℕ) (n : ℕ) → Put old n [] old n
put_none old n = record { count = omega arith; wrote = sym (written_none old n) }

-- one of them
pub put_one : {old new : List ℕ} {n : ℕ} {x y : Span} → new ≡ written old n (x ∷ []) → x ≡ y → Put old n (y ∷ []) new (n + 1)
put_one {old} {new} {n} e q = record { count = refl; wrote = e ∙ ap (λ (s : Span). written old n (s ∷ [])) q }
