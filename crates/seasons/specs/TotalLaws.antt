-- Laws of totals: what a line has after some lines more, that the order of lines does not matter, and the sums as one count. Rests on Totals.
use Rattle.std.specs.Prelude.{◌≡◌, refl, List, [], ◌∷◌, ◌++◌, ℕ, zero, suc, ◌+◌, ◌≤◌, ◌<◌, eqb, length, get_or, set, replicate}
use Rattle.std.proofs.Common.{sym, ap, ◌∙◌, arith, eq-eqb, ne_eqb}
use Rattle.utf8.specs.Choice.{pick}
use Rattle.utf8.specs.ChoiceLaws.{pick_elim}
use Rattle.reading.specs.Lists.{gather}
use Rattle.laws.specs.ListLaws.{gather_append, gather_one}
use Rattle.seasons.specs.Totals.{counted_in, times, tallied, own, plus, zeros, sums}

-- a number stands among joined lists as often as in both
pub times_append : (i : ℕ) (xs ys : List ℕ) → times i (xs ++ ys) ≡ times i xs + times i ys
unfolding times
times_append i [] ys = omega arith
times_append i (x ∷ xs) ys = omega (arith, times_append i xs ys)

-- and no more often than there are numbers
pub times_few : (i : ℕ) (xs : List ℕ) → times i xs ≤ length xs
unfolding times
times_few i [] = omega arith
times_few i (x ∷ xs) =
    pick_elim (λ (n : ℕ). n + times i xs ≤ suc (length xs)) (eqb i x) (λ _. omega (arith, times_few i xs)) (λ _. omega (arith, times_few i xs))

-- SOME LINES MORE: each total of a row, from line i on, grows by how often its line stands among them
unfoldable pub added : ℕ → List ℕ → List ℕ → List ℕ
added i [] xs = []
added i (n ∷ ns) xs = (n + times i xs) ∷ added (suc i) ns xs

-- the row keeps its length
pub added_length : (i : ℕ) (row xs : List ℕ) → length (added i row xs) ≡ length row
unfolding added
added_length i [] xs = refl
added_length i (n ∷ ns) xs = omega (arith, added_length (suc i) ns xs)

-- no lines, nothing more
pub added_none : (i : ℕ) (row : List ℕ) → added i row [] ≡ row
unfolding added times
added_none i [] = refl
added_none i (n ∷ ns) = let e : n + 0 ≡ n = omega arith in rw (e, added_none (suc i) ns)

-- some and then others are all of them
pub added_append : (i : ℕ) (row xs ys : List ℕ) → added i (added i row xs) ys ≡ added i row (xs ++ ys)
unfolding added
added_append i [] xs ys = refl
added_append i (n ∷ ns) xs ys =
    let e : n + times i xs + times i ys ≡ n + times i (xs ++ ys) = omega (arith, times_append i xs ys) in
    rw (e, added_append (suc i) ns xs ys)

-- only how often each stands there matters
pub added_same : (i : ℕ) (row xs ys : List ℕ) → ((j : ℕ) → times j xs ≡ times j ys) → added i row xs ≡ added i row ys
unfolding added
added_same i [] xs ys h = refl
added_same i (n ∷ ns) xs ys h = rw (h i, added_same (suc i) ns xs ys h)

-- a total grows by no more than there are lines
pub added_few : (i : ℕ) (row xs : List ℕ) (k : ℕ) → get_or (added i row xs) k 0 ≤ get_or row k 0 + length xs
unfolding added
added_few i [] xs k = omega arith
added_few i (n ∷ ns) xs zero = omega (arith, times_few i xs)
added_few i (n ∷ ns) xs (suc k) = added_few (suc i) ns xs k

-- a row of n lines with what n lines tell is the row with these lines more
pub plus_tallied : (i : ℕ) (row xs : List ℕ) → plus row (tallied i (length row) xs) ≡ added i row xs
unfolding plus tallied added
plus_tallied i [] xs = refl
plus_tallied i (n ∷ ns) xs = rw (plus_tallied (suc i) ns xs)

-- from nothing
pub tallied_added : (i n : ℕ) (xs : List ℕ) → tallied i n xs ≡ added i (replicate n 0) xs
unfolding tallied added
tallied_added i zero xs = refl
tallied_added i (suc n) xs = let e : 0 + times i xs ≡ times i xs = omega arith in rw (tallied_added (suc i) n xs, e)

-- rows added in either order
pub plus_added : (i n : ℕ) (xs ys : List ℕ) → plus (tallied i n xs) (added i (replicate n 0) ys) ≡ added i (replicate n 0) (xs ++ ys)
unfolding plus tallied added
plus_added i zero xs ys = refl
plus_added i (suc n) xs ys =
    let e : times i xs + (0 + times i ys) ≡ 0 + times i (xs ++ ys) = omega (arith, times_append i xs ys) in
    rw (e, plus_added (suc i) n xs ys)

-- THE SUMS AS ONE COUNT: of the lines that all the texts count in
pub sums_added : (ts : List (List ℕ)) → sums ts ≡ added 0 zeros (gather counted_in ts)
unfolding sums own gather
sums_added [] = sym (added_none 0 zeros)
sums_added (t ∷ ts) = rw (sums_added ts) (plus_added 0 24 (counted_in t) (gather counted_in ts))

-- a line before the first of a row is none of it
added_past : (i k : ℕ) (row : List ℕ) → k < i → added i row (k ∷ []) ≡ row
unfolding added times pick
added_past i k [] h = refl
added_past i k (n ∷ ns) h =
    let e : n + (pick (eqb i k) 1 0 + 0) ≡ n = rw (ne_eqb i k (λ q. absurd (omega (arith, q, h)))) (omega arith) in
    rw (e, added_past (suc i) k ns (omega (arith, h)))

-- one line more is one number set
pub added_one : (i k : ℕ) (row : List ℕ) → k < length row → set row k (get_or row k 0 + 1) ≡ added i row ((i + k) ∷ [])
unfolding added times pick
added_one i k [] h = absurd (omega (arith, h))
added_one i zero (n ∷ ns) h =
    let e : n + (pick (eqb i (i + 0)) 1 0 + 0) ≡ n + 1 = rw (eq-eqb i (i + 0) (omega arith)) (omega arith) in
    rw (e, added_past (suc i) (i + 0) ns (omega arith))
added_one i (suc k) (n ∷ ns) h =
    let e : n + (pick (eqb i (i + suc k)) 1 0 + 0) ≡ n = rw (ne_eqb i (i + suc k) (λ q. absurd (omega (arith, q)))) (omega arith) in
    let m : i + suc k ≡ suc i + k = omega arith in
    rw (e, m) (ap (λ (l : List ℕ). n ∷ l) (added_one (suc i) k ns (omega (arith, h))))

-- ROWS LINE BY LINE
pub tallied_line : (i n k : ℕ) (xs : List ℕ) → k < n → get_or (tallied i n xs) k 0 ≡ times (i + k) xs
unfolding tallied
tallied_line i zero k xs h = absurd (omega (arith, h))
tallied_line i (suc n) zero xs h = let e : i + 0 ≡ i = omega arith in rw e
tallied_line i (suc n) (suc k) xs h = let e : i + suc k ≡ suc i + k = omega arith in rw e (tallied_line (suc i) n k xs (omega (arith, h)))

tallied_length : (i n : ℕ) (xs : List ℕ) → length (tallied i n xs) ≡ n
unfolding tallied
tallied_length i zero xs = refl
tallied_length i (suc n) xs = ap suc (tallied_length (suc i) n xs)

pub own_length : (t : List ℕ) → length (own t) ≡ 24
unfolding own
own_length t = tallied_length 0 24 (counted_in t)

pub sums_length : (ts : List (List ℕ)) → length (sums ts) ≡ 24
sums_length ts = ap length (sums_added ts) ∙ added_length 0 zeros (gather counted_in ts)

pub plus_line : (xs ys : List ℕ) (i : ℕ) → length xs ≡ length ys → get_or (plus xs ys) i 0 ≡ get_or xs i 0 + get_or ys i 0
unfolding plus
plus_line [] [] i h = omega arith
plus_line [] (y ∷ ys) i h = absurd (omega (arith, h))
plus_line (x ∷ xs) [] i h = absurd (omega (arith, h))
plus_line (x ∷ xs) (y ∷ ys) zero h = refl
plus_line (x ∷ xs) (y ∷ ys) (suc i) h = plus_line xs ys i (omega (arith, h))

-- ONE TEXT MORE
pub sums_snoc : (ts : List (List ℕ)) (t : List ℕ) → sums (ts ++ (t ∷ [])) ≡ plus (sums ts) (own t)
unfolding own
sums_snoc ts t =
    let all : gather counted_in (ts ++ (t ∷ [])) ≡ gather counted_in ts ++ counted_in t = gather_append counted_in ts (t ∷ []) ∙ rw gather_one in
    let mine : plus (sums ts) (tallied 0 24 (counted_in t)) ≡ added 0 (sums ts) (counted_in t) = rw sums_length at (plus_tallied 0 (sums ts) (counted_in t)) in
    let each : sums (ts ++ (t ∷ [])) ≡ added 0 (added 0 zeros (gather counted_in ts)) (counted_in t) =
    sums_added (ts ++ (t ∷ [])) ∙ rw all (sym (added_append 0 zeros (gather counted_in ts) (counted_in t)))
    in
    each ∙ rw (← sums_added) (sym mine)
