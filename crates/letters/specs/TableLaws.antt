-- Laws of range tables, for any table: the ranges by their numbers, membership, and two tables compared. Rests on Table.
use Rattle.std.specs.Prelude.{ℕ, zero, suc, ◌+◌, ◌*◌, ◌≤◌, ◌<◌, ◌≡◌, refl, Bool, true, false, ◌⊎◌, List, [], ◌∷◌, T, leb, ltb, length, get_or}
use Rattle.std.proofs.Common.{zero-le, suc-le-suc, sym, ◌∙◌, true≢false, inl, inr, le_of_suc-le-suc, arith, le-leb, leb-true, ltb-true, ltb-false, leb→le, ltb→lt}
use Rattle.std.proofs.lemmas.Bool.{lt-leb}
use Rattle.utf8.specs.Choice.{pick, both, either}
use Rattle.utf8.specs.ChoiceLaws.{both_false, either_true}
use Rattle.letters.specs.Table.{member, ascending}
use Rattle.letters.specs.Compared.{clear, apart, held, inside}

-- the start of range k
unfoldable pub lo_at : List ℕ → ℕ → ℕ
lo_at [] k = 0
lo_at (x ∷ []) k = 0
lo_at (lo ∷ hi ∷ r) zero = lo
lo_at (lo ∷ hi ∷ r) (suc k) = lo_at r k

-- the end of range k
unfoldable pub hi_at : List ℕ → ℕ → ℕ
hi_at [] k = 0
hi_at (x ∷ []) k = 0
hi_at (lo ∷ hi ∷ r) zero = hi
hi_at (lo ∷ hi ∷ r) (suc k) = hi_at r k

-- the number of ranges
unfoldable pub pairs : List ℕ → ℕ
pairs [] = 0
pairs (x ∷ []) = 0
pairs (lo ∷ hi ∷ r) = suc (pairs r)

-- the ends of a range by the places of the flat list
pub lo_place : (t : List ℕ) (k : ℕ) → k < pairs t → get_or t (2 * k) 0 ≡ lo_at t k
unfolding lo_at pairs
lo_place [] k h = absurd (omega arith)
lo_place (x ∷ []) k h = absurd (omega arith)
lo_place (lo ∷ hi ∷ r) zero h = refl
lo_place (lo ∷ hi ∷ r) (suc k) h = let e : 2 * suc k ≡ suc (suc (2 * k)) = omega arith in rw e (lo_place r k (le_of_suc-le-suc h))

pub hi_place : (t : List ℕ) (k : ℕ) → k < pairs t → get_or t (2 * k + 1) 0 ≡ hi_at t k
unfolding hi_at pairs
hi_place [] k h = absurd (omega arith)
hi_place (x ∷ []) k h = absurd (omega arith)
hi_place (lo ∷ hi ∷ r) zero h = refl
hi_place (lo ∷ hi ∷ r) (suc k) h = let e : 2 * suc k + 1 ≡ suc (suc (2 * k + 1)) = omega arith in rw e (hi_place r k (le_of_suc-le-suc h))

-- the parts of two computed tests that both hold
pub left_of : (a b : Bool) → T (both a b) → T a
left_of true b t = tt
left_of false b t = t

pub right_of : (a b : Bool) → T (both a b) → T b
right_of true b t = t
right_of false b t = absurd t

-- what the test of order says of the first range and of the others
record Parts (p lo hi : ℕ) (r : List ℕ) : Type 0 where
  low : p ≤ lo
  up : lo ≤ hi
  more : T (ascending (suc hi) r)

parts : (p lo hi : ℕ) (r : List ℕ) → T (ascending p (lo ∷ hi ∷ r)) → Parts p lo hi r
unfolding ascending
parts p lo hi r a =
    let b = right_of (leb p lo) (both (leb lo hi) (ascending (suc hi) r)) a in
    record {
      low = leb→le p lo (left_of (leb p lo) (both (leb lo hi) (ascending (suc hi) r)) a);
      up = leb→le lo hi (left_of (leb lo hi) (ascending (suc hi) r) b);
      more = right_of (leb lo hi) (ascending (suc hi) r) b;
    }

-- a table has two numbers for each range
pub even : (p : ℕ) (t : List ℕ) → T (ascending p t) → length t ≡ 2 * pairs t
unfolding ascending pairs
even p [] a = refl
even p (x ∷ []) a = absurd a
even p (lo ∷ hi ∷ r) a = omega (arith, even (suc hi) r (parts p lo hi r a).more)

-- a range starts at p or later
pub from : (p : ℕ) (t : List ℕ) → T (ascending p t) → (k : ℕ) → k < pairs t → p ≤ lo_at t k
unfolding ascending pairs lo_at
from p [] a k h = absurd (omega arith)
from p (x ∷ []) a k h = absurd a
from p (lo ∷ hi ∷ r) a zero h = (parts p lo hi r a).low
from p (lo ∷ hi ∷ r) a (suc k) h = let q = parts p lo hi r a in omega (arith, from (suc hi) r q.more k (le_of_suc-le-suc h))

-- a range starts past the end of each before it
pub past : (p : ℕ) (t : List ℕ) → T (ascending p t) → (j k : ℕ) → j < k → k < pairs t → hi_at t j < lo_at t k
unfolding ascending pairs lo_at hi_at
past p [] a j k jk h = absurd (omega arith)
past p (x ∷ []) a j k jk h = absurd a
past p (lo ∷ hi ∷ r) a j zero jk h = absurd (omega arith)
past p (lo ∷ hi ∷ r) a zero (suc k) jk h = from (suc hi) r (parts p lo hi r a).more k (le_of_suc-le-suc h)
past p (lo ∷ hi ∷ r) a (suc j) (suc k) jk h = past (suc hi) r (parts p lo hi r a).more j k (le_of_suc-le-suc jk) (le_of_suc-le-suc h)

-- a range ends no earlier than it starts
pub whole : (p : ℕ) (t : List ℕ) → T (ascending p t) → (k : ℕ) → k < pairs t → lo_at t k ≤ hi_at t k
unfolding ascending pairs lo_at hi_at
whole p [] a k h = absurd (omega arith)
whole p (x ∷ []) a k h = absurd a
whole p (lo ∷ hi ∷ r) a zero h = (parts p lo hi r a).up
whole p (lo ∷ hi ∷ r) a (suc k) h = whole (suc hi) r (parts p lo hi r a).more k (le_of_suc-le-suc h)

-- a number in range k is a member
pub found : (t : List ℕ) (c k : ℕ) → k < pairs t → lo_at t k ≤ c → c ≤ hi_at t k → member t c ≡ true
unfolding member pairs lo_at hi_at
found [] c k h l u = absurd (omega arith)
found (x ∷ []) c k h l u = absurd (omega arith)
found (lo ∷ hi ∷ r) c zero h l u = simp (le-leb lo c l, le-leb c hi u)
found (lo ∷ hi ∷ r) c (suc k) h l u = simp (found r c k (le_of_suc-le-suc h) l u, either_true)

-- the first range misses c where c lies before it or past it
pub skipped : (lo hi : ℕ) (r : List ℕ) (c : ℕ) → (c < lo) ⊎ (hi < c) → member (lo ∷ hi ∷ r) c ≡ member r c
unfolding member
skipped lo hi r c (inl l) = simp (lt-leb lo c l)
skipped lo hi r c (inr u) = simp (lt-leb c hi u, both_false)

-- a number that every range misses is no member
pub absent : (t : List ℕ) (c : ℕ) → ((k : ℕ) → k < pairs t → (c < lo_at t k) ⊎ (hi_at t k < c)) → member t c ≡ false
unfolding member pairs lo_at hi_at
absent [] c m = refl
absent (x ∷ []) c m = refl
absent (lo ∷ hi ∷ r) c m = skipped lo hi r c (m 0 (suc-le-suc zero-le)) ∙ absent r c (λ k h. m (suc k) (suc-le-suc h))

-- a number before all ranges is no member
pub before : (p : ℕ) (t : List ℕ) → T (ascending p t) → (c : ℕ) → c < p → member t c ≡ false
before p t a c l = absent t c (λ k h. inl (omega (arith, from p t a k h)))

-- a member of a table is in its first range or is a member of the others
pub data Where (lo hi : ℕ) (r : List ℕ) (c : ℕ) : Type 0 where
  here : lo ≤ c → c ≤ hi → Where lo hi r c
  there : member r c ≡ true → Where lo hi r c

pub place : (lo hi : ℕ) (r : List ℕ) (c : ℕ) → member (lo ∷ hi ∷ r) c ≡ true → Where lo hi r c
unfolding member
place lo hi r c = go (leb lo c) refl (leb c hi) refl
  where
    go : (a : Bool) → leb lo c ≡ a → (b : Bool) → leb c hi ≡ b → either (both a b) (member r c) ≡ true → Where lo hi r c
    go true e true f m = here (leb-true lo c e) (leb-true c hi f)
    go true e false f m = there m
    go false e b f m = there m

-- a number in the first range is a member
pub first_holds : (lo hi : ℕ) (r : List ℕ) (c : ℕ) → lo ≤ c → c ≤ hi → member (lo ∷ hi ∷ r) c ≡ true
unfolding member
first_holds lo hi r c l u = simp (le-leb lo c l, le-leb c hi u)

-- a member of the others is a member
pub others_hold : (lo hi : ℕ) (r : List ℕ) (c : ℕ) → member r c ≡ true → member (lo ∷ hi ∷ r) c ≡ true
unfolding member
others_hold lo hi r c m = simp (m, either_true)

-- a member of a table that starts at p or later is no less than p
pub at_least : (p : ℕ) (t : List ℕ) → T (ascending p t) → (c : ℕ) → member t c ≡ true → p ≤ c
at_least p t a c m = go (ltb c p) refl
  where
    go : (x : Bool) → ltb c p ≡ x → p ≤ c
    go true e = absurd (true≢false (sym m ∙ before p t a c (ltb-true c p e)))
    go false e = ltb-false c p e

-- where a range is held, each of its numbers is a member, and so is any that is one wherever `more` holds
held_holds : (more : List ℕ → Bool) (lo hi c : ℕ) → ((lo ≤ c) × (c ≤ hi)) ⊎ ((s : List ℕ) → T (more s) → member s c ≡ true) → (s : List ℕ) → T (held more lo hi s) → member s c ≡ true
unfolding held pick
held_holds more lo hi c w [] t = absurd t
held_holds more lo hi c w (x ∷ []) t = absurd t
held_holds more lo hi c w (l ∷ h ∷ s) t = go (λ u. held_holds more lo hi c w s u) (ltb h lo) t w
  where
    go : (T (held more lo hi s) → member s c ≡ true) → (x : Bool) → T (pick x (held more lo hi s) (both (leb l lo) (both (leb hi h) (more (l ∷ h ∷ s))))) → ((lo ≤ c) × (c ≤ hi)) ⊎ ((s : List ℕ) → T (more s) → member s c ≡ true) → member (l ∷ h ∷ s) c ≡ true
    go f true t w = others_hold l h s c (f t)
    go f false t (inl p) =
        let x = leb→le l lo (left_of (leb l lo) (both (leb hi h) (more (l ∷ h ∷ s))) t) in
        let y = leb→le hi h (left_of (leb hi h) (more (l ∷ h ∷ s)) (right_of (leb l lo) (both (leb hi h) (more (l ∷ h ∷ s))) t)) in
        first_holds l h s c (omega arith) (omega arith)
    go f false t (inr k) = k (l ∷ h ∷ s) (right_of (leb hi h) (more (l ∷ h ∷ s)) (right_of (leb l lo) (both (leb hi h) (more (l ∷ h ∷ s))) t))

-- EVERY NUMBER OF A IS IN B, where the computed test says so
pub inside_holds : (a b : List ℕ) → T (inside a b) → (c : ℕ) → member a c ≡ true → member b c ≡ true
unfolding inside member
inside_holds [] b t c m = absurd (true≢false (sym m))
inside_holds (x ∷ []) b t c m = absurd (true≢false (sym m))
inside_holds (lo ∷ hi ∷ r) b t c m = go (λ s u n. inside_holds r s u c n) (place lo hi r c m)
  where
    go : ((s : List ℕ) → T (inside r s) → member r c ≡ true → member s c ≡ true) → Where lo hi r c → member b c ≡ true
    go f (here l u) = held_holds (λ s. inside r s) lo hi c (inl (l, u)) b t
    go f (there n) = held_holds (λ s. inside r s) lo hi c (inr (λ s u. f s u n)) b t

-- where a range is clear, none of its numbers is a member, and none that is no member wherever `more` holds
clear_holds : (more : List ℕ → Bool) (lo hi c : ℕ) → lo ≤ c → (c ≤ hi) ⊎ ((q : ℕ) (s : List ℕ) → T (ascending q s) → T (more s) → member s c ≡ false) → (q : ℕ) (s : List ℕ) → T (ascending q s) → T (clear more lo hi s) → member s c ≡ false
unfolding clear member pick
clear_holds more lo hi c b w q [] o t = refl
clear_holds more lo hi c b w q (x ∷ []) o t = refl
clear_holds more lo hi c b w q (l ∷ h ∷ s) o t = go (λ u. clear_holds more lo hi c b w (suc h) s (parts q l h s o).more u) (ltb h lo) refl t w
  where
    go : (T (clear more lo hi s) → member s c ≡ false) → (x : Bool) → ltb h lo ≡ x → T (pick x (clear more lo hi s) (both (ltb hi l) (more (l ∷ h ∷ s)))) → (c ≤ hi) ⊎ ((q : ℕ) (s : List ℕ) → T (ascending q s) → T (more s) → member s c ≡ false) → member (l ∷ h ∷ s) c ≡ false
    go f true e t w = let k = ltb-true h lo e in skipped l h s c (inr (omega arith)) ∙ f t
    go f false e t (inl u) =
        let k = ltb→lt hi l (left_of (ltb hi l) (more (l ∷ h ∷ s)) t) in
        let p = parts q l h s o in
        skipped l h s c (inl (omega arith)) ∙ before (suc h) s p.more c (omega (arith, p.up))
    go f false e t (inr k) = k q (l ∷ h ∷ s) o (right_of (ltb hi l) (more (l ∷ h ∷ s)) t)

-- NO NUMBER OF A IS IN B, where the computed test says so
pub apart_holds : (p q : ℕ) (a b : List ℕ) → T (ascending p a) → T (ascending q b) → T (apart a b) → (c : ℕ) → member a c ≡ true → member b c ≡ false
unfolding apart member
apart_holds p q [] b x y t c m = absurd (true≢false (sym m))
apart_holds p q (z ∷ []) b x y t c m = absurd (true≢false (sym m))
apart_holds p q (lo ∷ hi ∷ r) b x y t c m = go (λ j s o u n. apart_holds (suc hi) j r s (parts p lo hi r x).more o u c n) (place lo hi r c m)
  where
    start : Where lo hi r c → lo ≤ c
    start (here l u) = l
    start (there n) = let q = parts p lo hi r x in omega (arith, q.up, at_least (suc hi) r q.more c n)

    low : lo ≤ c
    low = start (place lo hi r c m)

    go : ((j : ℕ) (s : List ℕ) → T (ascending j s) → T (apart r s) → member r c ≡ true → member s c ≡ false) → Where lo hi r c → member b c ≡ false
    go f (here l u) = clear_holds (λ s. apart r s) lo hi c low (inl u) q b y t
    go f (there n) = clear_holds (λ s. apart r s) lo hi c low (inr (λ j s o u. f j s o u n)) q b y t
