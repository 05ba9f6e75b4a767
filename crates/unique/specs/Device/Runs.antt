-- Runs of codes: a run taken as far as it goes, and small laws of lists and tests. Rests on `All` of grammar's Grammar.
use Rattle.std.specs.Prelude.{◌≡◌, refl, List, [], ◌∷◌, ◌++◌, Bool, true, false, ◌&&◌, ℕ, eqb}
use Rattle.std.proofs.lemmas.Bool.{false≢true}
use Rattle.std.proofs.Common.{eqb-true, arith}
use Rattle.grammar.specs.Grammar.{All}

-- by cases on a test
pub case_b {ℓ} : {P : Type ℓ} (b : Bool) → (b ≡ true → P) → (b ≡ false → P) → P
case_b true f g = f refl
case_b false f g = g refl

-- the codes at the start that pass the test, as far as they go
unfoldable pub take_w : (ℕ → Bool) → List ℕ → List ℕ
take_w p [] = []
take_w p (c ∷ cs) = elim (p c) [ true ↦ c ∷ take_w p cs | false ↦ [] ]

-- the codes after those
unfoldable pub drop_w : (ℕ → Bool) → List ℕ → List ℕ
drop_w p [] = []
drop_w p (c ∷ cs) = elim (p c) [ true ↦ drop_w p cs | false ↦ c ∷ cs ]

-- the first code is k
abbrev pub first : ℕ → List ℕ → Bool
first k [] = false
first k (c ∷ cs) = eqb c k

-- every code passes the test
abbrev pub Passes : (ℕ → Bool) → List ℕ → Type 0
Passes p cs = All (λ c. p c ≡ true) cs

-- no code that passes the test stands first
abbrev pub Stops : (ℕ → Bool) → List ℕ → Type 0
Stops p [] = Unit {0}
Stops p (c ∷ cs) = p c ≡ false

-- a code that passes the test stands first
abbrev pub Begins : (ℕ → Bool) → List ℕ → Type 0
Begins p [] = ⊥
Begins p (c ∷ cs) = p c ≡ true

pub take_drop : (p : ℕ → Bool) (cs : List ℕ) → take_w p cs ++ drop_w p cs ≡ cs
unfolding take_w drop_w
take_drop p [] = refl
take_drop p (c ∷ cs) = case_b (p c) (λ h. cc (take_drop p cs)) (λ h. cc)

pub take_passes : (p : ℕ → Bool) (cs : List ℕ) → Passes p (take_w p cs)
unfolding take_w
take_passes p [] = tt
take_passes p (c ∷ cs) = case_b (p c) (λ h. rw (h, take_w) (h, take_passes p cs)) (λ h. rw (h, take_w) tt)

pub drop_stops : (p : ℕ → Bool) (cs : List ℕ) → Stops p (drop_w p cs)
unfolding drop_w
drop_stops p [] = tt
drop_stops p (c ∷ cs) = case_b (p c) (λ h. rw (h, drop_w) (drop_stops p cs)) (λ h. rw (h, drop_w) h)

-- a run that is followed by no code of its kind is taken whole, and what follows is left
pub take_run : (p : ℕ → Bool) (r t : List ℕ) → Passes p r → Stops p t → take_w p (r ++ t) ≡ r
unfolding take_w
take_run p [] [] a s = refl
take_run p [] (d ∷ ds) a s = cc
take_run p (c ∷ r) t a s = let h = a.0 in cc (take_run p r t a.1 s)

pub drop_run : (p : ℕ → Bool) (r t : List ℕ) → Passes p r → Stops p t → drop_w p (r ++ t) ≡ t
unfolding drop_w
drop_run p [] [] a s = refl
drop_run p [] (d ∷ ds) a s = cc
drop_run p (c ∷ r) t a s = let h = a.0 in cc (drop_run p r t a.1 s)

pub begins_stops : (p q : ℕ → Bool) → ((c : ℕ) → p c ≡ true → q c ≡ false) → (t : List ℕ) → Begins p t → Stops q t
begins_stops p q n [] b = tt
begins_stops p q n (c ∷ t) b = n c b

pub begins_map : (p q : ℕ → Bool) → ((c : ℕ) → p c ≡ true → q c ≡ true) → (t : List ℕ) → Begins p t → Begins q t
begins_map p q n [] b = b
begins_map p q n (c ∷ t) b = n c b

-- a code of a class is none that the class leaves out
pub differs : (p : ℕ → Bool) (c k : ℕ) → p c ≡ true → p k ≡ false → eqb c k ≡ false
differs p c k h n = case_b (eqb c k) (λ e. absurd (false≢true (cc (eqb-true c k e)))) (λ e. e)

-- a list with a first element is not empty
pub never : {A : Type 0} {x : A} {xs : List A} → x ∷ xs ≡ [] → ⊥
never h = let z : ◌≡◌ {A = ℕ} 0 1 = cc in omega arith

pub and_left : (a b : Bool) → (a && b) ≡ true → a ≡ true
and_left true b h = refl
and_left false b h = h

pub and_right : (a b : Bool) → (a && b) ≡ true → b ≡ true
and_right true b h = h
and_right false b h = absurd (false≢true h)
