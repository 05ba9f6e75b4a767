-- Parts of range tables, for any table and any two bounds. Rests on TableLaws.
use Rattle.std.specs.Prelude.{ℕ, ◌≤◌, ◌<◌, ◌≡◌, refl, Bool, true, false, List, [], ◌∷◌, leb, ltb}
use Rattle.std.proofs.Common.{sym, ◌∙◌, ap, inl, inr, arith, leb-false, ltb-false}
use Rattle.utf8.specs.Choice.{pick, both, either}
use Rattle.letters.specs.Table.{member}
use Rattle.letters.specs.TableLaws.{skipped}

-- the part of a table between p and q: its ranges that end at p or later and start before q
unfoldable pub between : ℕ → ℕ → List ℕ → List ℕ
between p q [] = []
between p q (x ∷ []) = []
between p q (lo ∷ hi ∷ r) = pick (both (leb p hi) (ltb lo q)) (lo ∷ hi ∷ between p q r) (between p q r)

-- BETWEEN ITS BOUNDS A PART ANSWERS AS THE TABLE DOES
pub between_holds : (p q : ℕ) (t : List ℕ) (c : ℕ) → p ≤ c → c < q → member (between p q t) c ≡ member t c
unfolding between member pick
between_holds p q [] c l u = refl
between_holds p q (x ∷ []) c l u = refl
between_holds p q (lo ∷ hi ∷ r) c l u = go (leb p hi) refl (ltb lo q) refl (between_holds p q r c l u)
  where
    go : (x : Bool) → leb p hi ≡ x → (y : Bool) → ltb lo q ≡ y → member (between p q r) c ≡ member r c → member (pick (both x y) (lo ∷ hi ∷ between p q r) (between p q r)) c ≡ member (lo ∷ hi ∷ r) c
    go true e true f k = ap (either (both (leb lo c) (leb c hi))) k
    go true e false f k = let h = ltb-false lo q f in k ∙ sym (skipped lo hi r c (inl (omega arith)))
    go false e y f k = let h = leb-false p hi e in k ∙ sym (skipped lo hi r c (inr (omega arith)))
