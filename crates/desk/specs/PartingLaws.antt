-- Laws of where two lists part: byte by byte, and that lists of one length that part nowhere are the same. Rests on Partings and the frame's `same`.
use Rattle.std.specs.Prelude.{◌≡◌, Bool, true, false, List, [], ◌∷◌, eqb, length, get_or, drop}
use Rattle.std.proofs.Math.Path.{refl}
use Rattle.std.proofs.Common.{ap, sym, subst, ◌∙◌, true≢false, arith, drop_of_length-le}
use Prim.Native.Nat.{ℕ, suc, ◌+◌, ◌≤◌, ◌<◌}
use borrow.Author.Tests.{eq-eqb, ne_eqb, eqb-true}
use Rattle.std.proofs.Math.Seq.{drop-cons}
use Rattle.utf8.specs.Choice.{pick}
use Rattle.utf8.specs.ChoiceLaws.{not_so}
use Rattle.frame.specs.Frames.{same}
use Rattle.frame.specs.FrameLaws.{same_equal, same_exactly}
use Rattle.desk.specs.Partings.{shared}

-- what both share from place i on
abbrev pub shared_from : List ℕ → List ℕ → ℕ → ℕ
shared_from a b i = i + shared (drop i a) (drop i b)

shared_nil : (xs : List ℕ) → shared xs [] ≡ 0
unfolding shared
shared_nil [] = refl
shared_nil (x ∷ xs) = refl

next_byte : (a : List ℕ) (i : ℕ) → i < length a → drop i a ≡ get_or a i 0 ∷ drop (i + 1) a
next_byte a i h = let s : suc i ≡ i + 1 = omega arith in drop-cons a i 0 h ∙ ap (λ (n : ℕ). get_or a i 0 ∷ drop n a) s

module _ (a b : List ℕ) where
  pub shared_first : shared_from a b 0 ≡ shared a b
  shared_first = omega arith

  pub shared_more : (i : ℕ) → i < length a → i < length b → get_or a i 0 ≡ get_or b i 0 → shared_from a b (i + 1) ≡ shared_from a b i
  unfolding shared pick
  shared_more i h l e =
      let k : shared (drop i a) (drop i b) ≡ suc (shared (drop (i + 1) a) (drop (i + 1) b)) =
      rw (next_byte a i h, next_byte b i l, eq-eqb (get_or a i 0) (get_or b i 0) e) refl
      in
      omega (arith, k)

  pub shared_stop : (i : ℕ) → i < length a → i < length b → ¬ (get_or a i 0 ≡ get_or b i 0) → shared_from a b i ≡ i
  unfolding shared pick
  shared_stop i h l n =
      let k : shared (drop i a) (drop i b) ≡ 0 = rw (drop-cons a i 0 h, drop-cons b i 0 l, ne_eqb _ _ n) in
      omega (arith, k)

  pub shared_end : (i : ℕ) → length a ≤ i → shared_from a b i ≡ i
  unfolding shared
  shared_end i h = let k : shared (drop i a) (drop i b) ≡ 0 = rw (drop_of_length-le a h) in omega (arith, k)

  pub shared_past : (i : ℕ) → length b ≤ i → shared_from a b i ≡ i
  shared_past i h =
      let k : shared (drop i a) (drop i b) ≡ 0 = rw (drop_of_length-le b h) (shared_nil (drop i a)) in
      omega (arith, k)

-- lists of two lengths are not the same
pub lengths_differ : (a b : List ℕ) → ¬ (length a ≡ length b) → same a b ≡ false
lengths_differ a b apart = not_so (same a b) (λ e. apart (ap length (same_equal a b e)))

-- lists of one length are the same where they share all
shared_all : (a b : List ℕ) → length a ≡ length b → shared a b ≡ length a → a ≡ b
unfolding shared pick
shared_all [] [] h e = refl
shared_all [] (y ∷ ys) h e = absurd (omega (arith, h))
shared_all (x ∷ xs) [] h e = absurd (omega (arith, h))
shared_all (x ∷ xs) (y ∷ ys) h e = go (shared_all xs ys (omega (arith, h))) (eqb x y) refl e
  where
    go : (shared xs ys ≡ length xs → xs ≡ ys) → (b : Bool) → eqb x y ≡ b → pick b (suc (shared xs ys)) 0 ≡ suc (length xs) → x ∷ xs ≡ y ∷ ys
    go rest true p k = let q = eqb-true x y p in let r = rest (omega (arith, k)) in cc
    go rest false p k = absurd (omega (arith, k))

shared_self : (a : List ℕ) → shared a a ≡ length a
unfolding shared pick
shared_self [] = refl
shared_self (x ∷ xs) = rw (eq-eqb x x refl) (ap suc (shared_self xs))

pub same_shared : (a b : List ℕ) → length a ≡ length b → same a b ≡ eqb (shared a b) (length a)
same_shared a b h = go (same a b) refl
  where
    go : (c : Bool) → same a b ≡ c → same a b ≡ eqb (shared a b) (length a)
    go true e = e ∙ sym (eq-eqb _ _ (subst (λ (l : List ℕ). shared a l ≡ length a) (same_equal a b e) (shared_self a)))
    go false e = e ∙ sym (ne_eqb _ _ (λ k. true≢false (sym ((same_exactly a b).1 (shared_all a b h k)) ∙ e)))
