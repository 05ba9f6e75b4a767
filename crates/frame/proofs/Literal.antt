-- A raw literal in parts, as the code takes it: how long each part is, and what each part tells. Rests on Same.
use Rattle.std.specs.Prelude.{Option, Some, None}
use Prim.Native.Nat.{ℕ, suc, ◌+◌, ◌-◌, ◌≤◌, ◌<◌}
use mathlib.Core.Path.{◌≡◌, refl, sym, ap, ◌∙◌}
use mathlib.Core.Bool.{Bool, true, false, true≢false}
use mathlib.Core.List.{List, [], ◌∷◌, ◌++◌}
use native.Mathlib.Omega.{arith}
use lib.Dec.{eqb}
use borrow.Author.Tests.{eq-eqb}
use lib.ListN.{length, get_or, take, drop, length-append, length-drop, length-replicate, drop_of_length-le}
use lib.Seq.{drop-cons, take_all}
use lib.Seq.{take-append_seam}
use Rattle.std.proofs.lemmas.Slice.Eq.{bytes_eq-Decides}
use Rattle.std.proofs.Math.ListN.{take-append-drop}
use Rattle.std.specs.Str.{bytes_eq}
use Rattle.std.specs.List.{list_all}
use Rattle.utf8.specs.Choice.{pick, both}
use Rattle.utf8.specs.ChoiceLaws.{not_so, both_false, both_left, both_right}
use Rattle.frame.specs.Frames.{hashes_of, body, hash_marks, opening, closing, raw_literal, same, is_literal}
use Rattle.frame.specs.FrameLaws.{same_equal}
use Rattle.frame.proofs.Same.{lengths_differ, same_cons, same_appended, append_same, same_self}

-- as many hashes as asked for
pub length_marks : (h : ℕ) → length (hash_marks h) ≡ h
unfolding hash_marks
length_marks h = length-replicate h 35

-- r and a quote around the hashes
pub length_opening : (h : ℕ) → length (opening h) ≡ h + 2
unfolding opening
length_opening h = omega (arith, length-append (hash_marks h) (34 ∷ []), length_marks h)

-- a quote before the hashes
pub length_closing : (h : ℕ) → length (closing h) ≡ h + 1
unfolding closing
length_closing h = omega (arith, length_marks h)

-- the opening, the body and the closing
pub length_literal : (h : ℕ) (b : List ℕ) → length (raw_literal h b) ≡ h + 2 + length b + (h + 1)
unfolding raw_literal
length_literal h b =
    omega (arith, length-append (opening h) (b ++ closing h), length-append b (closing h), length_opening h, length_closing h)

-- a snippet that is a raw literal is as long as one
pub literal_long : (s b : List ℕ) (h : ℕ) → same s (raw_literal h b) ≡ true → length s ≡ h + 2 + length b + (h + 1)
literal_long s b h e = ap length (same_equal s (raw_literal h b) e) ∙ length_literal h b

-- every byte of a list is a hash
abbrev pub marked : List ℕ → Bool
marked s = same s (hash_marks (length s))

-- a list of another length is not the hashes
pub other_marks : (s : List ℕ) (h : ℕ) → (length s ≡ h → ⊥) → same s (hash_marks h) ≡ false
other_marks s h n = lengths_differ s (hash_marks h) (λ e. n (e ∙ length_marks h))

-- the last byte of both is the same one
same_snoc : (m n : List ℕ) (x : ℕ) → same (m ++ (x ∷ [])) (n ++ (x ∷ [])) ≡ same m n
unfolding same
same_snoc [] [] x = rw (eq-eqb x x refl)
same_snoc [] (b ∷ []) x = both_false (eqb x b)
same_snoc [] (b ∷ (d ∷ n)) x = both_false (eqb x b)
same_snoc (a ∷ []) [] x = both_false (eqb a x)
same_snoc (a ∷ (d ∷ m)) [] x = both_false (eqb a x)
same_snoc (a ∷ m) (b ∷ n) x = ap (both (eqb a b)) (same_snoc m n x)

-- the bytes before the last, and the last
last_apart : (s : List ℕ) (x : ℕ) → 1 ≤ length s → get_or s (length s - 1) 0 ≡ x → take (length s - 1) s ++ (x ∷ []) ≡ s
last_apart s x p e =
    let more : length s - 1 < length s = omega arith in
    let done : length s ≤ suc (length s - 1) = omega arith in
    let tail : drop (length s - 1) s ≡ x ∷ [] = rw (drop-cons s (length s - 1) 0 more, drop_of_length-le s done, e) in
    let whole = take-append-drop (length s - 1) s in
    cc

-- between r and a quote an opening has the hashes
pub opening_parts : (s : List ℕ) (h : ℕ) → 2 ≤ length s → get_or s 0 0 ≡ 114 → get_or s (length s - 1) 0 ≡ 34 →
    same s (opening h) ≡ same (take (length s - 1 - 1) (drop 1 s)) (hash_marks h)
unfolding opening same
opening_parts [] h p e f = absurd (omega (arith, p))
opening_parts (y ∷ s) h p e f =
    let place : suc (length s) - 1 ≡ suc (length s - 1) = omega (arith, p) in
    let l : take (length s - 1) s ++ (34 ∷ []) ≡ s = last_apart s 34 (omega (arith, p)) (rw place at f) in
    let count : suc (length s) - 1 - 1 ≡ length s - 1 = omega arith in
    rw (eq-eqb y 114 e, count) (ap (λ t. same t (hash_marks h ++ (34 ∷ []))) (sym l) ∙ same_snoc (take (length s - 1) s) (hash_marks h) 34)

-- a last byte is the last
snoc_last : (m : List ℕ) (x : ℕ) → get_or (m ++ (x ∷ [])) (length m) 0 ≡ x
snoc_last [] x = refl
snoc_last (a ∷ m) x = snoc_last m x

-- an opening has r first and a quote last
pub record Opened (s : List ℕ) : Type 0 where
  pub long : 2 ≤ length s
  pub first : get_or s 0 0 ≡ 114
  pub last : get_or s (length s - 1) 0 ≡ 34

pub opened : (s : List ℕ) (h : ℕ) → same s (opening h) ≡ true → Opened s
unfolding opening
opened s h t =
    let e = same_equal s (opening h) t in
    let n = length_opening h in
    let m = length_marks h in
    let place : length (opening h) - 1 ≡ suc (length (hash_marks h)) = omega (arith, n, m) in
    rw e (record {
      long = omega (arith, n);
      first = refl;
      last = rw place (snoc_last (hash_marks h) 34);
    })

-- after a quote a closing has the hashes
pub closing_parts : (s : List ℕ) (h : ℕ) → 1 ≤ length s → get_or s 0 0 ≡ 34 →
    same s (closing h) ≡ same (take (length s - 1) (drop 1 s)) (hash_marks h)
unfolding closing
closing_parts s h p e =
    rw (same_cons s 34 (hash_marks h) (omega (arith, p)), eq-eqb _ _ e, take_all (length s - 1) (drop 1 s) (omega (arith, length-drop 1 s)))

-- and what has no quote there is none
pub closed : (s : List ℕ) (h : ℕ) → same s (closing h) ≡ true → (1 ≤ length s) × (get_or s 0 0 ≡ 34)
unfolding closing
closed s h t = rw (same_equal s (closing h) t) (omega arith, refl)

-- where another opening stands, it is none, whatever is behind
pub literal_unopened : (s head rest b : List ℕ) (h : ℕ) → s ≡ head ++ rest → length head ≡ h + 2 → same head (opening h) ≡ false →
    same s (raw_literal h b) ≡ false
unfolding raw_literal
literal_unopened s head rest b h e l n =
    rw (e, same_appended head (opening h) rest (b ++ closing h) (l ∙ sym (length_opening h)), n) refl

-- where the body stands after its opening, the two around it are left
pub literal_parts : (s head rest b tail : List ℕ) (h : ℕ) → s ≡ head ++ rest → length head ≡ h + 2 → rest ≡ b ++ tail →
    same s (raw_literal h b) ≡ both (same head (opening h)) (same tail (closing h))
unfolding raw_literal
literal_parts s head rest b tail h e l r =
    rw (e, r, same_appended head (opening h) (b ++ tail) (b ++ closing h) (l ∙ sym (length_opening h)), same_appended b b tail (closing h) refl, same_self b)

-- where another part stands there, it is none
pub literal_missed : (s head rest b : List ℕ) (h : ℕ) → s ≡ head ++ rest → length head ≡ h + 2 → ((tail : List ℕ) → rest ≡ b ++ tail → ⊥) →
    same s (raw_literal h b) ≡ false
unfolding raw_literal
literal_missed s head rest b h e l n =
    not_so _ (λ t. n (closing h) (append_same head (opening h) rest (b ++ closing h) (l ∙ sym (length_opening h)) (sym e ∙ same_equal _ _ t)))

-- what stands before the rest, and the rest
pub cut : (s head rest : List ℕ) (n : ℕ) → head ≡ take n s → rest ≡ drop n s → s ≡ head ++ rest
cut s head rest n e f = let whole = take-append-drop n s in cc

-- a part taken off the front stood there
pub stripped : (s b tail : List ℕ) → bytes_eq (take (length b) s) b ≡ true → tail ≡ drop (length b) s → s ≡ b ++ tail
stripped s b tail t f = cut s b tail (length b) (sym ((bytes_eq-Decides _ b).0 t)) f

-- and one that can't be taken off did not
pub not_stripped : (s b : List ℕ) → bytes_eq (take (length b) s) b ≡ false → (tail : List ℕ) → s ≡ b ++ tail → ⊥
not_stripped s b t tail e =
    true≢false (sym ((bytes_eq-Decides _ b).1 (ap (take (length b)) e ∙ take-append_seam b tail)) ∙ t)

-- without its last byte, where the newline is marked
pub body_less : (t b : List ℕ) (x : ℕ) → t ≡ b ++ (x ∷ []) → b ≡ body t true
unfolding body pick
body_less t b x e =
    let n : length t - 1 ≡ length b = omega (arith, ap length e, length-append b (x ∷ [])) in
    sym (rw (n, e) (take-append_seam b (x ∷ [])))

-- every byte is a hash, one test for each
pub marked_all : (s : List ℕ) → list_all (λ b. eqb b 35) s ≡ marked s
unfolding hash_marks same
marked_all [] = refl
marked_all (x ∷ s) = ap (both (eqb x 35)) (marked_all s)

-- what a source literal tells: a snippet is given, with room for a quote and the hashes
pub record Told (style : Option ℕ) (given : Bool) (s : List ℕ) : Type 0 where
  pub snippet : given ≡ true
  pub room : hashes_of style + 1 ≤ length s

-- a source literal tells so
pub literal_tells : (t s : List ℕ) (style : Option ℕ) (given newline : Bool) → is_literal t style given s newline ≡ true → Told style given s
unfolding is_literal
literal_tells t s None given newline e = absurd (true≢false (sym e))
literal_tells t s (Some h) given newline e =
    let l = literal_long s (body t newline) h (both_right given _ e) in
    record { snippet = both_left given _ e; room = omega arith }
