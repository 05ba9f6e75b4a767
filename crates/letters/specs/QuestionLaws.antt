-- The three questions compared, with one another and at the marks and digits of a placeholder: each fact by one computed test
-- over the tables. Rests on Questions and TableLaws.
use Rattle.std.specs.Prelude.{ℕ, ◌≤◌, ◌<◌, ◌≡◌, refl, Bool, true, false, not, List, [], ◌∷◌, T, eqb, ltb}
use Rattle.std.proofs.Common.{sym, ◌∙◌, ap, true≢false, arith, eqb-true, ltb-true, ltb-false}
use Rattle.utf8.specs.Choice.{pick, both, either, within}
use Rattle.utf8.specs.ChoiceLaws.{not_so, within_low, within_high}
use Rattle.letters.specs.Table.{member, ascending}
use Rattle.letters.specs.Compared.{clear, apart, held, inside}
use Rattle.letters.specs.TableLaws.{lo_at, hi_at, pairs, found, first_holds, inside_holds, apart_holds, left_of, right_of}
use Rattle.letters.specs.Space.{space}
use Rattle.letters.specs.Start.{start}
use Rattle.letters.specs.Continue.{continue}
use Rattle.letters.specs.Frequent.{frequent}
use Rattle.letters.specs.Questions.{is_space, is_start, is_continue}

-- the tables are ascending and disjoint
pub space_ascending : T (ascending 0 space)
unfolding ascending space
space_ascending = tt

pub start_ascending : T (ascending 0 start)
unfolding ascending start
start_ascending = tt

pub continue_ascending : T (ascending 0 continue)
unfolding ascending continue
continue_ascending = tt

-- the tables compared
start_in_continue : T (inside start continue)
unfolding inside held pick start continue
start_in_continue = tt

continue_off_space : T (apart continue space)
unfolding apart clear pick space continue
continue_off_space = tt

frequent_in_start : T (inside frequent start)
unfolding inside held pick frequent start
frequent_in_start = tt

-- every start is a continuation
pub start_continues : (c : ℕ) → is_start c ≡ true → is_continue c ≡ true
unfolding is_start is_continue
start_continues c m = inside_holds start continue start_in_continue c m

-- every character of the frequent ranges is a start
frequent_starts : (c : ℕ) → member frequent c ≡ true → is_start c ≡ true
unfolding is_start
frequent_starts c m = inside_holds frequent start frequent_in_start c m

-- each of these ranges by its number
pub frequent_range : (k c : ℕ) → k < pairs frequent → lo_at frequent k ≤ c → c ≤ hi_at frequent k → is_start c ≡ true
frequent_range k c h l u = frequent_starts c (found frequent c k h l u)

-- two that a number stands between: Latin letters, Greek and Cyrillic letters
pub latin_starts : (c : ℕ) → 0xC0 ≤ c → c < 0xF8 → (c ≡ 0xD7 → ⊥) → (c ≡ 0xF7 → ⊥) → is_start c ≡ true
unfolding frequent pairs lo_at hi_at
latin_starts c l u m n = go (ltb c 0xD7) refl
  where
    go : (x : Bool) → ltb c 0xD7 ≡ x → is_start c ≡ true
    go true e = frequent_range 0 c (omega arith) l (omega (arith, ltb-true c 0xD7 e))
    go false e = frequent_range 1 c (omega arith) (omega (arith, ltb-false c 0xD7 e, m)) (omega (arith, n))

pub greek_starts : (c : ℕ) → 0x3A3 ≤ c → c ≤ 0x481 → (c ≡ 0x3F6 → ⊥) → is_start c ≡ true
unfolding frequent pairs lo_at hi_at
greek_starts c l u m = go (ltb c 0x3F6) refl
  where
    go : (x : Bool) → ltb c 0x3F6 ≡ x → is_start c ≡ true
    go true e = frequent_range 3 c (omega arith) l (omega (arith, ltb-true c 0x3F6 e))
    go false e = frequent_range 4 c (omega arith) (omega (arith, ltb-false c 0x3F6 e, m)) u

-- no continuation is whitespace
pub continue_no_space : (c : ℕ) → is_continue c ≡ true → is_space c ≡ false
unfolding is_continue is_space
continue_no_space c m = apart_holds 0 0 continue space continue_ascending space_ascending continue_off_space c m

-- no start is whitespace
pub start_no_space : (c : ℕ) → is_start c ≡ true → is_space c ≡ false
start_no_space c m = continue_no_space c (start_continues c m)

-- what is no continuation is no start
pub no_continue_no_start : (c : ℕ) → is_continue c ≡ false → is_start c ≡ false
no_continue_no_start c n = not_so (is_start c) (λ m. true≢false (sym (start_continues c m) ∙ n))

-- no whitespace is a continuation
pub space_no_continue : (c : ℕ) → is_space c ≡ true → is_continue c ≡ false
space_no_continue c m = not_so (is_continue c) (λ k. true≢false (sym m ∙ continue_no_space c k))

-- no whitespace is a start
pub space_no_start : (c : ℕ) → is_space c ≡ true → is_start c ≡ false
space_no_start c m = no_continue_no_start c (space_no_continue c m)

-- the list has c
abbrev pub among : List ℕ → ℕ → Bool
among [] c = false
among (x ∷ xs) c = either (eqb c x) (among xs c)

-- no number of the list passes the test
unfoldable refused : (ℕ → Bool) → List ℕ → Bool
refused f [] = true
refused f (x ∷ xs) = both (not (f x)) (refused f xs)

-- so none that it has passes it
refused_holds : (f : ℕ → Bool) (xs : List ℕ) → T (refused f xs) → (c : ℕ) → T (among xs c) → f c ≡ false
unfolding refused
refused_holds f [] r c m = absurd m
refused_holds f (x ∷ xs) r c m = go (refused_holds f xs (right_of (not (f x)) (refused f xs) r) c) (eqb c x) refl m
  where
    first : (b : Bool) → T (not b) → b ≡ false
    first true t = absurd t
    first false t = refl

    go : (T (among xs c) → f c ≡ false) → (b : Bool) → eqb c x ≡ b → T (either b (among xs c)) → f c ≡ false
    go k true e m = ap f (eqb-true c x e) ∙ first (f x) (left_of (not (f x)) (refused f xs) r)
    go k false e m = k m

-- the marks of a placeholder: " # $ * + , - . : < = > ? ^ { }
abbrev pub marks : List ℕ
marks = 0x22 ∷ 0x23 ∷ 0x24 ∷ 0x2A ∷ 0x2B ∷ 0x2C ∷ 0x2D ∷ 0x2E ∷ 0x3A ∷ 0x3C ∷ 0x3D ∷ 0x3E ∷ 0x3F ∷ 0x5E ∷ 0x7B ∷ 0x7D ∷ []

-- no mark is a continuation
pub mark_no_continue : (c : ℕ) → T (among marks c) → is_continue c ≡ false
unfolding is_continue member continue refused
mark_no_continue c m = refused_holds is_continue marks tt c m

-- no mark is a start
pub mark_no_start : (c : ℕ) → T (among marks c) → is_start c ≡ false
mark_no_start c m = no_continue_no_start c (mark_no_continue c m)

-- no mark is whitespace
pub mark_no_space : (c : ℕ) → T (among marks c) → is_space c ≡ false
unfolding is_space member space refused
mark_no_space c m = refused_holds is_space marks tt c m

-- the ASCII digits
digits : List ℕ
digits = 0x30 ∷ 0x39 ∷ []

-- a digit is in that table
in_digits : (c : ℕ) → within c 0x30 0x39 ≡ true → member digits c ≡ true
unfolding digits
in_digits c m = first_holds 0x30 0x39 [] c (within_low 0x30 0x39 m) (within_high 0x30 0x39 m)

-- that table compared
digits_in_continue : T (inside digits continue)
unfolding inside held pick digits continue
digits_in_continue = tt

digits_off_start : T (apart digits start)
unfolding apart clear pick digits start
digits_off_start = tt

digits_ascending : T (ascending 0 digits)
unfolding ascending digits
digits_ascending = tt

-- a digit is a continuation
pub digit_continues : (c : ℕ) → within c 0x30 0x39 ≡ true → is_continue c ≡ true
unfolding is_continue
digit_continues c m = inside_holds digits continue digits_in_continue c (in_digits c m)

-- no digit is a start
pub digit_no_start : (c : ℕ) → within c 0x30 0x39 ≡ true → is_start c ≡ false
unfolding is_start
digit_no_start c m = apart_holds 0 0 digits start digits_ascending start_ascending digits_off_start c (in_digits c m)

-- no digit is whitespace
pub digit_no_space : (c : ℕ) → within c 0x30 0x39 ≡ true → is_space c ≡ false
digit_no_space c m = continue_no_space c (digit_continues c m)
