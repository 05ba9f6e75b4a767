-- The grammar's words for characters beside the tests that the reading asks, and the classes of characters by which what is left of a
-- placeholder can begin. Rests on Runs and on `letters`' laws of the three questions.
use Rattle.std.specs.Prelude.{◌≡◌, refl, List, [], ◌∷◌, Bool, true, false, ◌||◌, ℕ, eqb, T}
use Rattle.std.proofs.Common.{sym, ◌∙◌, inl, inr, true≢false, eqb-true}
use Rattle.std.proofs.lemmas.Bool.{false≢true, eqb-false}
use Rattle.utf8.specs.Choice.{pick, within}
use Rattle.utf8.specs.ChoiceLaws.{not_so, within_low, within_high, in_within}
use Rattle.letters.specs.Questions.{is_space, is_start, is_continue}
use Rattle.letters.specs.QuestionLaws.{among, marks, space_no_continue, space_no_start, mark_no_continue, mark_no_start, mark_no_space, digit_no_start, digit_no_space}
use Rattle.scan.specs.Characters.{is_plain}
use Rattle.scan.specs.Words.{is_digit}
use Rattle.grammar.specs.Grammar.{All, Digit, Brace, Plain, NextBrace}
use Rattle.unique.specs.Device.Runs.{case_b, Passes, Stops, differs}

-- DIGITS AND BRACES
pub to_digit : (c : ℕ) → is_digit c ≡ true → Digit c
unfolding is_digit
to_digit c h = (within_low 0x30 0x39 h, within_high 0x30 0x39 h)

pub of_digit : (c : ℕ) → Digit c → is_digit c ≡ true
unfolding is_digit
of_digit c h = in_within h.0 h.1

pub to_brace : (c : ℕ) → is_plain c ≡ false → Brace c
unfolding is_plain pick
to_brace c h =
    case_b (eqb c 0x7B)
    (λ k. inl (eqb-true c 0x7B k))
    (λ k. inr (eqb-true c 0x7D (case_b (eqb c 0x7D) (λ l. l) (λ l. absurd (true≢false (cc))))))

pub of_brace : (c : ℕ) → Brace c → is_plain c ≡ false
unfolding is_plain pick
of_brace c (inl e) = rw e
of_brace c (inr e) = rw e

pub to_plain : (c : ℕ) → is_plain c ≡ true → Plain c
to_plain c h b = true≢false (sym h ∙ of_brace c b)

pub of_plain : (c : ℕ) → Plain c → is_plain c ≡ true
of_plain c h = case_b (is_plain c) (λ k. k) (λ k. absurd (h (to_brace c k)))

pub plain_brace : (c : ℕ) → eqb c 0x7B ≡ false → eqb c 0x7D ≡ false → Plain c
plain_brace c h k (inl e) = eqb-false c 0x7B h e
plain_brace c h k (inr e) = eqb-false c 0x7D k e

-- what holds of each holds of all
pub all_map : (P Q : ℕ → Type 0) → ((c : ℕ) → P c → Q c) → (r : List ℕ) → All P r → All Q r
all_map P Q f [] a = tt
all_map P Q f (c ∷ r) a = (f c a.0, all_map P Q f r a.1)

pub to_digits : (r : List ℕ) → Passes is_digit r → All Digit r
to_digits r a = all_map (λ c. is_digit c ≡ true) Digit to_digit r a

pub of_digits : (r : List ℕ) → All Digit r → Passes is_digit r
of_digits r a = all_map Digit (λ c. is_digit c ≡ true) of_digit r a

pub to_plains : (r : List ℕ) → Passes is_plain r → All Plain r
to_plains r a = all_map (λ c. is_plain c ≡ true) Plain to_plain r a

pub of_plains : (r : List ℕ) → All Plain r → Passes is_plain r
of_plains r a = all_map Plain (λ c. is_plain c ≡ true) of_plain r a

pub to_next_brace : (t : List ℕ) → Stops is_plain t → NextBrace t
to_next_brace [] s = tt
to_next_brace (c ∷ t) s = to_brace c s

pub of_next_brace : (t : List ℕ) → NextBrace t → Stops is_plain t
of_next_brace [] s = tt
of_next_brace (c ∷ t) s = of_brace c s

-- THE CLASSES APART
pub start_digit : (c : ℕ) → is_start c ≡ true → is_digit c ≡ false
unfolding is_digit
start_digit c h = not_so (within c 0x30 0x39) (λ d. true≢false (sym h ∙ digit_no_start c d))

pub space_digit : (c : ℕ) → is_space c ≡ true → is_digit c ≡ false
unfolding is_digit
space_digit c h = not_so (within c 0x30 0x39) (λ d. true≢false (sym h ∙ digit_no_space c d))

-- by cases on an `||`
pub either_case : {P : Type 0} (a b : Bool) → (a || b) ≡ true → (a ≡ true → P) → (b ≡ true → P) → P
either_case true b h f g = f refl
either_case false b h f g = g h

-- the characters by which what is left can begin, from the back to the front: after a spec,
abbrev pub ender : ℕ → Bool
ender c = eqb c 0x7D || is_space c

-- from the type on,
abbrev pub typing_first : ℕ → Bool
typing_first c = eqb c 0x3F || (is_start c || ender c)

-- from the precision on,
abbrev pub precision_first : ℕ → Bool
precision_first c = eqb c 0x2E || typing_first c

-- from the flag `0` or the width on,
abbrev pub width_first : ℕ → Bool
width_first c = is_digit c || precision_first c

-- from `#` on,
abbrev pub hash_first : ℕ → Bool
hash_first c = eqb c 0x23 || width_first c

-- from the sign on
abbrev pub sign_first : ℕ → Bool
sign_first c = eqb c 0x2B || (eqb c 0x2D || hash_first c)

-- after a place and its whitespace,
abbrev pub tail_first : ℕ → Bool
tail_first c = eqb c 0x3A || eqb c 0x7D

-- after a place
abbrev pub space_first : ℕ → Bool
space_first c = is_space c || tail_first c

-- what may stand in a later class may stand in an earlier one
pub or_right : (a b : Bool) → b ≡ true → (a || b) ≡ true
or_right true b h = refl
or_right false b h = h

pub or_left : (a b : Bool) → a ≡ true → (a || b) ≡ true
or_left true b h = refl
or_left false b h = absurd (false≢true h)

-- no ender is a continuation, a start or a digit
pub ender_continue : (c : ℕ) → ender c ≡ true → is_continue c ≡ false
ender_continue c h =
    either_case (eqb c 0x7D) (is_space c) h (λ e. rw (eqb-true c 0x7D e) (mark_no_continue 0x7D tt)) (λ e. space_no_continue c e)

pub ender_start : (c : ℕ) → ender c ≡ true → is_start c ≡ false
ender_start c h = either_case (eqb c 0x7D) (is_space c) h (λ e. rw (eqb-true c 0x7D e) (mark_no_start 0x7D tt)) (λ e. space_no_start c e)

pub ender_digit : (c : ℕ) → ender c ≡ true → is_digit c ≡ false
unfolding is_digit within
ender_digit c h = either_case (eqb c 0x7D) (is_space c) h (λ e. rw (eqb-true c 0x7D e)) (λ e. space_digit c e)

-- neither a precision nor a type begins with a digit
pub typing_digit : (c : ℕ) → typing_first c ≡ true → is_digit c ≡ false
unfolding is_digit within
typing_digit c h =
    either_case (eqb c 0x3F) (is_start c || ender c) h
    (λ e. rw (eqb-true c 0x3F e))
    (λ k. either_case (is_start c) (ender c) k (λ e. start_digit c e) (λ e. ender_digit c e))

pub precision_digit : (c : ℕ) → precision_first c ≡ true → is_digit c ≡ false
unfolding is_digit within
precision_digit c h = either_case (eqb c 0x2E) (typing_first c) h (λ e. rw (eqb-true c 0x2E e)) (λ e. typing_digit c e)

-- what follows a place is no continuation, start or digit
pub space_first_continue : (c : ℕ) → space_first c ≡ true → is_continue c ≡ false
space_first_continue c h =
    either_case (is_space c) (tail_first c) h
    (λ e. space_no_continue c e)
    (λ k.
    either_case (eqb c 0x3A) (eqb c 0x7D) k
    (λ e. rw (eqb-true c 0x3A e) (mark_no_continue 0x3A tt))
    (λ e. rw (eqb-true c 0x7D e) (mark_no_continue 0x7D tt)))

pub space_first_start : (c : ℕ) → space_first c ≡ true → is_start c ≡ false
space_first_start c h =
    either_case (is_space c) (tail_first c) h
    (λ e. space_no_start c e)
    (λ k. either_case (eqb c 0x3A) (eqb c 0x7D) k (λ e. rw (eqb-true c 0x3A e) (mark_no_start 0x3A tt)) (λ e. rw (eqb-true c 0x7D e) (mark_no_start 0x7D tt)))

pub space_first_digit : (c : ℕ) → space_first c ≡ true → is_digit c ≡ false
unfolding is_digit within
space_first_digit c h =
    either_case (is_space c) (tail_first c) h
    (λ e. space_digit c e)
    (λ k. either_case (eqb c 0x3A) (eqb c 0x7D) k (λ e. rw (eqb-true c 0x3A e)) (λ e. rw (eqb-true c 0x7D e)))

-- MARKS that a class leaves out
module _ (k : ℕ) (m : T (among marks k)) where
  ender_off : eqb k 0x7D ≡ false → ender k ≡ false
  ender_off p = cc (mark_no_space k m)

  typing_off : eqb k 0x3F ≡ false → eqb k 0x7D ≡ false → typing_first k ≡ false
  typing_off q p = cc (mark_no_start k m, ender_off p)

-- no such mark stands where a class does
pub ender_mark : (k : ℕ) → T (among marks k) → eqb k 0x7D ≡ false → (c : ℕ) → ender c ≡ true → eqb c k ≡ false
ender_mark k m p c h = differs ender c k h (ender_off k m p)

pub typing_mark : (k : ℕ) → T (among marks k) → eqb k 0x3F ≡ false → eqb k 0x7D ≡ false → (c : ℕ) → typing_first c ≡ true → eqb c k ≡ false
typing_mark k m q p c h = differs typing_first c k h (typing_off k m q p)

pub width_mark : (k : ℕ) → T (among marks k) → is_digit k ≡ false → eqb k 0x2E ≡ false → eqb k 0x3F ≡ false → eqb k 0x7D ≡ false → (c : ℕ) →
    width_first c ≡ true → eqb c k ≡ false
width_mark k m d r q p c h = differs width_first c k h (cc (typing_off k m q p))

pub hash_mark : (k : ℕ) → T (among marks k) → is_digit k ≡ false → eqb k 0x23 ≡ false → eqb k 0x2E ≡ false → eqb k 0x3F ≡ false → eqb k 0x7D ≡ false →
    (c : ℕ) → hash_first c ≡ true → eqb c k ≡ false
hash_mark k m d x r q p c h = differs hash_first c k h (cc (typing_off k m q p))
