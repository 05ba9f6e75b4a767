-- The plain form of each element, and that it fits wherever the element did. Rests on Digits, and on grammar's Grammar and unique's Device.
use Rattle.std.specs.Prelude.{◌≡◌, refl, ◌≢◌, List, [], ◌∷◌, ◌++◌, Bool, true, false, ℕ, ◌+◌, ◌-◌, ◌*◌, ◌≤◌, eqb}
use Rattle.std.proofs.Common.{ap, sym, ◌∙◌, inr, true≢false, arith, eqb-true, ne_eqb}
use Rattle.std.proofs.lemmas.Bool.{false≢true, eqb-false}
use Rattle.utf8.specs.Choice.{pick, within}
use Rattle.letters.specs.Questions.{is_start, is_continue}
use Rattle.letters.specs.QuestionLaws.{start_continues, mark_no_continue}
use Rattle.scan.specs.Words.{is_digit}
use Rattle.frame.specs.declared.Mode.{Mode}
use Rattle.grammar.specs.Grammar.{All, Space, Continue, Digit, NextBrace, value, Number, Position, next, number, word, Alignment, left, right, center, align_char, Lead, unaligned, aligned, filled, Signed, unsigned, plus, minus, Width, implied, fixed, by_argument, by_name, Precision, undotted, star, dot, Letter, lower, upper, letter_char, Typing, untyped, debug, hex_debug, hex, typed, FormatSpec, SpecText, format_spec, unmodified, modifier, free_text, Tail, bare, colon, Inside, Element, run, opened, closed, placeholder}
use Rattle.grammar.specs.Grammar.{FitsPosition, written_lead, written_sign, written_flag, written_width, FitsWidth, written_precision, FitsPrecision, written_typing, FitsTyping, from_zero, written_format, FitsFormat, FitsSpec, FitsTail, written_all, FitsAll}
use Rattle.unique.specs.Device.Runs.{case_b, Begins, differs}
use Rattle.unique.specs.Device.Classes.{precision_first, width_first, precision_digit, start_digit, width_mark}
use Rattle.unique.specs.Device.Parser.{is_side, side}
use Rattle.unique.specs.Device.Made.{char_side, side_of_lem}
use Rattle.unique.specs.Device.Given.{space_begins, typing_begins, precision_begins, width_begins, precision_dollar}
use Rattle.unique.specs.Device.Splits.{format_split}
use Rattle.pen.specs.Pens.{digits}
use Rattle.plain.proofs.Device.Digits.{first, others, digits_spell}

-- THE PLAIN FORM
abbrev pub leading : ℕ → List ℕ → ℕ
leading d r = first (digits (value 0 (d ∷ r)))

abbrev pub following : ℕ → List ℕ → List ℕ
following d r = others (digits (value 0 (d ∷ r)))

abbrev pub plain_width : Width → Width
plain_width implied = implied
plain_width (fixed d r) = fixed (leading d r) (following d r)
plain_width (by_argument d r) = by_argument (leading d r) (following d r)
plain_width (by_name c r) = by_name c r

-- "no `.` without precision"
abbrev pub plain_dot : Width → Precision
plain_dot implied = undotted
plain_dot (fixed d r) = dot (plain_width (fixed d r))
plain_dot (by_argument d r) = dot (plain_width (by_argument d r))
plain_dot (by_name c r) = dot (by_name c r)

abbrev pub plain_precision : Precision → Precision
plain_precision undotted = undotted
plain_precision star = star
plain_precision (dot w) = plain_dot w

abbrev pub plain_position : Position → Position
plain_position next = next
plain_position (number d r) = number (leading d r) (following d r)
plain_position (word c r) = word c r

abbrev pub plain_format : FormatSpec → FormatSpec
plain_format f =
    record {
      lead = f.lead;
      sign = f.sign;
      alternate = f.alternate;
      zero = f.zero;
      width = plain_width f.width;
      precision = plain_precision f.precision;
      typing = f.typing;
    }

-- "no colon without a spec"
abbrev pub unless_blank : SpecText → List ℕ → Tail
unless_blank s [] = bare
unless_blank s (c ∷ r) = colon s []

abbrev pub plain_tail : Tail → Tail
plain_tail bare = bare
plain_tail (colon (format_spec f) w) = unless_blank (format_spec (plain_format f)) (written_format (plain_format f) [])
plain_tail (colon unmodified w) = bare
plain_tail (colon (modifier c r) w) = colon (modifier c r) []
plain_tail (colon (free_text r) w) = unless_blank (free_text r) r

abbrev pub plain_inside : Inside → Inside
plain_inside a = record { position = plain_position a.position; space = []; tail = plain_tail a.tail }

abbrev pub plain_element : Element → Element
plain_element (run c r) = run c r
plain_element (opened r) = opened r
plain_element (closed r) = closed r
plain_element (placeholder a) = placeholder (plain_inside a)

abbrev pub plainly : List Element → List Element
plainly [] = []
plainly (e ∷ es) = plain_element e ∷ plainly es

-- NUMBERS stay numbers
number_plain : (d : ℕ) (r : List ℕ) → Number d r → Number (leading d r) (following d r)
number_plain d r n =
    let s = digits_spell (value 0 (d ∷ r)) n.small in
    let e = s.worth in
    record { first = s.leads; others = s.follow; small = rw e n.small }

width_plain : (w : Width) → FitsWidth w → FitsWidth (plain_width w)
width_plain implied h = tt
width_plain (fixed d r) h = number_plain d r h
width_plain (by_argument d r) h = number_plain d r h
width_plain (by_name c r) h = h

precision_plain : (p : Precision) → FitsPrecision p → FitsPrecision (plain_precision p)
precision_plain undotted h = tt
precision_plain star h = tt
precision_plain (dot implied) h = tt
precision_plain (dot (fixed d r)) h = number_plain d r h
precision_plain (dot (by_argument d r)) h = number_plain d r h
precision_plain (dot (by_name c r)) h = h

position_plain : (p : Position) → FitsPosition p → FitsPosition (plain_position p)
position_plain next h = tt
position_plain (number d r) h = number_plain d r h
position_plain (word c r) h = h

-- NO ALIGN stands after the lead
abbrev NoSide : ℕ → Type 0
NoSide c = is_side c ≡ false

no_side : (c : ℕ) → c ≢ 0x3C → c ≢ 0x3E → c ≢ 0x5E → NoSide c
no_side c x y z = cc (ne_eqb c 0x3C x, ne_eqb c 0x3E y, ne_eqb c 0x5E z)

digit_side : (c : ℕ) → Digit c → NoSide c
digit_side c h = no_side c (λ e. omega arith) (λ e. omega arith) (λ e. omega arith)

continue_side : (c : ℕ) → is_continue c ≡ true → NoSide c
continue_side c h =
    cc (differs is_continue c 0x3C h (mark_no_continue 0x3C tt), differs is_continue c 0x3E h (mark_no_continue 0x3E tt), differs is_continue c 0x5E h (mark_no_continue 0x5E tt))

start_side : (c : ℕ) → is_start c ≡ true → NoSide c
start_side c h = continue_side c (start_continues c h)

letter_side : (x : Letter) → NoSide (letter_char x)
letter_side lower = refl
letter_side upper = refl

sides : (P : ℕ → Type 0) → ((c : ℕ) → P c → NoSide c) → (r t : List ℕ) → All P r → All NoSide t → All NoSide (r ++ t)
sides P g [] t a b = b
sides P g (c ∷ r) t a b = (g c a.0, sides P g r t a.1 b)

width_sides : (w : Width) (t : List ℕ) → FitsWidth w → All NoSide t → All NoSide (written_width w t)
width_sides implied t h a = a
width_sides (fixed d r) t h a = (digit_side d h.first, sides Digit digit_side r t h.others a)
width_sides (by_argument d r) t h a = (digit_side d h.first, sides Digit digit_side r (0x24 ∷ t) h.others (refl, a))
width_sides (by_name c r) t h a = (start_side c h.first, sides Continue continue_side r (0x24 ∷ t) h.others (refl, a))

precision_sides : (p : Precision) (t : List ℕ) → FitsPrecision p → All NoSide t → All NoSide (written_precision p t)
precision_sides undotted t h a = a
precision_sides star t h a = (refl, (refl, a))
precision_sides (dot w) t h a = (refl, width_sides w t h a)

typing_sides : (k : Typing) → FitsTyping k → All NoSide (written_typing k [])
typing_sides untyped h = tt
typing_sides debug h = (refl, tt)
typing_sides (hex_debug x) h = (letter_side x, (refl, tt))
typing_sides (hex x) h = (letter_side x, tt)
typing_sides (typed c r) h = (start_side c h.0.first, sides Continue continue_side r [] h.0.others tt)

flag_sides : (c : ℕ) (b : Bool) (t : List ℕ) → NoSide c → All NoSide t → All NoSide (written_flag c b t)
flag_sides c false t n a = a
flag_sides c true t n a = (n, a)

sign_sides : (s : Signed) (t : List ℕ) → All NoSide t → All NoSide (written_sign s t)
sign_sides unsigned t a = a
sign_sides plus t a = (refl, a)
sign_sides minus t a = (refl, a)

-- CHOICE 1
head : {c d : ℕ} {r s : List ℕ} → c ∷ r ≡ d ∷ s → c ≡ d
head e = cc

tail : {c d : ℕ} {r s : List ℕ} → c ∷ r ≡ d ∷ s → r ≡ s
tail e = cc

close_align : (a : Alignment) → 0x7D ≡ align_char a → ⊥
close_align left e = omega arith
close_align right e = omega arith
close_align center e = omega arith

side_not : (c : ℕ) (a : Alignment) → NoSide c → c ≡ align_char a → ⊥
side_not c a n e = true≢false (cc (char_side a))

lead_choice : (l : Lead) (b u : List ℕ) → All NoSide b → (written_lead l b ≡ [] → ⊥) → (c : ℕ) (a : Alignment) (v : List ℕ) →
    written_lead l b ++ (0x7D ∷ u) ≡ c ∷ align_char a ∷ v → l ≡ filled c a
lead_choice unaligned [] u n k c a v e = absurd (k refl)
lead_choice unaligned (x ∷ []) u n k c a v e = absurd (close_align a (head (tail e)))
lead_choice unaligned (x ∷ y ∷ b) u n k c a v e = absurd (side_not y a n.1.0 (head (tail e)))
lead_choice (aligned s) [] u n k c a v e = absurd (close_align a (head (tail e)))
lead_choice (aligned s) (x ∷ b) u n k c a v e = absurd (side_not x a n.0 (head (tail e)))
lead_choice (filled d s) b u n k c a v e =
    let q : s ≡ a = sym (side_of_lem s) ∙ (ap side (head (tail e)) ∙ side_of_lem a) in
    ap (λ x. filled x s) (head e) ∙ ap (filled c) q

-- CHOICE 2
grows : (n : ℕ) (r : List ℕ) → n ≤ value n r
grows n [] = omega arith
grows n (d ∷ r) = let i = grows (n * 10 + (d - 0x30)) r in omega (arith, i)

some_value : (d : ℕ) (r : List ℕ) → Digit d → d ≢ 0x30 → 1 ≤ value 0 (d ∷ r)
some_value d r h n = let i = grows (0 * 10 + (d - 0x30)) r in omega (arith, i)

not_zero : (d : ℕ) (r : List ℕ) → Number d r → d ≢ 0x30 → leading d r ≡ 0x30 → ⊥
not_zero d r h n e = let l = (digits_spell (value 0 (d ∷ r)) h.small).no_zero (some_value d r h.first n) in omega (arith, l)

zero_others : others (digits 0) ≡ []
unfolding digits pick
zero_others = refl

no_digit_zero : (c : ℕ) → is_digit c ≡ false → c ≡ 0x30 → ⊥
unfolding is_digit within
no_digit_zero c h e = false≢true (cc)

digit_dollar : (c : ℕ) → Digit c → c ≡ 0x24 → ⊥
digit_dollar c h e = omega arith

-- no `$` stands first after digits, or where a precision may
dollar_off : (r t : List ℕ) → All Digit r → Begins precision_first t → (x : List ℕ) → r ++ t ≢ 0x24 ∷ x
dollar_off [] [] a b x e = b
dollar_off [] (c ∷ t) a b x e = eqb-false c 0x24 (precision_dollar c b) (head e)
dollar_off (c ∷ r) t a b x e = digit_dollar c a.0 (head e)

-- nor a `0` where a precision may
first_not : (t : List ℕ) → Begins precision_first t → {v : List ℕ} → t ≡ 0x30 ∷ v → ⊥
first_not [] b e = b
first_not (c ∷ t) b e = no_digit_zero c (precision_digit c b) (head e)

module _ (s t : List ℕ) (bs : Begins precision_first s) (bt : Begins precision_first t) where
  -- before s the width stood, before t its plain form stands
  flag_choice : (z : Bool) (w : Width) → FitsWidth w →
      ((v : List ℕ) → written_flag 0x30 z (written_width w s) ≡ 0x30 ∷ v → ((x : List ℕ) → v ≢ 0x24 ∷ x) → z ≡ true) →
      (v : List ℕ) → written_flag 0x30 z (written_width (plain_width w) t) ≡ 0x30 ∷ v → ((x : List ℕ) → v ≢ 0x24 ∷ x) → z ≡ true
  flag_choice true w h o v e n = refl
  flag_choice false implied h o v e n = absurd (first_not t bt e)
  flag_choice false (fixed d r) h o v e n =
      absurd (not_zero d r h (λ q. false≢true (o (r ++ s) (ap (λ c. c ∷ (r ++ s)) q) (dollar_off r s h.others bs))) (head e))
  flag_choice false (by_argument d []) h o v e n =
      absurd (case_b (eqb d 0x30)
      (λ k.
      let q : value 0 (d ∷ []) ≡ 0 = let j = eqb-true d 0x30 k in omega arith in
      n t (sym (tail e) ∙ ap (λ (l : List ℕ). l ++ (0x24 ∷ t)) (ap (λ i. others (digits i)) q ∙ zero_others)))
      (λ k. not_zero d [] h (eqb-false d 0x30 k) (head e)))
  flag_choice false (by_argument d (x ∷ r)) h o v e n =
      absurd (not_zero d (x ∷ r) h
      (λ q. false≢true (o (x ∷ (r ++ (0x24 ∷ s))) (ap (λ c. c ∷ x ∷ (r ++ (0x24 ∷ s))) q) (λ y i. digit_dollar x h.others.0 (head i)))) (head e))
  flag_choice false (by_name c r) h o v e n = absurd (no_digit_zero c (start_digit c h.first) (head e))

-- `0$` is that width
only_zero : (d : ℕ) (r t v : List ℕ) → All Digit r → d ∷ (r ++ (0x24 ∷ t)) ≡ 0x30 ∷ 0x24 ∷ v → by_argument d r ≡ by_argument 0x30 []
only_zero d [] t v a e = ap (λ c. by_argument c []) (head e)
only_zero d (x ∷ r) t v a e = absurd (digit_dollar x a.0 (head (tail e)))

dollar_width : (w : Width) (t : List ℕ) → FitsWidth w → Begins precision_first t → (v : List ℕ) → written_width w t ≡ 0x30 ∷ 0x24 ∷ v → w ≡ by_argument 0x30 []
dollar_width implied t h b v e = absurd (first_not t b e)
dollar_width (fixed d r) t h b v e = absurd (dollar_off r t h.others b v (tail e))
dollar_width (by_argument d r) t h b v e = only_zero d r t v h.others e
dollar_width (by_name c r) t h b v e = absurd (no_digit_zero c (start_digit c h.first) (head e))

dollar_first : (t : List ℕ) → Begins width_first t → {v : List ℕ} → t ≡ 0x24 ∷ v → ⊥
unfolding is_digit within
dollar_first [] b e = b
dollar_first (c ∷ t) b e = eqb-false c 0x24 (width_mark 0x24 tt refl refl refl refl c b) (head e)

dollar_choice : (z : Bool) (w : Width) (t : List ℕ) → FitsWidth w → Begins precision_first t → (v : List ℕ) →
    written_flag 0x30 z (written_width w t) ≡ 0x30 ∷ 0x24 ∷ v → w ≡ by_argument 0x30 []
dollar_choice false w t h b v e = dollar_width w t h b v e
dollar_choice true w t h b v e = absurd (dollar_first (written_width w t) (width_begins w t h b) (tail e))

-- A FORMAT SPEC
format_plain : (f : FormatSpec) (w t u : List ℕ) → All Space w → FitsFormat f (w ++ (0x7D ∷ t)) → (written_format (plain_format f) [] ≡ [] → ⊥) →
    FitsFormat (plain_format f) (0x7D ∷ u)
format_plain f w t u sp h n =
    let g = plain_format f in
    let e = space_begins w t sp in
    let bs = precision_begins f.precision _ (typing_begins f.typing (w ++ (0x7D ∷ t)) h.typing e) in
    let bt = precision_begins g.precision _ (typing_begins f.typing (0x7D ∷ u) h.typing refl) in
    let hw = width_plain f.width h.width in
    let hp = precision_plain f.precision h.precision in
    let b : List ℕ = written_sign f.sign (written_flag 0x23 f.alternate (from_zero g [])) in
    let ab : All NoSide b =
    sign_sides f.sign _ (flag_sides 0x23 f.alternate _ refl (flag_sides 0x30 f.zero _ refl (width_sides g.width _ hw (precision_sides g.precision _ hp (typing_sides f.typing h.typing)))))
    in
    record {
      choice1 = λ c a v q. lead_choice f.lead b u ab n c a v (sym (format_split g (0x7D ∷ u)) ∙ q);
      choice2 = flag_choice _ _ bs bt f.zero f.width h.width h.choice2;
      choice2$ = dollar_choice f.zero g.width _ hw bt;
      width = hw;
      precision = hp;
      typing = h.typing;
    }

-- ELEMENTS
blank_plain : (m : Mode) (s : SpecText) (x u : List ℕ) → ((x ≡ [] → ⊥) → FitsSpec m s (0x7D ∷ u)) → FitsTail m (unless_blank s x) (0x7D ∷ u)
blank_plain m s [] u g = tt
blank_plain m s (c ∷ r) u g = (g (λ e. true≢false (cc)), tt)

tail_plain : (m : Mode) (y : Tail) (t u : List ℕ) → FitsTail m y (0x7D ∷ t) → FitsTail m (plain_tail y) (0x7D ∷ u)
tail_plain m bare t u h = tt
tail_plain Mode.Format (colon (format_spec f) w) t u h = blank_plain Mode.Format (format_spec (plain_format f)) _ u (λ n. format_plain f w t u h.1 h.0 n)
tail_plain Mode.Format (colon unmodified w) t u h = absurd h.0
tail_plain Mode.Format (colon (modifier c r) w) t u h = absurd h.0
tail_plain Mode.Format (colon (free_text r) w) t u h = absurd h.0
tail_plain Mode.InlineAsm (colon (format_spec f) w) t u h = absurd h.0
tail_plain Mode.InlineAsm (colon unmodified w) t u h = tt
tail_plain Mode.InlineAsm (colon (modifier c r) w) t u h = (h.0, tt)
tail_plain Mode.InlineAsm (colon (free_text r) w) t u h = absurd h.0
tail_plain Mode.Diagnostic (colon (format_spec f) w) t u h = absurd h.0
tail_plain Mode.Diagnostic (colon unmodified w) t u h = absurd h.0
tail_plain Mode.Diagnostic (colon (modifier c r) w) t u h = absurd h.0
tail_plain Mode.Diagnostic (colon (free_text r) w) t u h = blank_plain Mode.Diagnostic (free_text r) r u (λ n. (h.0.0, inr refl))

next_brace : (es : List Element) → NextBrace (written_all es []) → NextBrace (written_all (plainly es) [])
next_brace [] h = h
next_brace (run c r ∷ es) h = h
next_brace (opened r ∷ es) h = h
next_brace (closed r ∷ es) h = h
next_brace (placeholder a ∷ es) h = h

-- THE PLAIN FORM OF A READING FITS
pub plainly_fits : (m : Mode) (es : List Element) → FitsAll m es [] → FitsAll m (plainly es) []
plainly_fits m [] h = tt
plainly_fits m (run c r ∷ es) h = ((h.0.0, h.0.1, next_brace es h.0.2), plainly_fits m es h.1)
plainly_fits m (opened r ∷ es) h = ((h.0.0, next_brace es h.0.1), plainly_fits m es h.1)
plainly_fits m (closed r ∷ es) h = ((h.0.0, next_brace es h.0.1), plainly_fits m es h.1)
plainly_fits m (placeholder a ∷ es) h = (
  record { position = position_plain a.position h.0.position; space = tt; tail = tail_plain m a.tail (written_all es []) (written_all (plainly es) []) h.0.tail },
  plainly_fits m es h.1,
)
