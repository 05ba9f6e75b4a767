-- What is written and fits is what each part of the parser gives. Rests on Parser, Classes and Runs.
use Rattle.std.specs.Prelude.{◌≡◌, refl, ◌≢◌, List, [], ◌∷◌, ◌++◌, Bool, true, false, not, ◌||◌, ◌&&◌, ℕ, eqb}
use Rattle.std.proofs.Common.{sym, inl, inr, true≢false, arith, eqb-true, ne_eqb, le-leb}
use Rattle.std.proofs.Math.Bool.{and-false}
use Rattle.std.proofs.lemmas.Bool.{false≢true, eqb-false, not-true}
use Rattle.utf8.specs.Choice.{within}
use Rattle.letters.specs.Questions.{is_space, is_start, is_continue}
use Rattle.letters.specs.QuestionLaws.{start_no_space, mark_no_continue, mark_no_start, mark_no_space}
use Rattle.letters.specs.Start.{start}
use Rattle.letters.specs.Table.{member}
use Rattle.scan.specs.Characters.{is_plain}
use Rattle.scan.specs.Words.{is_digit}
use Rattle.frame.specs.declared.Mode.{Mode}
use Rattle.grammar.specs.Grammar.{All, Space, Brace, Plain, Number, Word, value, Position, next, number, word, Alignment, align_char, Lead, unaligned, aligned, filled, Signed, unsigned, plus, minus, Width, implied, fixed, by_argument, by_name, Precision, undotted, star, dot, Letter, lower, upper, letter_char, Typing, untyped, debug, hex_debug, hex, typed, FormatSpec, SpecText, format_spec, unmodified, modifier, free_text, Tail, bare, colon, Inside, Element, run, opened, closed, placeholder}
use Rattle.grammar.specs.Grammar.{written_position, FitsPosition, written_lead, written_sign, written_flag, written_width, FitsWidth, written_precision, FitsPrecision, written_typing, FitsTyping, from_width, from_zero, written_format, FitsFormat, written_spec, FitsSpec, written_tail, FitsTail, written_inside, FitsInside, written, Fits}
use Rattle.unique.specs.Device.Runs.{case_b, first, Passes, Stops, Begins, begins_stops, begins_map, take_run, drop_run, differs, never, and_left, and_right}
use Rattle.unique.specs.Device.Classes.{of_digit, of_digits, of_brace, of_plain, of_plains, of_next_brace, start_digit, or_left, or_right, ender, typing_first, precision_first, width_first, hash_first, sign_first, tail_first, space_first, ender_continue, ender_start, ender_digit, precision_digit, space_first_continue, space_first_start, space_first_digit, ender_mark, typing_mark, width_mark, hash_mark}
use Rattle.unique.specs.Device.Parser.{got, ok_number, ok_word, position_of, is_side, side, align_of, lead_of, sign_of, hash_of, zero_of, number_of, name_of, width_of, dot_of, precision_of, ok_debug, hex_of, typed_of, typing_of, t1, t2, t3, t4, t5, t6, t7, format_of, modifier_of, spec_of, tail_of, past_position, inside_of, piece, hash_word, raw_at, close_of, inside_step, open_step, close_step, step}
use Rattle.unique.specs.Device.Made.{side_char, char_side, side_of_lem}

-- NUMBERS AND WORDS
number_ok : (d : ℕ) (ds : List ℕ) → Number d ds → ok_number d ds ≡ true
unfolding ok_number
number_ok d ds n = le-leb (value 0 (d ∷ ds)) 65535 n.small

word_ok : (c : ℕ) (r : List ℕ) → Word c r → ok_word c r ≡ true
unfolding ok_word
word_ok c [] w = case_b (eqb c 0x5F) (λ k. absurd (w.named (cc (eqb-true c 0x5F k)))) (λ k. rw k)
word_ok c (d ∷ r) w = refl

-- AFTER A SPEC stands whitespace or the closing brace
pub space_begins : (w t : List ℕ) → All Space w → Begins ender (w ++ (0x7D ∷ t))
space_begins [] t a = refl
space_begins (c ∷ w) t a = or_right (eqb c 0x7D) (is_space c) a.0

module _ (t : List ℕ) (e : Begins ender t) where
  no_continue : Stops is_continue t
  no_continue = begins_stops ender is_continue ender_continue t e

  no_start : Stops is_start t
  no_start = begins_stops ender is_start ender_start t e

  no_digit : Stops is_digit t
  no_digit = begins_stops ender is_digit ender_digit t e

-- TYPE
letter_start : (x : Letter) → is_start (letter_char x) ≡ true
unfolding is_start member start
letter_start lower = refl
letter_start upper = refl

-- no ender is a letter x or X
ender_letter : (x : Letter) (c : ℕ) → ender c ≡ true → eqb c (letter_char x) ≡ false
ender_letter lower c e = differs ender c 0x78 e (start_no_space 0x78 (letter_start lower))
ender_letter upper c e = differs ender c 0x58 e (start_no_space 0x58 (letter_start upper))

letter_first : (x : Letter) → typing_first (letter_char x) ≡ true
letter_first lower = or_left (is_start 0x78) (ender 0x78) (letter_start lower)
letter_first upper = or_left (is_start 0x58) (ender 0x58) (letter_start upper)

-- a start is no mark
start_mark : (c k : ℕ) → is_start c ≡ true → is_start k ≡ false → eqb c k ≡ false
start_mark c k h n = differs is_start c k h n

typed_given : (c : ℕ) (r t : List ℕ) → FitsTyping (typed c r) → Begins ender t → typing_of (c ∷ (r ++ t)) ≡ got (typed c r) t true
unfolding typing_of typed_of
typed_given c r t f e =
    let w = f.0 in
    let n = no_continue t e in
    let s : is_start c ≡ true = w.first in
    cc (
      ne_eqb c 0x78 (f.1 lower),
      ne_eqb c 0x58 (f.1 upper),
      start_mark c 0x3F s (mark_no_start 0x3F tt),
      s,
      take_run is_continue r t w.others n,
      drop_run is_continue r t w.others n,
      word_ok c r w,
    )

hex_given : (x : Letter) (t : List ℕ) → Begins ender t → hex_of x t ≡ got (hex x) t true
unfolding hex_of
hex_given x [] e = absurd e
hex_given x (d ∷ t) e = cc (ender_mark 0x3F tt refl d e)

pub typing_given : (k : Typing) (t : List ℕ) → FitsTyping k → Begins ender t → typing_of (written_typing k t) ≡ got k t true
unfolding typing_of typed_of hex_of ok_debug
typing_given untyped [] f e = absurd e
typing_given untyped (c ∷ t) f e =
    cc (ender_letter lower c e, ender_letter upper c e, ender_mark 0x3F tt refl c e, no_start (c ∷ t) e)
typing_given debug [] f e = absurd e
typing_given debug (c ∷ t) f e = cc (ender_mark 0x23 tt refl c e, ender_letter lower c e, ender_letter upper c e)
typing_given (hex_debug lower) t f e = refl
typing_given (hex_debug upper) t f e = refl
typing_given (hex lower) t f e = hex_given lower t e
typing_given (hex upper) t f e = hex_given upper t e
typing_given (typed c r) t f e = typed_given c r t f e

pub typing_begins : (k : Typing) (t : List ℕ) → FitsTyping k → Begins ender t → Begins typing_first (written_typing k t)
typing_begins untyped [] f e = absurd e
typing_begins untyped (c ∷ t) f e = or_right (eqb c 0x3F) (is_start c || ender c) (or_right (is_start c) (ender c) e)
typing_begins debug t f e = refl
typing_begins (hex_debug x) t f e = letter_first x
typing_begins (hex x) t f e = letter_first x
typing_begins (typed c r) t f e = or_right (eqb c 0x3F) (is_start c || ender c) (or_left (is_start c) (ender c) f.0.first)

-- WIDTH AND PRECISION: where a word has no `$` after it, no width is taken
name_none : (c : ℕ) (r t u : List ℕ) → Stops (λ d. eqb d 0x24) t → ok_word c r ≡ true → name_of c r t u ≡ got implied u true
unfolding name_of
name_none c r [] u s k = cc
name_none c r (d ∷ t) u s k = cc

word_none : (c : ℕ) (r t : List ℕ) → is_start c ≡ true → Passes is_continue r → Stops is_continue t → Stops (λ d. eqb d 0x24) t → ok_word c r ≡ true →
    width_of (c ∷ (r ++ t)) ≡ got implied (c ∷ (r ++ t)) true
unfolding width_of
word_none c r t h a s d k =
    cc (start_digit c h, take_run is_continue r t a s, drop_run is_continue r t a s, name_none c r t (c ∷ (r ++ t)) d k)

letter_ok : (x : Letter) → ok_word (letter_char x) [] ≡ true
unfolding ok_word
letter_ok lower = refl
letter_ok upper = refl

-- so at a type none is taken
no_dollar : (t : List ℕ) → Begins ender t → Stops (λ d. eqb d 0x24) t
no_dollar t e = begins_stops ender (λ d. eqb d 0x24) (ender_mark 0x24 tt refl) t e

typing_none : (k : Typing) (t : List ℕ) → FitsTyping k → Begins ender t → width_of (written_typing k t) ≡ got implied (written_typing k t) true
unfolding width_of is_digit within
typing_none untyped [] f e = absurd e
typing_none untyped (c ∷ t) f e = cc (no_digit (c ∷ t) e, no_start (c ∷ t) e)
typing_none debug t f e = cc (mark_no_start 0x3F tt)
typing_none (hex_debug x) t f e = word_none (letter_char x) [] (0x3F ∷ t) (letter_start x) tt (mark_no_continue 0x3F tt) refl (letter_ok x)
typing_none (hex x) t f e = word_none (letter_char x) [] t (letter_start x) tt (no_continue t e) (no_dollar t e) (letter_ok x)
typing_none (typed c r) t f e = word_none c r t f.0.first f.0.others (no_continue t e) (no_dollar t e) (word_ok c r f.0)

-- nor at a precision
precision_none : (p : Precision) (u : List ℕ) → width_of u ≡ got implied u true →
    width_of (written_precision p u) ≡ got implied (written_precision p u) true
unfolding width_of is_digit within
precision_none undotted u i = i
precision_none star u i = cc (mark_no_start 0x2E tt)
precision_none (dot w) u i = cc (mark_no_start 0x2E tt)

pub precision_dollar : (c : ℕ) → precision_first c ≡ true → eqb c 0x24 ≡ false
precision_dollar c h = differs precision_first c 0x24 h (cc (mark_no_start 0x24 tt, mark_no_space 0x24 tt))

width_given : (w : Width) (u : List ℕ) → FitsWidth w → Begins precision_first u → width_of u ≡ got implied u true →
    width_of (written_width w u) ≡ got w u true
unfolding width_of number_of name_of is_digit within
width_given implied u f e i = i
width_given (fixed d ds) [] f e i = absurd e
width_given (fixed d ds) (c ∷ u) f e i =
    let a = of_digits ds f.others in
    let s : Stops is_digit (c ∷ u) = precision_digit c e in
    cc (of_digit d f.first, take_run is_digit ds (c ∷ u) a s, drop_run is_digit ds (c ∷ u) a s, precision_dollar c e, number_ok d ds f)
width_given (by_argument d ds) u f e i =
    let a = of_digits ds f.others in
    cc (of_digit d f.first, take_run is_digit ds (0x24 ∷ u) a refl, drop_run is_digit ds (0x24 ∷ u) a refl, number_ok d ds f)
width_given (by_name c r) u f e i =
    let s : is_continue 0x24 ≡ false = mark_no_continue 0x24 tt in
    cc (start_digit c f.first, f.first, take_run is_continue r (0x24 ∷ u) f.others s, drop_run is_continue r (0x24 ∷ u) f.others s, word_ok c r f)

pub width_begins : (w : Width) (u : List ℕ) → FitsWidth w → Begins precision_first u → Begins width_first (written_width w u)
width_begins implied [] f e = absurd e
width_begins implied (c ∷ u) f e = or_right (is_digit c) (precision_first c) e
width_begins (fixed d ds) u f e = or_left (is_digit d) (precision_first d) (of_digit d f.first)
width_begins (by_argument d ds) u f e = or_left (is_digit d) (precision_first d) (of_digit d f.first)
width_begins (by_name c r) u f e =
    or_right (is_digit c) (precision_first c)
    (or_right (eqb c 0x2E) (typing_first c) (or_right (eqb c 0x3F) (is_start c || ender c) (or_left (is_start c) (ender c) f.first)))

-- a precision
dot_given : (v : List ℕ) → Begins width_first v → dot_of v ≡ got (dot (width_of v).val) (width_of v).rest (width_of v).ok
unfolding dot_of is_digit within
dot_given [] e = absurd e
dot_given (c ∷ v) e = cc (width_mark 0x2A tt refl refl refl refl c e)

typing_precision : (u : List ℕ) → Begins typing_first u → Begins precision_first u
typing_precision u e = begins_map typing_first precision_first (λ c h. or_right (eqb c 0x2E) (typing_first c) h) u e

pub precision_begins : (p : Precision) (u : List ℕ) → Begins typing_first u → Begins precision_first (written_precision p u)
precision_begins undotted u e = typing_precision u e
precision_begins star u e = refl
precision_begins (dot w) u e = refl

precision_given : (p : Precision) (u : List ℕ) → FitsPrecision p → Begins typing_first u → width_of u ≡ got implied u true →
    precision_of (written_precision p u) ≡ got p u true
unfolding precision_of dot_of
precision_given undotted [] f e i = absurd e
precision_given undotted (c ∷ u) f e i = cc (typing_mark 0x2E tt refl refl c e)
precision_given star u f e i = refl
precision_given (dot w) u f e i =
    let b = typing_precision u e in
    cc (dot_given (written_width w u) (width_begins w u f b), width_given w u f b i)

-- FLAGS
sign_given : (s : Signed) (u : List ℕ) → Begins hash_first u → sign_of (written_sign s u) ≡ got s u true
unfolding sign_of is_digit within
sign_given unsigned [] e = absurd e
sign_given unsigned (c ∷ u) e = cc (hash_mark 0x2B tt refl refl refl refl refl c e, hash_mark 0x2D tt refl refl refl refl refl c e)
sign_given plus u e = refl
sign_given minus u e = refl

hash_given : (b : Bool) (u : List ℕ) → Begins width_first u → hash_of (written_flag 0x23 b u) ≡ got b u true
unfolding hash_of is_digit within
hash_given false [] e = absurd e
hash_given false (c ∷ u) e = cc (width_mark 0x23 tt refl refl refl refl c e)
hash_given true u e = refl

dollar_not : (u v : List ℕ) → first 0x24 u ≡ false → u ≢ 0x24 ∷ v
dollar_not [] v h e = never (sym e)
dollar_not (c ∷ u) v h e = eqb-false c 0x24 h (cc)

zero_width : (b : Bool) (w : Width) (u v : List ℕ) → w ≡ by_argument 0x30 [] → written_flag 0x30 b (written_width w u) ≡ 0x30 ∷ 0x24 ∷ v → b ≡ false
zero_width false w u v q e = refl
zero_width true w u v q e =
    let z : 0x30 ∷ 0x30 ∷ 0x24 ∷ u ≡ 0x30 ∷ 0x24 ∷ v = rw q at e in
    let n : ◌≡◌ {A = ℕ} 0x30 0x24 = cc in
    absurd (omega arith)

zero_given : (b : Bool) (u : List ℕ) → ((v : List ℕ) → written_flag 0x30 b u ≡ 0x30 ∷ v → ((w : List ℕ) → v ≢ 0x24 ∷ w) → b ≡ true)
    → ((v : List ℕ) → written_flag 0x30 b u ≡ 0x30 ∷ 0x24 ∷ v → b ≡ false) → zero_of (written_flag 0x30 b u) ≡ got b u true
unfolding zero_of
zero_given false [] h k = refl
zero_given false (c ∷ u) h k =
    case_b (eqb c 0x30 && not (first 0x24 u))
    (λ z.
    let q = eqb-true c 0x30 (and_left (eqb c 0x30) (not (first 0x24 u)) z) in
    absurd (false≢true (h u (cc) (λ w. dollar_not u w (not-true (first 0x24 u) (and_right (eqb c 0x30) (not (first 0x24 u)) z))))))
    (λ z. cc)
zero_given true [] h k = refl
zero_given true (d ∷ u) h k =
    case_b (eqb d 0x24)
    (λ z. absurd (true≢false (k u (cc (eqb-true d 0x24 z)))))
    (λ z. cc)

flag_begins : (b : Bool) (u : List ℕ) → Begins width_first u → Begins hash_first (written_flag 0x23 b u)
flag_begins false u e = begins_map width_first hash_first (λ c h. or_right (eqb c 0x23) (width_first c) h) u e
flag_begins true u e = refl

zero_begins : (b : Bool) (u : List ℕ) → Begins width_first u → Begins width_first (written_flag 0x30 b u)
unfolding is_digit within
zero_begins false u e = e
zero_begins true u e = refl

sign_begins : (s : Signed) (u : List ℕ) → Begins hash_first u → Begins sign_first (written_sign s u)
sign_begins unsigned u e =
    begins_map hash_first sign_first (λ c h. or_right (eqb c 0x2B) (eqb c 0x2D || hash_first c) (or_right (eqb c 0x2D) (hash_first c) h)) u e
sign_begins plus u e = refl
sign_begins minus u e = refl

-- FILL AND ALIGN
sign_side : (c : ℕ) → sign_first c ≡ true → is_side c ≡ false
unfolding is_digit within
sign_side c h =
    cc (
      differs sign_first c 0x3C h (cc (mark_no_start 0x3C tt, mark_no_space 0x3C tt)),
      differs sign_first c 0x3E h (cc (mark_no_start 0x3E tt, mark_no_space 0x3E tt)),
      differs sign_first c 0x5E h (cc (mark_no_start 0x5E tt, mark_no_space 0x5E tt)),
    )

unaligned_not : {c : ℕ} {a : Alignment} → unaligned ≡ filled c a → ⊥
unaligned_not e = true≢false (cc)

lead_given : (l : Lead) (u : List ℕ) → ((c : ℕ) (a : Alignment) (v : List ℕ) → written_lead l u ≡ c ∷ align_char a ∷ v → l ≡ filled c a) →
    Begins sign_first u → lead_of (written_lead l u) ≡ got l u true
unfolding lead_of align_of
lead_given unaligned [] h e = absurd e
lead_given unaligned (c ∷ []) h e = cc (sign_side c e)
lead_given unaligned (c ∷ d ∷ v) h e =
    case_b (is_side d) (λ k. absurd (unaligned_not (h c (side d) v (cc (side_char d k))))) (λ k. cc (sign_side c e))
lead_given (aligned a) [] h e = absurd e
lead_given (aligned a) (d ∷ v) h e = cc (sign_side d e, char_side a, side_of_lem a)
lead_given (filled c a) u h e = cc (char_side a, side_of_lem a)

-- FORMAT SPEC
format_given : (f : FormatSpec) (t : List ℕ) → FitsFormat f t → Begins ender t → format_of (written_format f t) ≡ got f t true
unfolding format_of
format_given f t h e =
    let u6 : List ℕ = written_typing f.typing t in
    let u5 : List ℕ = written_precision f.precision u6 in
    let u4 : List ℕ = from_width f t in
    let u3 : List ℕ = from_zero f t in
    let u2 : List ℕ = written_flag 0x23 f.alternate u3 in
    let u1 : List ℕ = written_sign f.sign u2 in
    let b6 = typing_begins f.typing t h.typing e in
    let n6 = typing_none f.typing t h.typing e in
    let b5 = precision_begins f.precision u6 b6 in
    let b4 = width_begins f.width u5 h.width b5 in
    let b3 = zero_begins f.zero u4 b4 in
    let b2 = flag_begins f.alternate u3 b3 in
    let b1 = sign_begins f.sign u2 b2 in
    let e7 = typing_given f.typing t h.typing e in
    let e6 = precision_given f.precision u6 h.precision b6 n6 in
    let e5 = width_given f.width u5 h.width b5 (precision_none f.precision u6 n6) in
    let e4 = zero_given f.zero u4 h.choice2 (λ v q. zero_width f.zero f.width u5 v (h.choice2$ v q) q) in
    let e3 = hash_given f.alternate u3 b3 in
    let e2 = sign_given f.sign u2 b2 in
    let e1 = lead_given f.lead u1 h.choice1 b1 in
    rw (t7, t6, t5, t4, t3, t2, t1, e1, e2, e3, e4, e5, e6, e7)

-- THE SPEC OF EACH MODE
modifier_given : (s : SpecText) (t : List ℕ) → FitsSpec Mode.InlineAsm s t → Begins ender t → modifier_of (written_spec s t) ≡ got s t true
unfolding modifier_of
modifier_given (format_spec f) t h e = absurd h
modifier_given unmodified [] h e = absurd e
modifier_given unmodified (c ∷ t) h e = cc (no_start (c ∷ t) e)
modifier_given (modifier c r) t h e =
    let n = no_continue t e in
    cc (h.first, take_run is_continue r t h.others n, drop_run is_continue r t h.others n, word_ok c r h)
modifier_given (free_text r) t h e = absurd h

spec_given : (m : Mode) (s : SpecText) (t : List ℕ) → FitsSpec m s t → Begins ender t → spec_of m (written_spec s t) ≡ got s t true
unfolding spec_of
spec_given Mode.Format (format_spec f) t h e = rw (format_given f t h e)
spec_given Mode.Format unmodified t h e = absurd h
spec_given Mode.Format (modifier c r) t h e = absurd h
spec_given Mode.Format (free_text r) t h e = absurd h
spec_given Mode.InlineAsm s t h e = modifier_given s t h e
spec_given Mode.Diagnostic (format_spec f) t h e = absurd h
spec_given Mode.Diagnostic unmodified t h e = absurd h
spec_given Mode.Diagnostic (modifier c r) t h e = absurd h
spec_given Mode.Diagnostic (free_text r) t h e =
    let a = of_plains r h.0 in
    let s = of_next_brace t h.1 in
    cc (take_run is_plain r t a s, drop_run is_plain r t a s)

-- THE PLACEHOLDER
tail_begins : (y : Tail) (t : List ℕ) → Begins tail_first (written_tail y (0x7D ∷ t))
tail_begins bare t = refl
tail_begins (colon s w) t = refl

tail_given : (m : Mode) (y : Tail) (t : List ℕ) → FitsTail m y (0x7D ∷ t) → tail_of m (written_tail y (0x7D ∷ t)) ≡ got y (0x7D ∷ t) true
unfolding tail_of
tail_given m bare t h = refl
tail_given m (colon s w) t h =
    let n : is_space 0x7D ≡ false = mark_no_space 0x7D tt in
    cc (spec_given m s (w ++ (0x7D ∷ t)) h.0 (space_begins w t h.1), take_run is_space w (0x7D ∷ t) h.1 n, drop_run is_space w (0x7D ∷ t) h.1 n)

space_tail : (w u : List ℕ) → All Space w → Begins tail_first u → Begins space_first (w ++ u)
space_tail [] [] a e = absurd e
space_tail [] (c ∷ u) a e = or_right (is_space c) (tail_first c) e
space_tail (c ∷ w) u a e = or_left (is_space c) (tail_first c) a.0

tail_no_space : (u : List ℕ) → Begins tail_first u → Stops is_space u
tail_no_space [] e = absurd e
tail_no_space (c ∷ u) e =
    case_b (eqb c 0x3A)
    (λ k. rw (eqb-true c 0x3A k) (mark_no_space 0x3A tt))
    (λ k. let q : c ≡ 0x7D = eqb-true c 0x7D (cc) in rw q (mark_no_space 0x7D tt))

position_given : (p : Position) (u : List ℕ) → FitsPosition p → Begins space_first u → position_of (written_position p u) ≡ got p u true
unfolding position_of
position_given next [] f e = absurd e
position_given next (c ∷ u) f e = cc (space_first_digit c e, space_first_start c e)
position_given (number d ds) u f e =
    let a = of_digits ds f.others in
    let s = begins_stops space_first is_digit space_first_digit u e in
    cc (of_digit d f.first, take_run is_digit ds u a s, drop_run is_digit ds u a s, number_ok d ds f)
position_given (word c r) u f e =
    let s = begins_stops space_first is_continue space_first_continue u e in
    cc (start_digit c f.first, f.first, take_run is_continue r u f.others s, drop_run is_continue r u f.others s, word_ok c r f)

inside_given : (m : Mode) (a : Inside) (t : List ℕ) → FitsInside m a (0x7D ∷ t) → inside_of m (written_inside a (0x7D ∷ t)) ≡ got a (0x7D ∷ t) true
unfolding inside_of
inside_given m a t h =
    let v : List ℕ = written_tail a.tail (0x7D ∷ t) in
    let b = tail_begins a.tail t in
    let s = tail_no_space v b in
    let e1 = position_given a.position (a.space ++ v) h.position (space_tail a.space v h.space b) in
    let e2 = take_run is_space a.space v h.space s in
    let e3 = drop_run is_space a.space v h.space s in
    let e4 = tail_given m a.tail t h.tail in
    rw (past_position, e1, e2, e3, e4)

-- no `r#` stands where a placeholder fits: no `#` follows its word
no_hash : (c : ℕ) → space_first c ≡ true → eqb c 0x23 ≡ false
no_hash c h = differs space_first c 0x23 h (cc (mark_no_space 0x23 tt))

hash_not : (h : ℕ) (u : List ℕ) → eqb h 0x23 ≡ false → hash_word (h ∷ u) ≡ false
unfolding hash_word
hash_not h [] n = refl
hash_not h (d ∷ u) n = cc

raw_second : (c h : ℕ) (u : List ℕ) → eqb h 0x23 ≡ false → raw_at (c ∷ h ∷ u) ≡ false
unfolding raw_at
raw_second c h u n = cc (hash_not h u n, and-false (eqb c 0x72))

raw_first : (c : ℕ) (u : List ℕ) → eqb c 0x72 ≡ false → raw_at (c ∷ u) ≡ false
unfolding raw_at
raw_first c u n = cc

pub r_start : is_start 0x72 ≡ true
unfolding is_start member start
r_start = refl

no_r : (c : ℕ) → is_start c ≡ false → eqb c 0x72 ≡ false
no_r c h = case_b (eqb c 0x72) (λ k. absurd (true≢false (cc (r_start, eqb-true c 0x72 k)))) (λ k. k)

position_raw : (p : Position) (u : List ℕ) → FitsPosition p → Begins space_first u → raw_at (written_position p u) ≡ false
unfolding is_digit within
position_raw next [] f e = absurd e
position_raw next (c ∷ u) f e = raw_first c u (no_r c (space_first_start c e))
position_raw (number d ds) u f e = raw_first d (ds ++ u) (differs is_digit d 0x72 (of_digit d f.first) refl)
position_raw (word c []) [] f e = absurd e
position_raw (word c []) (h ∷ u) f e = raw_second c h u (no_hash h e)
position_raw (word c (h ∷ r)) u f e = raw_second c h (r ++ u) (differs is_continue h 0x23 f.others.0 (mark_no_continue 0x23 tt))

-- no `{{` stands there either
position_open : (p : Position) (u : List ℕ) → FitsPosition p → Begins space_first u → Stops (λ d. eqb d 0x7B) (written_position p u)
unfolding is_digit within
position_open next [] f e = absurd e
position_open next (c ∷ u) f e = differs space_first c 0x7B e (cc (mark_no_space 0x7B tt))
position_open (number d ds) u f e = differs is_digit d 0x7B (of_digit d f.first) refl
position_open (word c r) u f e = differs is_start c 0x7B f.first (mark_no_start 0x7B tt)

-- A STEP
open_given : (m : Mode) (v : List ℕ) → Stops (λ d. eqb d 0x7B) v → open_step m v ≡ inside_step m v
unfolding open_step
open_given m [] s = refl
open_given m (c ∷ v) s = cc

placeholder_given : (m : Mode) (a : Inside) (t : List ℕ) → FitsInside m a (0x7D ∷ t) →
    open_step m (written_inside a (0x7D ∷ t)) ≡ piece (placeholder a) t
unfolding inside_step close_of
placeholder_given m a t h =
    let v : List ℕ = written_tail a.tail (0x7D ∷ t) in
    let b = space_tail a.space v h.space (tail_begins a.tail t) in
    let s = position_open a.position (a.space ++ v) h.position b in
    let r = position_raw a.position (a.space ++ v) h.position b in
    cc (open_given m (written_inside a (0x7D ∷ t)) s, inside_given m a t h)

plain_not : (c k : ℕ) → Plain c → Brace k → eqb c k ≡ false
plain_not c k h b = differs is_plain c k (of_plain c h) (of_brace k b)

pub step_given : (m : Mode) (e : Element) (t : List ℕ) → Fits m e t → step m (written e t) ≡ piece e t
unfolding step open_step close_step
step_given m (run c r) t f =
    let a = of_plains r f.1 in
    let s = of_next_brace t f.2 in
    cc (plain_not c 0x7B f.0 (inl refl), plain_not c 0x7D f.0 (inr refl), take_run is_plain r t a s, drop_run is_plain r t a s)
step_given m (opened r) t f =
    let a = of_plains r f.0 in
    let s = of_next_brace t f.1 in
    cc (take_run is_plain r t a s, drop_run is_plain r t a s)
step_given m (closed r) t f =
    let a = of_plains r f.0 in
    let s = of_next_brace t f.1 in
    cc (take_run is_plain r t a s, drop_run is_plain r t a s)
step_given m (placeholder a) t f = placeholder_given m a t f
