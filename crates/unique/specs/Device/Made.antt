-- What each part of the parser gives is what it read, and fits where it is right. Rests on Parser, Classes and Runs.
use Rattle.std.specs.Prelude.{◌≡◌, refl, ◌≢◌, List, [], ◌∷◌, ◌++◌, Bool, true, false, not, ◌&&◌, ℕ, eqb}
use Rattle.std.proofs.Common.{ap, sym, true≢false, eqb-true, leb-true}
use Rattle.std.proofs.lemmas.Bool.{eqb-false, not-true}
use Rattle.utf8.specs.Choice.{within}
use Rattle.letters.specs.Questions.{is_space, is_start, is_continue}
use Rattle.scan.specs.Characters.{is_plain}
use Rattle.scan.specs.Words.{is_digit}
use Rattle.frame.specs.declared.Mode.{Mode}
use Rattle.grammar.specs.Grammar.{All, Plain, NextBrace, Number, Word, value, Position, Alignment, left, right, center, align_char, filled, by_argument, Letter, lower, upper, letter_char, Tail, Inside, Element}
use Rattle.grammar.specs.Grammar.{written_position, FitsPosition, written_lead, written_sign, written_flag, written_width, FitsWidth, written_precision, FitsPrecision, written_typing, FitsTyping, from_width, from_zero, written_format, FitsFormat, written_spec, FitsSpec, written_tail, FitsTail, written_inside, FitsInside, written, Fits}
use Rattle.unique.specs.Device.Runs.{case_b, take_w, drop_w, first, take_drop, take_passes, drop_stops, and_left, and_right}
use Rattle.unique.specs.Device.Classes.{to_digit, to_digits, to_plains, to_next_brace, plain_brace}
use Rattle.unique.specs.Device.Parser.{Got, ok_number, ok_word, position_of, is_side, side, align_of, lead_of, sign_of, hash_of, zero_of, number_of, name_of, width_of, dot_of, precision_of, hex_of, typed_of, typing_of, t1, t2, t3, t4, t5, t6, format_of, modifier_of, spec_of, tail_of, past_position, inside_of, Step, piece, done, wrong, raw_at, close_of, inside_step, open_step, close_step, step}

-- what a part gives is what it read, and fits where it is right
pub record Made {A : Type 0} (wr : A → List ℕ → List ℕ) (ft : A → Type 0) (cs : List ℕ) (g : Got A) : Type 0 where
  pub spelled : wr g.val g.rest ≡ cs
  pub fits : g.ok ≡ true → ft g.val

-- the same for parts that look at what follows them
pub record MadeBefore {A : Type 0} (wr : A → List ℕ → List ℕ) (ft : A → List ℕ → Type 0) (cs : List ℕ) (g : Got A) : Type 0 where
  pub spelled : wr g.val g.rest ≡ cs
  pub fits : g.ok ≡ true → ft g.val g.rest

-- NUMBERS AND WORDS
right_number : (d : ℕ) (cs : List ℕ) → is_digit d ≡ true → ok_number d (take_w is_digit cs) ≡ true → Number d (take_w is_digit cs)
unfolding ok_number
right_number d cs h z =
    record { first = to_digit d h; others = to_digits (take_w is_digit cs) (take_passes is_digit cs); small = leb-true (value 0 (d ∷ take_w is_digit cs)) 65535 z }

not_blank : (c : ℕ) (r : List ℕ) → ok_word c r ≡ true → c ∷ r ≢ 0x5F ∷ []
unfolding ok_word
not_blank c [] h e = eqb-false c 0x5F (not-true (eqb c 0x5F) h) (cc)
not_blank c (d ∷ r) h e = true≢false (cc)

right_word : (c : ℕ) (cs : List ℕ) → is_start c ≡ true → ok_word c (take_w is_continue cs) ≡ true → Word c (take_w is_continue cs)
right_word c cs h z = record { first = h; others = take_passes is_continue cs; named = not_blank c (take_w is_continue cs) z }

-- a run of literal text
plain_run : (cs : List ℕ) → All Plain (take_w is_plain cs) × NextBrace (drop_w is_plain cs)
plain_run cs = (to_plains (take_w is_plain cs) (take_passes is_plain cs), to_next_brace (drop_w is_plain cs) (drop_stops is_plain cs))

-- THE PLACE
pub position_made : (cs : List ℕ) → Made written_position FitsPosition cs (position_of cs)
unfolding position_of
position_made [] = record { spelled = refl; fits = λ z. tt }
position_made (c ∷ cs) =
    case_b (is_digit c)
    (λ h. rw (h, position_of) (record { spelled = cc (take_drop is_digit cs); fits = right_number c cs h }))
    (λ h.
    case_b (is_start c)
    (λ k. rw (h, k, position_of) (record { spelled = cc (take_drop is_continue cs); fits = right_word c cs k }))
    (λ k. rw (h, k, position_of) (record { spelled = refl; fits = λ z. tt })))

-- FILL AND ALIGN
pub side_char : (c : ℕ) → is_side c ≡ true → align_char (side c) ≡ c
unfolding side
side_char c h =
    case_b (eqb c 0x3C)
    (λ k. rw (k, side) (sym (eqb-true c 0x3C k)))
    (λ k.
    case_b (eqb c 0x3E)
    (λ l. rw (k, l, side) (sym (eqb-true c 0x3E l)))
    (λ l. rw (k, l, side) (sym (eqb-true c 0x5E (cc)))))

pub char_side : (a : Alignment) → is_side (align_char a) ≡ true
char_side left = refl
char_side right = refl
char_side center = refl

pub side_of_lem : (a : Alignment) → side (align_char a) ≡ a
unfolding side
side_of_lem left = refl
side_of_lem right = refl
side_of_lem center = refl

align_spelled : (cs : List ℕ) → written_lead (align_of cs).val (align_of cs).rest ≡ cs
unfolding align_of
align_spelled [] = refl
align_spelled (c ∷ cs) = case_b (is_side c) (λ h. rw (h, align_of) (cc (side_char c h))) (λ h. rw (h, align_of))

pub lead_spelled : (cs : List ℕ) → written_lead (lead_of cs).val (lead_of cs).rest ≡ cs
unfolding lead_of
lead_spelled [] = refl
lead_spelled (c ∷ []) = align_spelled (c ∷ [])
lead_spelled (c ∷ d ∷ t) = case_b (is_side d) (λ h. rw (h, lead_of) (cc (side_char d h))) (λ h. rw (h, lead_of) (align_spelled (c ∷ d ∷ t)))

lead_choice : (cs : List ℕ) (c : ℕ) (a : Alignment) (u : List ℕ) → cs ≡ c ∷ align_char a ∷ u → (lead_of cs).val ≡ filled c a
unfolding lead_of
lead_choice cs c a u e = rw e (rw (char_side a, lead_of) (ap (filled c) (side_of_lem a)))

-- FLAGS
pub sign_spelled : (cs : List ℕ) → written_sign (sign_of cs).val (sign_of cs).rest ≡ cs
unfolding sign_of
sign_spelled [] = refl
sign_spelled (c ∷ cs) =
    case_b (eqb c 0x2B)
    (λ h. rw (h, sign_of) (cc (eqb-true c 0x2B h)))
    (λ h. case_b (eqb c 0x2D) (λ k. rw (h, k, sign_of) (cc (eqb-true c 0x2D k))) (λ k. rw (h, k, sign_of)))

pub hash_spelled : (cs : List ℕ) → written_flag 0x23 (hash_of cs).val (hash_of cs).rest ≡ cs
unfolding hash_of
hash_spelled [] = refl
hash_spelled (c ∷ cs) = case_b (eqb c 0x23) (λ h. rw (h, hash_of) (cc (eqb-true c 0x23 h))) (λ h. rw (h, hash_of))

pub zero_spelled : (cs : List ℕ) → written_flag 0x30 (zero_of cs).val (zero_of cs).rest ≡ cs
unfolding zero_of
zero_spelled [] = refl
zero_spelled (c ∷ cs) =
    case_b (eqb c 0x30 && not (first 0x24 cs))
    (λ h. rw (h, zero_of) (cc (eqb-true c 0x30 (and_left (eqb c 0x30) (not (first 0x24 cs)) h))))
    (λ h. rw (h, zero_of))

no_dollar : (u : List ℕ) → ((v : List ℕ) → u ≢ 0x24 ∷ v) → first 0x24 u ≡ false
no_dollar [] h = refl
no_dollar (c ∷ u) h = case_b (eqb c 0x24) (λ k. absurd (h u (cc (eqb-true c 0x24 k)))) (λ k. k)

zero_choice : (cs u : List ℕ) → cs ≡ 0x30 ∷ u → ((v : List ℕ) → u ≢ 0x24 ∷ v) → (zero_of cs).val ≡ true
unfolding zero_of
zero_choice cs u e s = rw e (rw (no_dollar u s, zero_of))

zero_choice$ : (cs v : List ℕ) → cs ≡ 0x30 ∷ 0x24 ∷ v → (width_of (zero_of cs).rest).val ≡ by_argument 0x30 []
unfolding zero_of width_of number_of is_digit within take_w drop_w
zero_choice$ cs v e = rw e

-- WIDTH AND PRECISION
number_made : (d : ℕ) (cs t : List ℕ) → is_digit d ≡ true → Made written_width FitsWidth (d ∷ (take_w is_digit cs ++ t)) (number_of d (take_w is_digit cs) t)
unfolding number_of
number_made d cs [] k = record { spelled = refl; fits = right_number d cs k }
number_made d cs (c ∷ t) k =
    case_b (eqb c 0x24)
    (λ h. rw (h, number_of) (record { spelled = cc (eqb-true c 0x24 h); fits = right_number d cs k }))
    (λ h. rw (h, number_of) (record { spelled = refl; fits = right_number d cs k }))

name_made : (c : ℕ) (cs t : List ℕ) → is_start c ≡ true → take_w is_continue cs ++ t ≡ cs →
    Made written_width FitsWidth (c ∷ cs) (name_of c (take_w is_continue cs) t (c ∷ cs))
unfolding name_of
name_made c cs [] k e = record { spelled = refl; fits = λ z. tt }
name_made c cs (d ∷ t) k e =
    case_b (eqb d 0x24)
    (λ h. rw (h, name_of) (record { spelled = cc (eqb-true d 0x24 h); fits = right_word c cs k }))
    (λ h. rw (h, name_of) (record { spelled = refl; fits = λ z. tt }))

pub width_made : (cs : List ℕ) → Made written_width FitsWidth cs (width_of cs)
unfolding width_of
width_made [] = record { spelled = refl; fits = λ z. tt }
width_made (c ∷ cs) =
    case_b (is_digit c)
    (λ h. rw (h, width_of) (rw (take_drop is_digit cs) at (number_made c cs (drop_w is_digit cs) h)))
    (λ h.
    case_b (is_start c)
    (λ k. rw (h, k, width_of) (name_made c cs (drop_w is_continue cs) k (take_drop is_continue cs)))
    (λ k. rw (h, k, width_of) (record { spelled = refl; fits = λ z. tt })))

dot_made : (cs : List ℕ) → Made written_precision FitsPrecision (0x2E ∷ cs) (dot_of cs)
unfolding dot_of
dot_made [] = record { spelled = refl; fits = λ z. tt }
dot_made (c ∷ cs) =
    let g = width_made (c ∷ cs) in
    case_b (eqb c 0x2A)
    (λ h. rw (h, dot_of) (record { spelled = cc (eqb-true c 0x2A h); fits = λ z. tt }))
    (λ h. rw (h, dot_of) (record { spelled = ap (λ r. 0x2E ∷ r) g.spelled; fits = g.fits }))

pub precision_made : (cs : List ℕ) → Made written_precision FitsPrecision cs (precision_of cs)
unfolding precision_of
precision_made [] = record { spelled = refl; fits = λ z. tt }
precision_made (c ∷ cs) =
    case_b (eqb c 0x2E)
    (λ h. rw (h, precision_of) (rw (eqb-true c 0x2E h) (dot_made cs)))
    (λ h. rw (h, precision_of) (record { spelled = refl; fits = λ z. tt }))

-- TYPE
hex_spelled : (x : Letter) (cs : List ℕ) → Made written_typing FitsTyping (letter_char x ∷ cs) (hex_of x cs)
unfolding hex_of
hex_spelled x [] = record { spelled = refl; fits = λ z. tt }
hex_spelled x (d ∷ t) =
    case_b (eqb d 0x3F)
    (λ h. rw (h, hex_of) (record { spelled = cc (eqb-true d 0x3F h); fits = λ z. tt }))
    (λ h. rw (h, hex_of) (record { spelled = refl; fits = λ z. tt }))

no_letter : (c : ℕ) → eqb c 0x78 ≡ false → eqb c 0x58 ≡ false → (x : Letter) → c ≢ letter_char x
no_letter c h k lower = eqb-false c 0x78 h
no_letter c h k upper = eqb-false c 0x58 k

typed_made : (c : ℕ) (cs : List ℕ) → eqb c 0x78 ≡ false → eqb c 0x58 ≡ false → Made written_typing FitsTyping (c ∷ cs) (typed_of (c ∷ cs))
unfolding typed_of
typed_made c cs h k =
    case_b (is_start c)
    (λ l. rw (l, typed_of) (record { spelled = cc (take_drop is_continue cs); fits = λ z. (right_word c cs l z, no_letter c h k) }))
    (λ l. rw (l, typed_of) (record { spelled = refl; fits = λ z. tt }))

pub typing_made : (cs : List ℕ) → Made written_typing FitsTyping cs (typing_of cs)
unfolding typing_of
typing_made [] = record { spelled = refl; fits = λ z. tt }
typing_made (c ∷ cs) =
    case_b (eqb c 0x78)
    (λ h. rw (h, typing_of) (rw (eqb-true c 0x78 h) (hex_spelled lower cs)))
    (λ h.
    case_b (eqb c 0x58)
    (λ k. rw (h, k, typing_of) (rw (eqb-true c 0x58 k) (hex_spelled upper cs)))
    (λ k.
    case_b (eqb c 0x3F)
    (λ l. rw (h, k, l, typing_of) (record { spelled = cc (eqb-true c 0x3F l); fits = λ z. tt }))
    (λ l. rw (h, k, l, typing_of) (typed_made c cs h k))))

-- FORMAT SPEC
width_on : (cs : List ℕ) → from_width (format_of cs).val (format_of cs).rest ≡ t4 cs
unfolding format_of
width_on cs = cc ((width_made (t4 cs)).spelled, (precision_made (t5 cs)).spelled, (typing_made (t6 cs)).spelled)

zero_on : (cs : List ℕ) → from_zero (format_of cs).val (format_of cs).rest ≡ t3 cs
unfolding format_of
zero_on cs = cc (width_on cs, zero_spelled (t3 cs))

format_spelled : (cs : List ℕ) → written_format (format_of cs).val (format_of cs).rest ≡ cs
unfolding format_of
format_spelled cs = cc (zero_on cs, hash_spelled (t2 cs), sign_spelled (t1 cs), lead_spelled cs)

pub format_made : (cs : List ℕ) → MadeBefore written_format FitsFormat cs (format_of cs)
unfolding format_of
format_made cs =
    let w = (width_of (t4 cs)).ok in
    let p = (precision_of (t5 cs)).ok in
    let k = (typing_of (t6 cs)).ok in
    record {
      spelled = format_spelled cs;
      fits =
          λ z.
          record {
            choice1 = rw (format_spelled cs) (lead_choice cs);
            choice2 = rw (zero_on cs) (zero_choice (t3 cs));
            choice2$ = rw (zero_on cs) (zero_choice$ (t3 cs));
            width = (width_made (t4 cs)).fits (and_left w (p && k) z);
            precision = (precision_made (t5 cs)).fits (and_left p k (and_right w (p && k) z));
            typing = (typing_made (t6 cs)).fits (and_right p k (and_right w (p && k) z));
          };
    }

-- THE SPEC OF EACH MODE
modifier_made : (cs : List ℕ) → MadeBefore written_spec (FitsSpec Mode.InlineAsm) cs (modifier_of cs)
unfolding modifier_of
modifier_made [] = record { spelled = refl; fits = λ z. tt }
modifier_made (c ∷ cs) =
    case_b (is_start c)
    (λ h. rw (h, modifier_of) (record { spelled = cc (take_drop is_continue cs); fits = right_word c cs h }))
    (λ h. rw (h, modifier_of) (record { spelled = refl; fits = λ z. tt }))

pub spec_made : (m : Mode) (cs : List ℕ) → MadeBefore written_spec (FitsSpec m) cs (spec_of m cs)
unfolding spec_of
spec_made Mode.Format cs = record { spelled = (format_made cs).spelled; fits = (format_made cs).fits }
spec_made Mode.InlineAsm cs = modifier_made cs
spec_made Mode.Diagnostic cs =
    record { spelled = take_drop is_plain cs; fits = λ z. plain_run cs }

-- THE PLACEHOLDER
pub tail_made : (m : Mode) (cs : List ℕ) → MadeBefore written_tail (FitsTail m) cs (tail_of m cs)
unfolding tail_of
tail_made m [] = record { spelled = refl; fits = λ z. tt }
tail_made m (c ∷ cs) =
    let t : List ℕ = (spec_of m cs).rest in
    case_b (eqb c 0x3A)
    (λ h.
    rw (h, tail_of)
    (record {
      spelled = cc (eqb-true c 0x3A h, take_drop is_space t, (spec_made m cs).spelled);
      fits = λ z. (rw (take_drop is_space t) ((spec_made m cs).fits z), take_passes is_space t);
    }))
    (λ h. rw (h, tail_of) (record { spelled = refl; fits = λ z. tt }))

pub inside_made : (m : Mode) (cs : List ℕ) → MadeBefore written_inside (FitsInside m) cs (inside_of m cs)
unfolding inside_of
inside_made m cs =
    let p : Got Position = position_of cs in
    let g : Got Tail = tail_of m (past_position cs) in
    record {
      spelled = cc ((tail_made m (past_position cs)).spelled, take_drop is_space p.rest, (position_made cs).spelled);
      fits =
          λ z.
          record {
            position = (position_made cs).fits (and_left p.ok g.ok z);
            space = take_passes is_space p.rest;
            tail = (tail_made m (past_position cs)).fits (and_right p.ok g.ok z);
          };
    }

-- A STEP: the element that it gives is what it read, and fits before what it leaves
pub record Good (m : Mode) (cs : List ℕ) (e : Element) (t : List ℕ) : Type 0 where
  pub spelled : written e t ≡ cs
  pub fits : Fits m e t

abbrev Is : Mode → List ℕ → Step → Type 0
Is m cs (piece e t) = Good m cs e t
Is m cs done = cs ≡ []
Is m cs wrong = Unit {0}

close_good : (m : Mode) (cs : List ℕ) (a : Inside) (u : List ℕ) (b : Bool) → written_inside a u ≡ cs → (b ≡ true → FitsInside m a u) →
    Is m (0x7B ∷ cs) (close_of a u b)
unfolding close_of
close_good m cs a [] b s f = tt
close_good m cs a (d ∷ t) b s f =
    case_b (eqb d 0x7D && b)
    (λ h.
    let q = eqb-true d 0x7D (and_left (eqb d 0x7D) b h) in
    rw (h, close_of) (record { spelled = rw q at (ap (λ r. 0x7B ∷ r) s); fits = rw q at (f (and_right (eqb d 0x7D) b h)) }))
    (λ h. rw (h, close_of) tt)

inside_good : (m : Mode) (cs : List ℕ) → Is m (0x7B ∷ cs) (inside_step m cs)
unfolding inside_step
inside_good m cs =
    let g : Got Inside = inside_of m cs in
    case_b (raw_at cs)
    (λ h. rw (h, inside_step) tt)
    (λ h. rw (h, inside_step) (close_good m cs g.val g.rest g.ok (inside_made m cs).spelled (inside_made m cs).fits))

open_good : (m : Mode) (cs : List ℕ) → Is m (0x7B ∷ cs) (open_step m cs)
unfolding open_step
open_good m [] = inside_good m []
open_good m (d ∷ ds) =
    case_b (eqb d 0x7B)
    (λ h.
    rw (h, open_step)
    (record {
      spelled = cc (eqb-true d 0x7B h, take_drop is_plain ds);
      fits = plain_run ds;
    }))
    (λ h. rw (h, open_step) (inside_good m (d ∷ ds)))

close_step_good : (m : Mode) (cs : List ℕ) → Is m (0x7D ∷ cs) (close_step cs)
unfolding close_step
close_step_good m [] = tt
close_step_good m (d ∷ ds) =
    case_b (eqb d 0x7D)
    (λ h.
    rw (h, close_step)
    (record {
      spelled = cc (eqb-true d 0x7D h, take_drop is_plain ds);
      fits = plain_run ds;
    }))
    (λ h. rw (h, close_step) tt)

step_good : (m : Mode) (cs : List ℕ) → Is m cs (step m cs)
unfolding step
step_good m [] = refl
step_good m (c ∷ cs) =
    case_b (eqb c 0x7B)
    (λ h. rw (h, step) (rw (eqb-true c 0x7B h) (open_good m cs)))
    (λ h.
    case_b (eqb c 0x7D)
    (λ k. rw (h, k, step) (rw (eqb-true c 0x7D k) (close_step_good m cs)))
    (λ k.
    rw (h, k, step)
    (record {
      spelled = cc (take_drop is_plain cs);
      fits = (plain_brace c h k, (plain_run cs).0, (plain_run cs).1);
    })))

-- what a step that gives an element says
pub step_made : (m : Mode) (cs : List ℕ) {e : Element} {t : List ℕ} → step m cs ≡ piece e t → Good m cs e t
step_made m cs q = rw q at (step_good m cs)

-- only the end ends well
pub step_done : (m : Mode) (cs : List ℕ) → step m cs ≡ done → cs ≡ []
step_done m cs q = rw q at (step_good m cs)
