-- The parser over codes. Each part takes what it can, leaves the rest, and says whether what it took is right. Rests on the elements of grammar's Grammar.
use Rattle.std.specs.Prelude.{List, [], ◌∷◌, Bool, true, false, not, ◌||◌, ◌&&◌, ℕ, zero, suc, eqb, leb}
use Rattle.letters.specs.Questions.{is_space, is_start, is_continue}
use Rattle.scan.specs.Characters.{is_plain}
use Rattle.scan.specs.Words.{is_digit}
use Rattle.frame.specs.declared.Mode.{Mode}
use Rattle.grammar.specs.Grammar.{value, Position, next, number, word, Alignment, left, right, center, Lead, unaligned, aligned, filled, Signed, unsigned, plus, minus, Width, implied, fixed, by_argument, by_name, Precision, undotted, star, dot, Letter, lower, upper, Typing, untyped, debug, hex_debug, hex, typed, FormatSpec, SpecText, format_spec, unmodified, modifier, free_text, Tail, bare, colon, Inside, Element, run, opened, closed, placeholder}
use Rattle.unique.specs.Device.Runs.{take_w, drop_w, first}

-- what a part took, what it left, and whether what it took is right
pub record Got (A : Type 0) : Type 0 where
  pub val : A
  pub rest : List ℕ
  pub ok : Bool

abbrev pub got : {A : Type 0} → A → List ℕ → Bool → Got A
got a t b = record { val = a; rest = t; ok = b }

-- a number up to 65,535
unfoldable pub ok_number : ℕ → List ℕ → Bool
ok_number d ds = leb (value 0 (d ∷ ds)) 65535

-- a word other than `_`
unfoldable pub ok_word : ℕ → List ℕ → Bool
ok_word c [] = not (eqb c 0x5F)
ok_word c (d ∷ r) = true

-- the place
unfoldable pub position_of : List ℕ → Got Position
position_of [] = got next [] true
position_of (c ∷ cs) =
    elim (is_digit c) [
      | true ↦ got (number c (take_w is_digit cs)) (drop_w is_digit cs) (ok_number c (take_w is_digit cs))
      | false ↦ elim (is_start c) [
        | true ↦ got (word c (take_w is_continue cs)) (drop_w is_continue cs) (ok_word c (take_w is_continue cs))
        | false ↦ got next (c ∷ cs) true
      ]
    ]

-- `#` and a word stand first
unfoldable pub hash_word : List ℕ → Bool
hash_word [] = false
hash_word (h ∷ []) = false
hash_word (h ∷ d ∷ t) = eqb h 0x23 && is_start d

-- `r#` and a word stand first
unfoldable pub raw_at : List ℕ → Bool
raw_at [] = false
raw_at (c ∷ cs) = eqb c 0x72 && hash_word cs

-- fill and align
abbrev pub is_side : ℕ → Bool
is_side c = eqb c 0x3C || (eqb c 0x3E || eqb c 0x5E)

unfoldable pub side : ℕ → Alignment
side c = elim (eqb c 0x3C) [ true ↦ left | false ↦ elim (eqb c 0x3E) [ true ↦ right | false ↦ center ] ]

unfoldable pub align_of : List ℕ → Got Lead
align_of [] = got unaligned [] true
align_of (c ∷ cs) = elim (is_side c) [ true ↦ got (aligned (side c)) cs true | false ↦ got unaligned (c ∷ cs) true ]

unfoldable pub lead_of : List ℕ → Got Lead
lead_of [] = got unaligned [] true
lead_of (c ∷ []) = align_of (c ∷ [])
lead_of (c ∷ d ∷ t) = elim (is_side d) [ true ↦ got (filled c (side d)) t true | false ↦ align_of (c ∷ d ∷ t) ]

unfoldable pub sign_of : List ℕ → Got Signed
sign_of [] = got unsigned [] true
sign_of (c ∷ cs) =
    elim (eqb c 0x2B) [ true ↦ got plus cs true | false ↦ elim (eqb c 0x2D) [ true ↦ got minus cs true | false ↦ got unsigned (c ∷ cs) true ] ]

unfoldable pub hash_of : List ℕ → Got Bool
hash_of [] = got false [] true
hash_of (c ∷ cs) = elim (eqb c 0x23) [ true ↦ got true cs true | false ↦ got false (c ∷ cs) true ]

unfoldable pub zero_of : List ℕ → Got Bool
zero_of [] = got false [] true
zero_of (c ∷ cs) = elim (eqb c 0x30 && not (first 0x24 cs)) [ true ↦ got true cs true | false ↦ got false (c ∷ cs) true ]

-- a number, and the `$` after it
unfoldable pub number_of : ℕ → List ℕ → List ℕ → Got Width
number_of d ds [] = got (fixed d ds) [] (ok_number d ds)
number_of d ds (c ∷ t) = elim (eqb c 0x24) [ true ↦ got (by_argument d ds) t (ok_number d ds) | false ↦ got (fixed d ds) (c ∷ t) (ok_number d ds) ]

-- a word, and the `$` after it, without which the word is given back
unfoldable pub name_of : ℕ → List ℕ → List ℕ → List ℕ → Got Width
name_of c r [] cs = got implied cs (ok_word c r)
name_of c r (d ∷ t) cs = elim (eqb d 0x24) [ true ↦ got (by_name c r) t (ok_word c r) | false ↦ got implied cs (ok_word c r) ]

unfoldable pub width_of : List ℕ → Got Width
width_of [] = got implied [] true
width_of (c ∷ cs) =
    elim (is_digit c) [
      | true ↦ number_of c (take_w is_digit cs) (drop_w is_digit cs)
      | false ↦ elim (is_start c) [ true ↦ name_of c (take_w is_continue cs) (drop_w is_continue cs) (c ∷ cs) | false ↦ got implied (c ∷ cs) true ]
    ]

unfoldable pub dot_of : List ℕ → Got Precision
dot_of [] = got (dot implied) [] true
dot_of (c ∷ cs) =
    elim (eqb c 0x2A) [ true ↦ got star cs true | false ↦ got (dot (width_of (c ∷ cs)).val) (width_of (c ∷ cs)).rest (width_of (c ∷ cs)).ok ]

unfoldable pub precision_of : List ℕ → Got Precision
precision_of [] = got undotted [] true
precision_of (c ∷ cs) = elim (eqb c 0x2E) [ true ↦ dot_of cs | false ↦ got undotted (c ∷ cs) true ]

-- after a `?` no `#`, `x` or `X` is right
unfoldable pub ok_debug : List ℕ → Bool
ok_debug [] = true
ok_debug (c ∷ t) = not (eqb c 0x23 || (eqb c 0x78 || eqb c 0x58))

unfoldable pub hex_of : Letter → List ℕ → Got Typing
hex_of x [] = got (hex x) [] true
hex_of x (d ∷ t) = elim (eqb d 0x3F) [ true ↦ got (hex_debug x) t true | false ↦ got (hex x) (d ∷ t) true ]

unfoldable pub typed_of : List ℕ → Got Typing
typed_of [] = got untyped [] true
typed_of (c ∷ cs) =
    elim (is_start c) [ true ↦ got (typed c (take_w is_continue cs)) (drop_w is_continue cs) (ok_word c (take_w is_continue cs)) | false ↦ got untyped (c ∷ cs) true ]

unfoldable pub typing_of : List ℕ → Got Typing
typing_of [] = got untyped [] true
typing_of (c ∷ cs) =
    elim (eqb c 0x78) [
      | true ↦ hex_of lower cs
      | false ↦ elim (eqb c 0x58) [ true ↦ hex_of upper cs | false ↦ elim (eqb c 0x3F) [ true ↦ got debug cs (ok_debug cs) | false ↦ typed_of (c ∷ cs) ] ]
    ]

-- what the parts of a Format spec leave, one after the other
abbrev pub t1 : List ℕ → List ℕ
t1 cs = (lead_of cs).rest

abbrev pub t2 : List ℕ → List ℕ
t2 cs = (sign_of (t1 cs)).rest

abbrev pub t3 : List ℕ → List ℕ
t3 cs = (hash_of (t2 cs)).rest

abbrev pub t4 : List ℕ → List ℕ
t4 cs = (zero_of (t3 cs)).rest

abbrev pub t5 : List ℕ → List ℕ
t5 cs = (width_of (t4 cs)).rest

abbrev pub t6 : List ℕ → List ℕ
t6 cs = (precision_of (t5 cs)).rest

abbrev pub t7 : List ℕ → List ℕ
t7 cs = (typing_of (t6 cs)).rest

unfoldable pub format_of : List ℕ → Got FormatSpec
format_of cs =
    record {
      val =
          record {
            lead = (lead_of cs).val;
            sign = (sign_of (t1 cs)).val;
            alternate = (hash_of (t2 cs)).val;
            zero = (zero_of (t3 cs)).val;
            width = (width_of (t4 cs)).val;
            precision = (precision_of (t5 cs)).val;
            typing = (typing_of (t6 cs)).val;
          };
      rest = t7 cs;
      ok = (width_of (t4 cs)).ok && ((precision_of (t5 cs)).ok && (typing_of (t6 cs)).ok);
    }

unfoldable pub modifier_of : List ℕ → Got SpecText
modifier_of [] = got unmodified [] true
modifier_of (c ∷ cs) =
    elim (is_start c) [
      | true ↦ got (modifier c (take_w is_continue cs)) (drop_w is_continue cs) (ok_word c (take_w is_continue cs))
      | false ↦ got unmodified (c ∷ cs) true
    ]

-- the spec of each mode
unfoldable pub spec_of : Mode → List ℕ → Got SpecText
spec_of Mode.Format cs = got (format_spec (format_of cs).val) (format_of cs).rest (format_of cs).ok
spec_of Mode.InlineAsm cs = modifier_of cs
spec_of Mode.Diagnostic cs = got (free_text (take_w is_plain cs)) (drop_w is_plain cs) true

unfoldable pub tail_of : Mode → List ℕ → Got Tail
tail_of m [] = got bare [] true
tail_of m (c ∷ cs) =
    elim (eqb c 0x3A) [
      | true ↦ got (colon (spec_of m cs).val (take_w is_space (spec_of m cs).rest)) (drop_w is_space (spec_of m cs).rest) (spec_of m cs).ok
      | false ↦ got bare (c ∷ cs) true
    ]

-- what a place and its whitespace leave
abbrev pub past_position : List ℕ → List ℕ
past_position cs = drop_w is_space (position_of cs).rest

unfoldable pub inside_of : Mode → List ℕ → Got Inside
inside_of m cs =
    record {
      val = record { position = (position_of cs).val; space = take_w is_space (position_of cs).rest; tail = (tail_of m (past_position cs)).val };
      rest = (tail_of m (past_position cs)).rest;
      ok = (position_of cs).ok && (tail_of m (past_position cs)).ok;
    }

-- a step: an element and what it leaves, the end, or something wrong
pub data Step : Type 0 where
  piece : Element → List ℕ → Step
  done wrong : Step

-- a placeholder is closed
unfoldable pub close_of : Inside → List ℕ → Bool → Step
close_of a [] b = wrong
close_of a (d ∷ t) b = elim (eqb d 0x7D && b) [ true ↦ piece (placeholder a) t | false ↦ wrong ]

unfoldable pub inside_step : Mode → List ℕ → Step
inside_step m cs = elim (raw_at cs) [ true ↦ wrong | false ↦ close_of (inside_of m cs).val (inside_of m cs).rest (inside_of m cs).ok ]

unfoldable pub open_step : Mode → List ℕ → Step
open_step m [] = inside_step m []
open_step m (d ∷ ds) = elim (eqb d 0x7B) [ true ↦ piece (opened (take_w is_plain ds)) (drop_w is_plain ds) | false ↦ inside_step m (d ∷ ds) ]

unfoldable pub close_step : List ℕ → Step
close_step [] = wrong
close_step (d ∷ ds) = elim (eqb d 0x7D) [ true ↦ piece (closed (take_w is_plain ds)) (drop_w is_plain ds) | false ↦ wrong ]

unfoldable pub step : Mode → List ℕ → Step
step m [] = done
step m (c ∷ cs) =
    elim (eqb c 0x7B) [
      | true ↦ open_step m cs
      | false ↦ elim (eqb c 0x7D) [ true ↦ close_step cs | false ↦ piece (run c (take_w is_plain cs)) (drop_w is_plain cs) ]
    ]

-- what a text comes to: nothing, or elements
pub data Answer : Type 0 where
  none : Answer
  some : List Element → Answer

unfoldable pub more : Element → Answer → Answer
more e none = none
more e (some es) = some (e ∷ es)

-- in at most k steps
unfoldable pub parse : Mode → ℕ → List ℕ → Answer
parse m zero cs = none
parse m (suc k) cs = elim (step m cs) [ piece e t ↦ more e (parse m k t) | done ↦ some [] | wrong ↦ none ]
