-- What is written before a text is what is written before nothing, and then the text. Rests on grammar's Grammar.
use Rattle.std.specs.Prelude.{◌≡◌, refl, List, [], ◌∷◌, ◌++◌, Bool, true, false, ℕ, ◌<◌, length}
use Rattle.std.proofs.Common.{ap, sym, ◌∙◌, append_assoc, arith}
use Rattle.grammar.specs.Grammar.{Position, next, number, word, Lead, unaligned, aligned, filled, Signed, unsigned, plus, minus, Width, implied, fixed, by_argument, by_name, Precision, undotted, star, dot, Typing, untyped, debug, hex_debug, hex, typed, FormatSpec, SpecText, format_spec, unmodified, modifier, free_text, Tail, bare, colon, Inside, Element, run, opened, closed, placeholder}
use Rattle.grammar.specs.Grammar.{written_position, written_lead, written_sign, written_flag, written_width, written_precision, written_typing, written_format, written_spec, written_tail, written_inside, written}

abbrev pub Splits : (List ℕ → List ℕ) → Type 0
Splits w = (t : List ℕ) → w t ≡ w [] ++ t

pub both : {f g : List ℕ → List ℕ} → Splits f → Splits g → Splits (λ t. f (g t))
both {f} {g} s r t = s (g t) ∙ (ap (λ u. f [] ++ u) (r t) ∙ (sym (append_assoc (f []) (g []) t) ∙ ap (λ u. u ++ t) (sym (s (g [])))))

pub codes : (r : List ℕ) → Splits (λ t. r ++ t)
codes [] t = refl
codes (c ∷ r) t = ap (λ u. c ∷ u) (codes r t)

pub code : (c : ℕ) → Splits (λ t. c ∷ t)
code c t = refl

pub position_split : (p : Position) → Splits (written_position p)
position_split next = λ t. refl
position_split (number d ds) = both (code d) (codes ds)
position_split (word c r) = both (code c) (codes r)

pub lead_split : (l : Lead) → Splits (written_lead l)
lead_split unaligned t = refl
lead_split (aligned a) t = refl
lead_split (filled c a) t = refl

pub sign_split : (s : Signed) → Splits (written_sign s)
sign_split unsigned t = refl
sign_split plus t = refl
sign_split minus t = refl

pub flag_split : (c : ℕ) (b : Bool) → Splits (written_flag c b)
flag_split c false t = refl
flag_split c true t = refl

pub width_split : (w : Width) → Splits (written_width w)
width_split implied = λ t. refl
width_split (fixed d ds) = both (code d) (codes ds)
width_split (by_argument d ds) = both (code d) (both (codes ds) (code 0x24))
width_split (by_name c r) = both (code c) (both (codes r) (code 0x24))

pub precision_split : (p : Precision) → Splits (written_precision p)
precision_split undotted = λ t. refl
precision_split star = λ t. refl
precision_split (dot w) = both (code 0x2E) (width_split w)

pub typing_split : (k : Typing) → Splits (written_typing k)
typing_split untyped = λ t. refl
typing_split debug = λ t. refl
typing_split (hex_debug x) = λ t. refl
typing_split (hex x) = λ t. refl
typing_split (typed c r) = both (code c) (codes r)

pub format_split : (f : FormatSpec) → Splits (written_format f)
format_split f =
    both (lead_split f.lead)
    (both (sign_split f.sign)
    (both (flag_split 0x23 f.alternate)
    (both (flag_split 0x30 f.zero) (both (width_split f.width) (both (precision_split f.precision) (typing_split f.typing))))))

pub spec_split : (s : SpecText) → Splits (written_spec s)
spec_split (format_spec f) = format_split f
spec_split unmodified = λ t. refl
spec_split (modifier c r) = both (code c) (codes r)
spec_split (free_text r) = codes r

pub tail_split : (y : Tail) → Splits (written_tail y)
tail_split bare = λ t. refl
tail_split (colon s w) = both (code 0x3A) (both (spec_split s) (codes w))

pub inside_split : (a : Inside) → Splits (written_inside a)
inside_split a = both (position_split a.position) (both (codes a.space) (tail_split a.tail))

pub split : (e : Element) → Splits (written e)
split (run c r) = both (code c) (codes r)
split (opened r) = both (code 0x7B) (both (code 0x7B) (codes r))
split (closed r) = both (code 0x7D) (both (code 0x7D) (codes r))
split (placeholder a) = both (code 0x7B) (both (inside_split a) (code 0x7D))

-- an element is not empty
pub some_written : (e : Element) → 0 < length (written e [])
some_written (run c r) = omega arith
some_written (opened r) = omega arith
some_written (closed r) = omega arith
some_written (placeholder a) = omega arith
