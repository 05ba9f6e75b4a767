-- The plain form of what elements say is the UTF-8 of the plain elements. Rests on Says, Elements and Plain.
use Rattle.std.specs.Prelude.{◌≡◌, refl, Bool, true, false, List, [], ◌∷◌, ◌++◌, ℕ, ◌<◌, ltb, length}
use Rattle.std.proofs.Common.{ap, sym, ◌∙◌, inl, inr, append_assoc, append-nil, arith, ne_eqb, lt-ltb, length-append}
use Rattle.utf8.specs.Choice.{pick}
use Rattle.utf8.specs.ChoiceLaws.{pick_elim}
use Rattle.utf8.specs.Encode.{encode}
use Rattle.frame.specs.declared.Mode.{Mode}
use Rattle.reading.specs.Lists.{gather}
use Rattle.grammar.specs.Grammar.{All, Digit, Plain, value, Number, Position, next, number, word, left, right, center, Lead, unaligned, aligned, filled, Signed, unsigned, plus, minus, Width, implied, fixed, by_argument, by_name, Precision, undotted, star, dot, lower, upper, Typing, untyped, debug, hex_debug, hex, typed, FormatSpec, SpecText, format_spec, unmodified, modifier, free_text, Tail, bare, colon, Inside, Element, run, opened, closed, placeholder}
use Rattle.grammar.specs.Grammar.{written_position, FitsPosition, written_lead, written_sign, written_flag, written_width, FitsWidth, written_precision, FitsPrecision, written_typing, written_format, FitsFormat, written_spec, written_tail, FitsTail, written, Fits, written_all, FitsAll, utf8}
use Rattle.grammar.specs.Pieces.{wide, past, past_tail, align_of, sign_of, hex_of}
use Rattle.unique.specs.Device.Splits.{format_split}
use Rattle.unique.specs.Device.Stands.{wide_some}
use Rattle.joins.proofs.Device.Bytes.{utf8_append}
use Rattle.pen.specs.Pens.{digits}
use Rattle.plain.specs.Plain.{plain_place, plain_fill, plain_align, plain_sign, plain_flag, plain_count, after, plain_hex, plain_spec, doubled, plain_piece, plain_form}
use Rattle.plain.proofs.Device.Digits.{digits_spell}
use Rattle.plain.proofs.Device.Elements.{leading, following, plain_width, plain_precision, plain_position, plain_format, unless_blank, plain_tail, plain_element, plainly}
use Rattle.plain.proofs.Device.Says.{of_position, of_lead, of_width, of_precision, of_typing, of_format, of_tail, of_element, of_all}
use Rattle.plain.proofs.Device.Same.{is_format}

-- DIGITS are their own bytes
digit_byte : (d : ℕ) → Digit d → encode d ≡ d ∷ []
unfolding encode pick
digit_byte d h = rw (lt-ltb d 0x80 (omega (arith, h.1)))

digit_bytes : (l : List ℕ) → All Digit l → utf8 l ≡ l
unfolding utf8
digit_bytes [] a = refl
digit_bytes (d ∷ l) a = rw (digit_byte d a.0, digit_bytes l a.1)

number_bytes : (d : ℕ) (r : List ℕ) → Number d r → digits (value 0 (d ∷ r)) ≡ utf8 (leading d r ∷ following d r)
number_bytes d r h =
    let s = digits_spell (value 0 (d ∷ r)) h.small in
    s.whole ∙ sym (digit_bytes (leading d r ∷ following d r) (s.leads, s.follow))

-- CODES before others
codes_form : (r u : List ℕ) → utf8 r ++ utf8 u ≡ utf8 (r ++ u)
codes_form r u = sym (utf8_append r u)

number_form : (d : ℕ) (r u : List ℕ) → Number d r → digits (value 0 (d ∷ r)) ++ utf8 u ≡ utf8 (leading d r ∷ (following d r ++ u))
number_form d r u h = ap (λ l. l ++ utf8 u) (number_bytes d r h) ∙ codes_form (leading d r ∷ following d r) u

-- A MARK before what follows it
some_after : (c : ℕ) (l : List ℕ) → 0 < length l → after c l ≡ c ∷ l
some_after c [] h = absurd (omega (arith, h))
some_after c (b ∷ l) h = refl

some_bytes : (c : ℕ) (r : List ℕ) → 0 < length (utf8 (c ∷ r))
unfolding utf8 wide
some_bytes c r = omega (arith, wide_some c, length-append (encode c) (utf8 r))

-- PARTS
position_form : (n : ℕ) (x : Position) (u : List ℕ) → FitsPosition x → plain_place (of_position n x) ++ utf8 u ≡ utf8 (written_position (plain_position x) u)
position_form n next u h = refl
position_form n (number d r) u h = number_form d r u h
position_form n (word c r) u h = codes_form (c ∷ r) u

lead_form : (x : Lead) (u : List ℕ) → plain_fill (of_lead x) ++ (plain_align (align_of x) ++ utf8 u) ≡ utf8 (written_lead x u)
unfolding utf8 encode pick
lead_form unaligned u = refl
lead_form (aligned left) u = refl
lead_form (aligned right) u = refl
lead_form (aligned center) u = refl
lead_form (filled c left) u = refl
lead_form (filled c right) u = refl
lead_form (filled c center) u = refl

sign_form : (x : Signed) (u : List ℕ) → plain_sign (sign_of x) ++ utf8 u ≡ utf8 (written_sign x u)
unfolding utf8 encode pick
sign_form unsigned u = refl
sign_form plus u = refl
sign_form minus u = refl

hash_form : (x : Bool) (u : List ℕ) → plain_flag 0x23 x ++ utf8 u ≡ utf8 (written_flag 0x23 x u)
unfolding utf8 encode pick
hash_form false u = refl
hash_form true u = refl

zero_form : (x : Bool) (u : List ℕ) → plain_flag 0x30 x ++ utf8 u ≡ utf8 (written_flag 0x30 x u)
unfolding utf8 encode pick
zero_form false u = refl
zero_form true u = refl

-- `$` and what follows
dollar_form : (l u : List ℕ) → (l ++ (0x24 ∷ [])) ++ utf8 u ≡ l ++ utf8 (0x24 ∷ u)
unfolding utf8 encode pick
dollar_form l u = append_assoc l (0x24 ∷ []) (utf8 u)

width_form : (x : Width) (u : List ℕ) → FitsWidth x → plain_count (of_width x) ++ utf8 u ≡ utf8 (written_width (plain_width x) u)
width_form implied u h = refl
width_form (fixed d r) u h = number_form d r u h
width_form (by_argument d r) u h = dollar_form (digits (value 0 (d ∷ r))) u ∙ number_form d r (0x24 ∷ u) h
width_form (by_name c r) u h = dollar_form (utf8 (c ∷ r)) u ∙ codes_form (c ∷ r) (0x24 ∷ u)

-- a count that stands, after its dot
some_count : (l : List ℕ) (w : Width) (u : List ℕ) → 0 < length l → l ++ utf8 u ≡ utf8 (written_width w u) → after 0x2E l ++ utf8 u ≡ utf8 (written_precision (dot w) u)
unfolding utf8 encode pick
some_count l w u s e = rw (some_after 0x2E l s) (ap (λ (k : List ℕ). 0x2E ∷ k) e)

some_digits : (d : ℕ) (r : List ℕ) → Number d r → 0 < length (digits (value 0 (d ∷ r)))
some_digits d r h = rw (number_bytes d r h) (some_bytes (leading d r) (following d r))

some_more : (l : List ℕ) (b : ℕ) → 0 < length (l ++ (b ∷ []))
some_more l b = omega (arith, length-append l (b ∷ []))

precision_form : (n : ℕ) (x : Precision) (u : List ℕ) → FitsPrecision x →
    after 0x2E (plain_count (of_precision n x)) ++ utf8 u ≡ utf8 (written_precision (plain_precision x) u)
unfolding utf8 encode pick
precision_form n undotted u h = refl
precision_form n star u h = refl
precision_form n (dot implied) u h = refl
precision_form n (dot (fixed d r)) u h = some_count (digits (value 0 (d ∷ r))) (plain_width (fixed d r)) u (some_digits d r h) (width_form (fixed d r) u h)
precision_form n (dot (by_argument d r)) u h =
    some_count (digits (value 0 (d ∷ r)) ++ (0x24 ∷ [])) (plain_width (by_argument d r)) u (some_more (digits (value 0 (d ∷ r))) 0x24) (width_form (by_argument d r) u h)
precision_form n (dot (by_name c r)) u h = some_count (utf8 (c ∷ r) ++ (0x24 ∷ [])) (by_name c r) u (some_more (utf8 (c ∷ r)) 0x24) (width_form (by_name c r) u h)

typing_form : (x : Typing) → plain_hex (hex_of x) ++ of_typing x ≡ utf8 (written_typing x [])
unfolding utf8 encode pick
typing_form untyped = refl
typing_form debug = refl
typing_form (hex_debug lower) = refl
typing_form (hex_debug upper) = refl
typing_form (hex lower) = refl
typing_form (hex upper) = refl
typing_form (typed c r) = ap (λ l. utf8 (c ∷ l)) (sym (append-nil r))

-- A FORMAT SPEC
format_form : (n : ℕ) (f : FormatSpec) (t : List ℕ) → FitsFormat f t → plain_spec (of_format n f) ≡ utf8 (written_format (plain_format f) [])
unfolding plain_spec
format_form n f t h =
    let g = plain_format f in
    let ki : List ℕ = written_typing f.typing [] in
    let pr : List ℕ = written_precision g.precision ki in
    let wi : List ℕ = written_width g.width pr in
    let ze : List ℕ = written_flag 0x30 f.zero wi in
    let al : List ℕ = written_flag 0x23 f.alternate ze in
    let a : List ℕ → List ℕ = λ l. plain_fill (of_lead f.lead) ++ (plain_align (align_of f.lead) ++ l) in
    let b : List ℕ → List ℕ = λ l. a (plain_sign (sign_of f.sign) ++ l) in
    let c : List ℕ → List ℕ = λ l. b (plain_flag 0x23 f.alternate ++ l) in
    let d : List ℕ → List ℕ = λ l. c (plain_flag 0x30 f.zero ++ l) in
    let e : List ℕ → List ℕ = λ l. d (plain_count (of_width f.width) ++ l) in
    ap (λ l. e (after 0x2E (plain_count (of_precision n f.precision)) ++ l)) (typing_form f.typing)
    ∙ (ap e (precision_form n f.precision ki h.precision)
    ∙ (ap d (width_form f.width pr h.width)
    ∙ (ap c (zero_form f.zero wi)
    ∙ (ap b (hash_form f.alternate ze) ∙ (ap a (sign_form f.sign al) ∙ lead_form f.lead (written_sign f.sign al))))))

-- no colon without a spec
unless_form : (s : SpecText) (x u : List ℕ) → written_spec s u ≡ x ++ u → after 0x3A (utf8 x) ++ utf8 u ≡ utf8 (written_tail (unless_blank s x) u)
unfolding utf8 encode pick
unless_form s [] u e = refl
unless_form s (c ∷ r) u e =
    rw (some_after 0x3A (utf8 (c ∷ r)) (some_bytes c r)) (ap (λ (k : List ℕ). 0x3A ∷ k) (codes_form (c ∷ r) u ∙ ap utf8 (sym e)))

tail_form : (m : Mode) (n : ℕ) (x : Tail) (t u : List ℕ) → FitsTail m x t → after 0x3A (plain_spec (of_tail n x)) ++ utf8 u ≡ utf8 (written_tail (plain_tail x) u)
unfolding plain_spec
tail_form m n bare t u h = refl
tail_form m n (colon (format_spec f) w) t u h =
    ap (λ (l : List ℕ). after 0x3A l ++ utf8 u) (format_form n f (w ++ t) (is_format m f (w ++ t) h.0))
    ∙ unless_form (format_spec (plain_format f)) (written_format (plain_format f) []) u (format_split (plain_format f) u)
tail_form m n (colon unmodified w) t u h = refl
tail_form m n (colon (modifier c r) w) t u h = unless_form (modifier c r) (c ∷ r) u refl
tail_form m n (colon (free_text r) w) t u h = unless_form (free_text r) r u refl

-- A LITERAL
no_brace : (x : ℕ) (s : List ℕ) → (x ≡ 0x7B → ⊥) → (x ≡ 0x7D → ⊥) → doubled (x ∷ s) ≡ x ∷ s
unfolding pick
no_brace x s h k = rw (ne_eqb x 0x7B h, ne_eqb x 0x7D k)

undoubled : (c : ℕ) (s : List ℕ) → Plain c → doubled (encode c ++ s) ≡ encode c ++ s
unfolding encode
undoubled c s h =
    let P : List ℕ → Type 0 = λ l. doubled (l ++ s) ≡ l ++ s in
    pick_elim P (ltb c 0x80) (λ _. no_brace c s (λ e. h (inl e)) (λ e. h (inr e)))
    (λ _. pick_elim P (ltb c 0x800) (λ _. no_brace _ _ (λ e. omega arith) (λ e. omega arith))
    (λ _. pick_elim P (ltb c 0x10000) (λ _. no_brace _ _ (λ e. omega arith) (λ e. omega arith)) (λ _. no_brace _ _ (λ e. omega arith) (λ e. omega arith))))

run_form : (c : ℕ) (r u : List ℕ) → Plain c → doubled (utf8 (c ∷ r)) ++ utf8 u ≡ utf8 (c ∷ (r ++ u))
unfolding utf8
run_form c r u h = ap (λ (l : List ℕ). l ++ utf8 u) (undoubled c (utf8 r) h) ∙ codes_form (c ∷ r) u

opened_form : (r u : List ℕ) → doubled (utf8 (0x7B ∷ r)) ++ utf8 u ≡ utf8 (0x7B ∷ 0x7B ∷ (r ++ u))
unfolding utf8 encode pick
opened_form r u = ap (λ (l : List ℕ). 0x7B ∷ 0x7B ∷ l) (codes_form r u)

closed_form : (r u : List ℕ) → doubled (utf8 (0x7D ∷ r)) ++ utf8 u ≡ utf8 (0x7D ∷ 0x7D ∷ (r ++ u))
unfolding utf8 encode pick
closed_form r u = ap (λ (l : List ℕ). 0x7D ∷ 0x7D ∷ l) (codes_form r u)

-- A PLACEHOLDER, of its place's bytes and its spec's
braced : (p s u : List ℕ) → (0x7B ∷ (p ++ (s ++ (0x7D ∷ [])))) ++ utf8 u ≡ 0x7B ∷ (p ++ (s ++ utf8 (0x7D ∷ u)))
unfolding utf8 encode pick
braced p s u = ap (λ (l : List ℕ). 0x7B ∷ l) (append_assoc p (s ++ (0x7D ∷ [])) (utf8 u) ∙ ap (λ l. p ++ l) (append_assoc s (0x7D ∷ []) (utf8 u)))

open_byte : (u : List ℕ) → utf8 (0x7B ∷ u) ≡ 0x7B ∷ utf8 u
unfolding utf8 encode pick
open_byte u = refl

placeholder_form : (m : Mode) (n : ℕ) (a : Inside) (t u : List ℕ) → Fits m (placeholder a) t →
    plain_piece (of_element n (placeholder a)) ++ utf8 u ≡ utf8 (written (plain_element (placeholder a)) u)
placeholder_form m n a t u h =
    let v : List ℕ = 0x7D ∷ u in
    let w : List ℕ = written_tail (plain_tail a.tail) v in
    let p : List ℕ = plain_place (of_position (past_tail n a.tail) a.position) in
    braced p (after 0x3A (plain_spec (of_tail n a.tail))) u
    ∙ (ap (λ (l : List ℕ). 0x7B ∷ (p ++ l)) (tail_form m n a.tail (0x7D ∷ t) v h.tail)
    ∙ (ap (λ (l : List ℕ). 0x7B ∷ l) (position_form (past_tail n a.tail) a.position w h.position) ∙ sym (open_byte _)))

-- ELEMENTS
element_form : (m : Mode) (n : ℕ) (e : Element) (t u : List ℕ) → Fits m e t → plain_piece (of_element n e) ++ utf8 u ≡ utf8 (written (plain_element e) u)
element_form m n (run c r) t u h = run_form c r u h.0
element_form m n (opened r) t u h = opened_form r u
element_form m n (closed r) t u h = closed_form r u
element_form m n (placeholder a) t u h = placeholder_form m n a t u h

pub all_form : (m : Mode) (n : ℕ) (es : List Element) → FitsAll m es [] → plain_form (of_all n es) ≡ utf8 (written_all (plainly es) [])
unfolding plain_form gather utf8
all_form m n [] h = refl
all_form m n (e ∷ es) h =
    ap (λ (l : List ℕ). plain_piece (of_element n e) ++ l) (all_form m (past n e) es h.1)
    ∙ element_form m n e (written_all es []) (written_all (plainly es) []) h.0
