-- A plain element says what the element did. Rests on Says and Elements.
use Rattle.std.specs.Prelude.{◌≡◌, refl, Bool, true, false, List, [], ◌∷◌, ◌++◌, ℕ}
use Rattle.std.proofs.Common.{ap, sym, ◌∙◌}
use Rattle.frame.specs.declared.Mode.{Mode}
use Rattle.scan.specs.declared.Numeral.{Numeral}
use Rattle.grammar.specs.Grammar.{value, Number, Position, next, number, word, Lead, unaligned, aligned, filled, Signed, unsigned, plus, minus, Width, implied, fixed, by_argument, by_name, Precision, undotted, star, dot, Typing, untyped, debug, hex_debug, hex, typed, FormatSpec, format_spec, unmodified, modifier, free_text, Tail, bare, colon, Element, run, opened, closed, placeholder}
use Rattle.grammar.specs.Grammar.{FitsPosition, written_lead, written_sign, written_flag, written_width, FitsWidth, written_precision, FitsPrecision, written_typing, written_format, FitsFormat, FitsSpec, FitsTail, FitsAll, utf8}
use Rattle.grammar.specs.Pieces.{past_precision, past_tail, past}
use Rattle.unique.specs.Device.Runs.{never}
use Rattle.plain.specs.Said as S
use Rattle.plain.proofs.Device.Digits.{digits_spell}
use Rattle.plain.proofs.Device.Elements.{leading, following, plain_width, plain_precision, plain_position, plain_format, unless_blank, plain_tail, plain_element, plainly}
use Rattle.plain.proofs.Device.Says.{of_position, of_width, of_precision, of_format, only_type, of_tail, of_element, of_all}

-- NUMBERS
number_same : (d : ℕ) (r : List ℕ) → Number d r → Numeral.Within (value 0 (leading d r ∷ following d r)) ≡ Numeral.Within (value 0 (d ∷ r))
number_same d r h = ap Numeral.Within (digits_spell (value 0 (d ∷ r)) h.small).worth

position_same : (n : ℕ) (x : Position) → FitsPosition x → of_position n (plain_position x) ≡ of_position n x
position_same n next h = refl
position_same n (number d r) h = ap S.at (number_same d r h)
position_same n (word c r) h = refl

width_same : (x : Width) → FitsWidth x → of_width (plain_width x) ≡ of_width x
width_same implied h = refl
width_same (fixed d r) h = ap S.fixed (number_same d r h)
width_same (by_argument d r) h = ap S.by_argument (number_same d r h)
width_same (by_name c r) h = refl

precision_same : (n : ℕ) (x : Precision) → FitsPrecision x → of_precision n (plain_precision x) ≡ of_precision n x
precision_same n undotted h = refl
precision_same n star h = refl
precision_same n (dot implied) h = refl
precision_same n (dot (fixed d r)) h = ap S.fixed (number_same d r h)
precision_same n (dot (by_argument d r)) h = ap S.by_argument (number_same d r h)
precision_same n (dot (by_name c r)) h = refl

format_same : (n : ℕ) (f : FormatSpec) (t : List ℕ) → FitsFormat f t → of_format n (plain_format f) ≡ of_format n f
format_same n f t h = cc (width_same f.width h.width, precision_same n f.precision h.precision)

pub is_format : (m : Mode) (f : FormatSpec) (t : List ℕ) → FitsSpec m (format_spec f) t → FitsFormat f t
is_format Mode.Format f t h = h
is_format Mode.InlineAsm f t h = absurd h
is_format Mode.Diagnostic f t h = absurd h

-- A SPEC THAT WRITES NOTHING says nothing
lead_blank : (x : Lead) (t : List ℕ) → written_lead x t ≡ [] → (x ≡ unaligned) × (t ≡ [])
lead_blank unaligned t e = (refl, e)
lead_blank (aligned a) t e = absurd (never e)
lead_blank (filled c a) t e = absurd (never e)

sign_blank : (x : Signed) (t : List ℕ) → written_sign x t ≡ [] → (x ≡ unsigned) × (t ≡ [])
sign_blank unsigned t e = (refl, e)
sign_blank plus t e = absurd (never e)
sign_blank minus t e = absurd (never e)

flag_blank : (c : ℕ) (x : Bool) (t : List ℕ) → written_flag c x t ≡ [] → (x ≡ false) × (t ≡ [])
flag_blank c false t e = (refl, e)
flag_blank c true t e = absurd (never e)

width_blank : (x : Width) (t : List ℕ) → written_width x t ≡ [] → (x ≡ implied) × (t ≡ [])
width_blank implied t e = (refl, e)
width_blank (fixed d r) t e = absurd (never e)
width_blank (by_argument d r) t e = absurd (never e)
width_blank (by_name c r) t e = absurd (never e)

precision_blank : (x : Precision) (t : List ℕ) → written_precision x t ≡ [] → (x ≡ undotted) × (t ≡ [])
precision_blank undotted t e = (refl, e)
precision_blank star t e = absurd (never e)
precision_blank (dot w) t e = absurd (never e)

typing_blank : (x : Typing) → written_typing x [] ≡ [] → x ≡ untyped
typing_blank untyped e = refl
typing_blank debug e = absurd (never e)
typing_blank (hex_debug x) e = absurd (never e)
typing_blank (hex x) e = absurd (never e)
typing_blank (typed c r) e = absurd (never e)

module _ (n : ℕ) (f : FormatSpec) (e : written_format f [] ≡ []) where
  format_blank : (of_format n f ≡ only_type []) × (past_precision n f.precision ≡ n)
  format_blank =
      let l = lead_blank f.lead _ e in
      let s = sign_blank f.sign _ l.1 in
      let a = flag_blank 0x23 f.alternate _ s.1 in
      let z = flag_blank 0x30 f.zero _ a.1 in
      let w = width_blank f.width _ z.1 in
      let p = precision_blank f.precision _ w.1 in
      let k = typing_blank f.typing p.1 in
      (rw (l.0, s.0, a.0, z.0, w.0, p.0, k), rw p.0)

unless_same : (n : ℕ) (f : FormatSpec) (x : List ℕ) → (x ≡ [] → of_format n f ≡ only_type []) → of_tail n (unless_blank (format_spec f) x) ≡ of_format n f
unless_same n f [] b = sym (b refl)
unless_same n f (c ∷ r) b = refl

free_same : (n : ℕ) (r : List ℕ) → of_tail n (unless_blank (free_text r) r) ≡ only_type (utf8 r)
unfolding utf8
free_same n [] = refl
free_same n (c ∷ r) = refl

tail_same : (m : Mode) (n : ℕ) (x : Tail) (t : List ℕ) → FitsTail m x t → of_tail n (plain_tail x) ≡ of_tail n x
tail_same m n bare t h = refl
tail_same m n (colon (format_spec f) w) t h =
    unless_same n (plain_format f) _ (λ e. (format_blank n (plain_format f) e).0) ∙ format_same n f (w ++ t) (is_format m f (w ++ t) h.0)
tail_same m n (colon unmodified w) t h = refl
tail_same m n (colon (modifier c r) w) t h = refl
tail_same m n (colon (free_text r) w) t h = free_same n r

-- THE NEXT ARGUMENT'S NUMBER is the same past it
precision_past : (n : ℕ) (x : Precision) → past_precision n (plain_precision x) ≡ past_precision n x
precision_past n undotted = refl
precision_past n star = refl
precision_past n (dot implied) = refl
precision_past n (dot (fixed d r)) = refl
precision_past n (dot (by_argument d r)) = refl
precision_past n (dot (by_name c r)) = refl

unless_past : (n : ℕ) (f : FormatSpec) (x : List ℕ) → (x ≡ [] → past_precision n f.precision ≡ n) → past_tail n (unless_blank (format_spec f) x) ≡ past_precision n f.precision
unless_past n f [] b = sym (b refl)
unless_past n f (c ∷ r) b = refl

free_past : (n : ℕ) (r x : List ℕ) → past_tail n (unless_blank (free_text r) x) ≡ n
free_past n r [] = refl
free_past n r (c ∷ x) = refl

tail_past : (n : ℕ) (x : Tail) → past_tail n (plain_tail x) ≡ past_tail n x
tail_past n bare = refl
tail_past n (colon (format_spec f) w) = unless_past n (plain_format f) _ (λ e. (format_blank n (plain_format f) e).1) ∙ precision_past n f.precision
tail_past n (colon unmodified w) = refl
tail_past n (colon (modifier c r) w) = refl
tail_past n (colon (free_text r) w) = free_past n r r

position_past : (n : ℕ) (a : Element) → past n (plain_element a) ≡ past n a
position_past n (run c r) = refl
position_past n (opened r) = refl
position_past n (closed r) = refl
position_past n (placeholder a) = go a.position
  where
    go : (x : Position) → past n (placeholder (record { position = plain_position x; space = []; tail = plain_tail a.tail })) ≡ past n (placeholder (record { position = x; space = a.space; tail = a.tail }))
    go next = rw (tail_past n a.tail)
    go (number d r) = tail_past n a.tail
    go (word c r) = tail_past n a.tail

-- ELEMENTS
element_same : (m : Mode) (n : ℕ) (e : Element) (es : List Element) → FitsAll m (e ∷ es) [] → of_element n (plain_element e) ≡ of_element n e
element_same m n (run c r) es h = refl
element_same m n (opened r) es h = refl
element_same m n (closed r) es h = refl
element_same m n (placeholder a) es h =
    cc (tail_past n a.tail, position_same (past_tail n a.tail) a.position h.0.position, tail_same m n a.tail _ h.0.tail)

pub all_same : (m : Mode) (n : ℕ) (es : List Element) → FitsAll m es [] → of_all n (plainly es) ≡ of_all n es
all_same m n [] h = refl
all_same m n (e ∷ es) h = cc (element_same m n e es h, position_past n e, all_same m (past n e) es h.1)
