-- A plain element takes no more bytes than the element did. Rests on Elements and Digits, and on unique's laws of sizes.
use Rattle.std.specs.Prelude.{◌≡◌, refl, List, [], ◌∷◌, ◌++◌, ℕ, ◌≤◌, length}
use Rattle.std.proofs.Common.{ap, arith}
use Rattle.frame.specs.declared.Mode.{Mode}
use Rattle.grammar.specs.Grammar.{All, Digit, value, Number, Position, next, number, word, Width, implied, fixed, by_argument, by_name, Precision, undotted, star, dot, FormatSpec, SpecText, format_spec, unmodified, modifier, free_text, Tail, bare, colon, Element, run, opened, closed, placeholder}
use Rattle.grammar.specs.Grammar.{FitsPosition, written_position, written_width, FitsWidth, written_precision, FitsPrecision, written_format, FitsFormat, written_spec, written_tail, FitsTail, written, Fits, written_all, FitsAll}
use Rattle.grammar.specs.Pieces.{size}
use Rattle.unique.specs.Device.Splits.{Splits, lead_split, sign_split, flag_split, typing_split, format_split}
use Rattle.unique.specs.Device.Stands.{ascii, size_append, size_split}
use Rattle.plain.proofs.Device.Digits.{digits_spell, no_longer}
use Rattle.plain.proofs.Device.Elements.{leading, following, plain_width, plain_precision, plain_position, plain_format, unless_blank, plain_tail, plain_element, plainly}
use Rattle.plain.proofs.Device.Same.{is_format}

-- DIGITS take a byte each
digits_size : (l : List ℕ) → All Digit l → size l ≡ length l
unfolding size
digits_size [] a = refl
digits_size (d ∷ l) a = omega (arith, ascii d (omega (arith, a.0.1)), digits_size l a.1)

number_size : (d : ℕ) (r : List ℕ) → Number d r → size (leading d r ∷ following d r) ≤ size (d ∷ r)
number_size d r h =
    let s = digits_spell (value 0 (d ∷ r)) h.small in
    let a = digits_size (leading d r ∷ following d r) (s.leads, s.follow) in
    let b = digits_size (d ∷ r) (h.first, h.others) in
    omega (arith, a, b, ap length s.whole, no_longer d r h)

-- a part that is kept
kept : {w : List ℕ → List ℕ} → Splits w → (t u : List ℕ) → size u ≤ size t → size (w u) ≤ size (w t)
kept s t u k = omega (arith, size_split s t, size_split s u, k)

-- PARTS, before t as they stood and before u as they stand plain
number_short : (d : ℕ) (r t u : List ℕ) → Number d r → size u ≤ size t → size (leading d r ∷ (following d r ++ u)) ≤ size (d ∷ (r ++ t))
number_short d r t u h k =
    omega (arith, number_size d r h, size_append (d ∷ r) t, size_append (leading d r ∷ following d r) u, k)

codes_short : (r t u : List ℕ) → size u ≤ size t → size (r ++ u) ≤ size (r ++ t)
codes_short r t u k = omega (arith, size_append r t, size_append r u, k)

position_short : (x : Position) (t u : List ℕ) → FitsPosition x → size u ≤ size t → size (written_position (plain_position x) u) ≤ size (written_position x t)
position_short next t u h k = k
position_short (number d r) t u h k = number_short d r t u h k
position_short (word c r) t u h k = codes_short (c ∷ r) t u k

width_short : (x : Width) (t u : List ℕ) → FitsWidth x → size u ≤ size t → size (written_width (plain_width x) u) ≤ size (written_width x t)
unfolding size
width_short implied t u h k = k
width_short (fixed d r) t u h k = number_short d r t u h k
width_short (by_argument d r) t u h k = number_short d r (0x24 ∷ t) (0x24 ∷ u) h (omega (arith, k))
width_short (by_name c r) t u h k = codes_short (c ∷ r) (0x24 ∷ t) (0x24 ∷ u) (omega (arith, k))

precision_short : (x : Precision) (t u : List ℕ) → FitsPrecision x → size u ≤ size t → size (written_precision (plain_precision x) u) ≤ size (written_precision x t)
unfolding size
precision_short undotted t u h k = k
precision_short star t u h k = omega (arith, k)
precision_short (dot implied) t u h k = omega (arith, k)
precision_short (dot (fixed d r)) t u h k = omega (arith, width_short (fixed d r) t u h k)
precision_short (dot (by_argument d r)) t u h k = omega (arith, width_short (by_argument d r) t u h k)
precision_short (dot (by_name c r)) t u h k = omega (arith, width_short (by_name c r) t u h k)

format_short : (f : FormatSpec) (t u v : List ℕ) → FitsFormat f v → size u ≤ size t → size (written_format (plain_format f) u) ≤ size (written_format f t)
format_short f t u v h k =
    kept (lead_split f.lead) _ _
    (kept (sign_split f.sign) _ _
    (kept (flag_split 0x23 f.alternate) _ _
    (kept (flag_split 0x30 f.zero) _ _
    (width_short f.width _ _ h.width (precision_short f.precision _ _ h.precision (kept (typing_split f.typing) t u k))))))

-- no colon without a spec
unless_short : (s : SpecText) (x u : List ℕ) (n : ℕ) → size u ≤ n → size (0x3A ∷ written_spec s u) ≤ n → size (written_tail (unless_blank s x) u) ≤ n
unless_short s [] u n a b = a
unless_short s (c ∷ r) u n a b = b

tail_short : (m : Mode) (x : Tail) (t u v : List ℕ) → FitsTail m x v → size u ≤ size t → size (written_tail (plain_tail x) u) ≤ size (written_tail x t)
unfolding size
tail_short m bare t u v h k = k
tail_short m (colon (format_spec f) w) t u v h k =
    let i = size_append w t in
    let j = format_short f (w ++ t) u (w ++ v) (is_format m f (w ++ v) h.0) (omega (arith, i, k)) in
    unless_short (format_spec (plain_format f)) (written_format (plain_format f) []) u _ (omega (arith, size_split (format_split f) (w ++ t), i, k)) (omega (arith, j))
tail_short m (colon unmodified w) t u v h k = omega (arith, size_append w t, k)
tail_short m (colon (modifier c r) w) t u v h k = omega (arith, size_append r (w ++ t), size_append r u, size_append w t, k)
tail_short m (colon (free_text r) w) t u v h k =
    let i = size_append w t in
    let j = size_append r (w ++ t) in
    unless_short (free_text r) r u _ (omega (arith, i, j, k)) (omega (arith, i, j, size_append r u, k))

-- ELEMENTS
element_short : (m : Mode) (e : Element) (t u v : List ℕ) → Fits m e v → size u ≤ size t → size (written (plain_element e) u) ≤ size (written e t)
unfolding size
element_short m (run c r) t u v h k = codes_short (c ∷ r) t u k
element_short m (opened r) t u v h k = codes_short (0x7B ∷ 0x7B ∷ r) t u k
element_short m (closed r) t u v h k = codes_short (0x7D ∷ 0x7D ∷ r) t u k
element_short m (placeholder a) t u v h k =
    let i = tail_short m a.tail (0x7D ∷ t) (0x7D ∷ u) (0x7D ∷ v) h.tail (omega (arith, k)) in
    let j = size_append a.space (written_tail a.tail (0x7D ∷ t)) in
    omega (arith, position_short a.position (a.space ++ written_tail a.tail (0x7D ∷ t)) (written_tail (plain_tail a.tail) (0x7D ∷ u)) h.position (omega (arith, i, j)))

pub plainly_short : (m : Mode) (es : List Element) → FitsAll m es [] → size (written_all (plainly es) []) ≤ size (written_all es [])
plainly_short m [] h = omega arith
plainly_short m (e ∷ es) h = element_short m e (written_all es []) (written_all (plainly es) []) (written_all es []) h.0 (plainly_short m es h.1)
