-- The codes of a text that is UTF-8 each have a row of table 3-7, and so have those of its plain elements. Rests on Elements and on `utf8`'s laws.
use Rattle.std.specs.Prelude.{◌≡◌, Bool, true, false, List, [], ◌∷◌, ◌++◌, ℕ, ◌<◌, length, drop}
use Rattle.std.proofs.Common.{ap, sym, ◌∙◌, arith, lt-ltb, length-append}
use Rattle.std.proofs.Math.Seq.{drop-append_seam}
use Rattle.utf8.specs.Choice.{pick}
use Rattle.utf8.specs.Encode.{encode}
use Rattle.utf8.specs.EncodeLaws.{row_encodes}
use Rattle.utf8.specs.Table37.{Row, row1, row2, row3, row4, row5, row6, row7, row8, row9, WellFormed, none, more}
use Rattle.utf8.specs.Utf8.{seq, sequence_at}
use Rattle.utf8.specs.Utf8Laws.{row_code, row_sequence}
use Rattle.utf8.specs.declared.Sequence.{Sequence}
use Rattle.frame.specs.declared.Mode.{Mode}
use Rattle.grammar.specs.Grammar.{All, Digit, value, Number, Position, next, number, word, Lead, unaligned, aligned, filled, Signed, unsigned, plus, minus, Width, implied, fixed, by_argument, by_name, Precision, undotted, star, dot, Typing, untyped, debug, hex_debug, hex, typed, FormatSpec, SpecText, format_spec, unmodified, modifier, free_text, Tail, bare, colon, Element, run, opened, closed, placeholder}
use Rattle.grammar.specs.Grammar.{FitsPosition, written_position, written_lead, written_sign, written_flag, written_width, FitsWidth, written_precision, FitsPrecision, written_typing, written_format, FitsFormat, written_spec, written_tail, FitsTail, written, Fits, written_all, FitsAll, utf8}
use Rattle.grammar.specs.Pieces.{wide}
use Rattle.unique.specs.Device.Bytes.{code_sequence}
use Rattle.unique.specs.Device.Splits.{format_split}
use Rattle.unique.specs.Device.Stands.{wide_some}
use Rattle.plain.proofs.Device.Digits.{digits_spell}
use Rattle.plain.proofs.Device.Elements.{leading, following, plain_width, plain_precision, plain_position, plain_format, unless_blank, plain_tail, plain_element, plainly}
use Rattle.plain.proofs.Device.Same.{is_format}

-- A CODE that a row of the table spells
abbrev pub Real : ℕ → Type 0
Real c = Row (encode c)

row_some : {q : List ℕ} → Row q → 0 < length q
row_some (row1 h) = omega arith
row_some (row2 h i) = omega arith
row_some (row3 h i j) = omega arith
row_some (row4 h i j) = omega arith
row_some (row5 h i j) = omega arith
row_some (row6 h i j) = omega arith
row_some (row7 h i j k) = omega arith
row_some (row8 h i j k) = omega arith
row_some (row9 h i j k) = omega arith

-- the codes of a well-formed text are such
pub reals : {t : List ℕ} → WellFormed t → (cs : List ℕ) → utf8 cs ≡ t → All Real cs
unfolding utf8 wide
reals w [] e = tt
reals none (c ∷ cs) e = absurd (omega (arith, wide_some c, length-append (encode c) (utf8 cs), ap length e))
reals (more {q} {r} x v) (c ∷ cs) e =
    let s : sequence_at (encode c ++ utf8 cs) ≡ seq (row_code q) (length q) = rw e (row_sequence x r) in
    let n : (sequence_at (encode c ++ utf8 cs)).width ≡ 0 → ⊥ = λ z. omega (arith, row_some x, ap (λ (k : Sequence). k.width) s, z) in
    let i : c ≡ row_code q = ap (λ (k : Sequence). k.code) (sym (code_sequence c (utf8 cs) n) ∙ s) in
    let j : encode c ≡ q = ap encode i ∙ row_encodes x in
    let k : utf8 cs ≡ r = sym (drop-append_seam (encode c) (utf8 cs)) ∙ (ap (λ l. drop (length l) (encode c ++ utf8 cs)) j ∙ (ap (drop (length q)) e ∙ drop-append_seam q r)) in
    (rw j x, reals v cs k)

-- and such codes spell a well-formed text
pub well : (cs : List ℕ) → All Real cs → WellFormed (utf8 cs)
unfolding utf8
well [] a = none
well (c ∷ cs) a = more a.0 (well cs a.1)

-- ASCII
ascii_real : (c : ℕ) → c < 0x80 → Real c
unfolding encode pick
ascii_real c h = rw (lt-ltb c 0x80 h) (row1 {b = c} (omega arith, omega (arith, h)))

digits_real : (l : List ℕ) (u : List ℕ) → All Digit l → All Real u → All Real (l ++ u)
digits_real [] u a b = b
digits_real (d ∷ l) u a b = (ascii_real d (omega (arith, a.0.1)), digits_real l u a.1 b)

-- what stands behind others
pub behind : (r t : List ℕ) → All Real (r ++ t) → All Real t
behind [] t a = a
behind (c ∷ r) t a = behind r t a.1

-- and codes kept, before others
kept : (r t u : List ℕ) → (All Real t → All Real u) → All Real (r ++ t) → All Real (r ++ u)
kept [] t u k a = k a
kept (c ∷ r) t u k a = (a.0, kept r t u k a.1)

-- PARTS, before t as they stood and before u as they stand plain
module _ (t u : List ℕ) (k : All Real t → All Real u) where
  number_real : (d : ℕ) (r : List ℕ) → Number d r → All Real (d ∷ (r ++ t)) → All Real (leading d r ∷ (following d r ++ u))
  number_real d r h a =
      let s = digits_spell (value 0 (d ∷ r)) h.small in
      digits_real (leading d r ∷ following d r) u (s.leads, s.follow) (k (behind (d ∷ r) t a))

  position_real : (x : Position) → FitsPosition x → All Real (written_position x t) → All Real (written_position (plain_position x) u)
  position_real next h a = k a
  position_real (number d r) h a = number_real d r h a
  position_real (word c r) h a = kept (c ∷ r) t u k a

  lead_real : (x : Lead) → All Real (written_lead x t) → All Real (written_lead x u)
  lead_real unaligned a = k a
  lead_real (aligned b) a = (a.0, k a.1)
  lead_real (filled c b) a = (a.0, (a.1.0, k a.1.1))

  sign_real : (x : Signed) → All Real (written_sign x t) → All Real (written_sign x u)
  sign_real unsigned a = k a
  sign_real plus a = (a.0, k a.1)
  sign_real minus a = (a.0, k a.1)

  flag_real : (c : ℕ) (x : Bool) → All Real (written_flag c x t) → All Real (written_flag c x u)
  flag_real c false a = k a
  flag_real c true a = (a.0, k a.1)

  typing_real : (x : Typing) → All Real (written_typing x t) → All Real (written_typing x u)
  typing_real untyped a = k a
  typing_real debug a = (a.0, k a.1)
  typing_real (hex_debug x) a = (a.0, (a.1.0, k a.1.1))
  typing_real (hex x) a = (a.0, k a.1)
  typing_real (typed c r) a = kept (c ∷ r) t u k a

-- a mark and what follows
marked : (c : ℕ) (t u : List ℕ) → (All Real t → All Real u) → All Real (c ∷ t) → All Real (c ∷ u)
marked c t u k a = (a.0, k a.1)

width_real : (t u : List ℕ) → (All Real t → All Real u) → (x : Width) → FitsWidth x → All Real (written_width x t) → All Real (written_width (plain_width x) u)
width_real t u k implied h a = k a
width_real t u k (fixed d r) h a = number_real t u k d r h a
width_real t u k (by_argument d r) h a = number_real (0x24 ∷ t) (0x24 ∷ u) (marked 0x24 t u k) d r h a
width_real t u k (by_name c r) h a = kept (c ∷ r) (0x24 ∷ t) (0x24 ∷ u) (marked 0x24 t u k) a

precision_real : (t u : List ℕ) → (All Real t → All Real u) → (x : Precision) → FitsPrecision x → All Real (written_precision x t) →
    All Real (written_precision (plain_precision x) u)
precision_real t u k undotted h a = k a
precision_real t u k star h a = (a.0, (a.1.0, k a.1.1))
precision_real t u k (dot implied) h a = k a.1
precision_real t u k (dot (fixed d r)) h a = (a.0, width_real t u k (fixed d r) h a.1)
precision_real t u k (dot (by_argument d r)) h a = (a.0, width_real t u k (by_argument d r) h a.1)
precision_real t u k (dot (by_name c r)) h a = (a.0, width_real t u k (by_name c r) h a.1)

-- A FORMAT SPEC
format_real : (t u : List ℕ) → (All Real t → All Real u) → (f : FormatSpec) (v : List ℕ) → FitsFormat f v → All Real (written_format f t) →
    All Real (written_format (plain_format f) u)
format_real t u k f v h a =
    lead_real _ _ (sign_real _ _ (flag_real _ _ (flag_real _ _ (width_real _ _ (precision_real _ _ (typing_real t u k f.typing) f.precision h.precision) f.width h.width) 0x30 f.zero) 0x23 f.alternate) f.sign)
    f.lead a

-- no colon without a spec
unless_real : (s : SpecText) (x u : List ℕ) → All Real u → All Real (0x3A ∷ written_spec s u) → All Real (written_tail (unless_blank s x) u)
unless_real s [] u a b = a
unless_real s (c ∷ r) u a b = b

tail_real : (m : Mode) (t u : List ℕ) → (All Real t → All Real u) → (x : Tail) (v : List ℕ) → FitsTail m x v → All Real (written_tail x t) →
    All Real (written_tail (plain_tail x) u)
tail_real m t u k bare v h a = k a
tail_real m t u k (colon (format_spec f) w) v h a =
    let j : All Real (w ++ t) → All Real u = λ b. k (behind w t b) in
    let b : All Real (w ++ t) = behind (written_format f []) (w ++ t) (rw (format_split f (w ++ t)) at a.1) in
    unless_real (format_spec (plain_format f)) (written_format (plain_format f) []) u (j b) (a.0, format_real (w ++ t) u j f (w ++ v) (is_format m f (w ++ v) h.0) a.1)
tail_real m t u k (colon unmodified w) v h a = k (behind w t a.1)
tail_real m t u k (colon (modifier c r) w) v h a = (a.0, kept (c ∷ r) (w ++ t) u (λ b. k (behind w t b)) a.1)
tail_real m t u k (colon (free_text r) w) v h a =
    unless_real (free_text r) r u (k (behind w t (behind r (w ++ t) a.1))) (a.0, kept r (w ++ t) u (λ b. k (behind w t b)) a.1)

-- ELEMENTS
element_real : (m : Mode) (t u : List ℕ) → (All Real t → All Real u) → (e : Element) (v : List ℕ) → Fits m e v → All Real (written e t) →
    All Real (written (plain_element e) u)
element_real m t u k (run c r) v h a = kept (c ∷ r) t u k a
element_real m t u k (opened r) v h a = (a.0, (a.1.0, kept r t u k a.1.1))
element_real m t u k (closed r) v h a = (a.0, (a.1.0, kept r t u k a.1.1))
element_real m t u k (placeholder x) v h a =
    let j = tail_real m (0x7D ∷ t) (0x7D ∷ u) (marked 0x7D t u k) x.tail (0x7D ∷ v) h.tail in
    (a.0, position_real (x.space ++ written_tail x.tail (0x7D ∷ t)) _ (λ b. j (behind x.space _ b)) x.position h.position a.1)

pub plainly_real : (m : Mode) (es : List Element) → FitsAll m es [] → All Real (written_all es []) → All Real (written_all (plainly es) [])
plainly_real m [] h a = a
plainly_real m (e ∷ es) h a = element_real m (written_all es []) (written_all (plainly es) []) (plainly_real m es h.1) e (written_all es []) h.0 a
