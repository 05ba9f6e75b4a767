-- A Format spec, and the spec of each mode, where codes stand: what the reading finds is what the parser takes.
-- Rests on Parts and Types, and on Made and Splits for where each part stands.
use Rattle.std.specs.Prelude.{◌≡◌, true, ◌&&◌, length, Option}
use Rattle.std.proofs.Math.Path.{refl, ap}
use Rattle.std.proofs.Common.{◌∙◌}
use mathlib.Core.List.{List, [], ◌∷◌}
use Rattle.std.proofs.Math.Bool.{Bool}
use Prim.Native.Nat.{ℕ, ◌+◌, ◌<◌}
use native.Mathlib.Omega.{arith}
use Rattle.letters.specs.Questions.{is_start}
use Rattle.frame.specs.Places.{place, range_of}
use Rattle.frame.specs.declared.TextPlace.{TextPlace}
use Rattle.frame.specs.declared.TextRange.{TextRange}
use Rattle.frame.specs.declared.Frame.{Frame}
use Rattle.frame.specs.declared.Mode.{Mode}
use Rattle.scan.specs.Characters.{consumed, text_end}
use Rattle.scan.specs.ScanLaws.{text_on}
use Rattle.scan.specs.declared.Consumed.{Consumed}
use Rattle.placeholder.specs.Parts.{fill_read, align_read, sign_read, width_read, precision_read}
use Rattle.placeholder.specs.Types.{word_type, type_read}
use Rattle.placeholder.specs.Format.{format_read}
use Rattle.placeholder.specs.Specs.{type_only, diagnostic_type, after_colon}
use Rattle.placeholder.specs.declared.Hex.{Hex}
use Rattle.placeholder.specs.declared.format.FillRead.{FillRead}
use Rattle.placeholder.specs.declared.format.AlignRead.{AlignRead}
use Rattle.placeholder.specs.declared.format.SignRead.{SignRead}
use Rattle.placeholder.specs.declared.format.WidthRead.{WidthRead}
use Rattle.placeholder.specs.declared.format.PrecisionRead.{PrecisionRead}
use Rattle.placeholder.specs.declared.format.TypeRead.{TypeRead}
use Rattle.placeholder.specs.declared.format.SpecRead.{SpecRead}
use Rattle.grammar.specs.Grammar.{FormatSpec, SpecText, written_lead, written_sign, written_flag, written_width}
use Rattle.grammar.specs.Pieces.{size, width_at, precision_at, type_at, count_of, width_span, precision_of as precisionCount, precision_span, type_text, type_span, format_at, spec_at, type_only as typeRecord, past_precision, past_spec}
use Rattle.unique.specs.Device.Runs.{case_b, and_left, and_right}
use Rattle.unique.specs.Device.Parser.{Got, width_of, precision_of, typing_of, t1, t2, t3, t4, t5, t6, format_of, modifier_of, spec_of}
use Rattle.unique.specs.Device.Made.{lead_spelled, sign_spelled, hash_spelled, zero_spelled, width_made, precision_made, typing_made}
use Rattle.unique.specs.Device.Splits.{Splits, both, lead_split, sign_split, flag_split, width_split, precision_split, typing_split}
use Rattle.unique.specs.Device.Stands.{Stands, text_place, text_left, size_split, part_place}
use Rattle.unique.specs.Device.Spans.{between_present}
use Rattle.unique.specs.Device.Words.{flawless}
use Rattle.unique.specs.Device.Parts.{lead_same, sign_same, hash_same, width_same, precision_same}
use Rattle.unique.specs.Device.Types.{type_none_lem, type_some, typing_same}
use Rattle.frame.specs.declared.Span.{Span}

-- before the flag `0`, and from there to the precision
abbrev before : FormatSpec → List ℕ → List ℕ
before f u = written_lead f.lead (written_sign f.sign (written_flag 0x23 f.alternate u))

abbrev counts : FormatSpec → List ℕ → List ℕ
counts f u = written_flag 0x30 f.zero (written_width f.width u)

before_split : (f : FormatSpec) → Splits (before f)
before_split f = both (lead_split f.lead) (both (sign_split f.sign) (flag_split 0x23 f.alternate))

counts_split : (f : FormatSpec) → Splits (counts f)
counts_split f = both (flag_split 0x30 f.zero) (width_split f.width)

module _ (t : List ℕ) (f : Frame) where
  pub record FormatSame (at : TextPlace) (n : ℕ) (g : Got FormatSpec) (r : SpecRead) : Type 0 where
    pub stands : Stands t r.at.0 g.rest
    pub clean : (flawless r.width && (flawless r.precision && flawless r.typetext)) ≡ g.ok
    pub next : r.next ≡ past_precision n g.val.precision
    pub found : g.ok ≡ true → r.at.0 < length t → r.spec ≡ format_at f.quote at.0 n g.val

  pub format_same : (at : TextPlace) (n : ℕ) (cs : List ℕ) → Stands t at.0 cs → FormatSame at n (format_of cs) (format_read t f at n)
  unfolding format_of format_read format_at
  format_same at n cs h =
      let fi : FillRead = fill_read t f at in
      let al : AlignRead = align_read t fi.at in
      let si : SignRead = sign_read t al.at in
      let ha : Consumed = consumed t si.at 0x23 in
      let wi : WidthRead = width_read t f ha.at in
      let pr : PrecisionRead = precision_read t f wi.at n in
      let s1 = lead_same t f at cs h in
      let s2 = sign_same t al.at (t1 cs) s1.stands in
      let s3 = hash_same t si.at (t2 cs) s2.stands in
      let s4 = width_same t f ha.at (t3 cs) s3.stands in
      let s5 = precision_same t f wi.at n (t5 cs) s4.stands in
      let s6 = typing_same t f pr.at (t6 cs) s5.stands in
      let x : FormatSpec = (format_of cs).val in
      let w : Bool = (width_of (t4 cs)).ok in
      let p : Bool = (precision_of (t5 cs)).ok in
      let k : Bool = (typing_of (t6 cs)).ok in
      let q3 : before x (t3 cs) ≡ cs = cc (lead_spelled cs, sign_spelled (t1 cs), hash_spelled (t2 cs)) in
      let q5 : counts x (t5 cs) ≡ t3 cs = cc (zero_spelled (t3 cs), (width_made (t4 cs)).spelled) in
      let e3 = part_place t at.0 ha.at.0 (before_split x) cs (t3 cs) q3 h s3.stands in
      let e5 = part_place t ha.at.0 wi.at.0 (counts_split x) (t3 cs) (t5 cs) q5 s3.stands s4.stands in
      let q6 = (precision_made (t5 cs)).spelled in
      let e6 = part_place t wi.at.0 pr.at.0 (precision_split x.precision) (t5 cs) (t6 cs) q6 s4.stands s5.stands in
      let f3 = size_split (before_split x) (written_flag 0x30 x.zero []) in
      let f5 = size_split (flag_split 0x30 x.zero) (written_width x.width []) in
      let p4 : ha.at.0 + size (written_flag 0x30 x.zero []) ≡ width_at at.0 x = omega arith in
      let p5 : wi.at.0 ≡ precision_at at.0 x = omega arith in
      let p6 : pr.at.0 ≡ type_at at.0 x = omega arith in
      let ty : TypeRead = type_read t f pr.at in
      let q7 = (typing_made (t6 cs)).spelled in
      let e7 = part_place t pr.at.0 ty.at.0 (typing_split x.typing) (t6 cs) (format_of cs).rest q7 s5.stands s6.stands in
      record {
        stands = s6.stands;
        clean = cc (s4.clean, s5.clean, s6.clean);
        next = s5.next;
        found =
            λ z l.
            let a = and_left w (p && k) z in
            let b = and_left p k (and_right w (p && k) z) in
            let q : ℕ = f.quote in
            let width = s4.found a ∙ ap (λ i. count_of q i x.width) p4 in
            let widthspan = s4.span a (omega arith) ∙ ap (λ i. width_span q i x.width) p4 in
            let precision = s5.found b ∙ ap (λ i. precisionCount q i n x.precision) p5 in
            let precisionspan = s5.span (omega arith) ∙ ap (λ i. precision_span q i x.precision) p5 in
            let typetext = s6.typetext ∙ ap (λ i. type_text i x.typing) p6 in
            let typespan = s6.span l ∙ ap (λ i. type_span q i x.typing) p6 in
            λ i.
            record {
              fill = s1.fill i;
              align = s1.align i;
              sign = s2.found i;
              alternate = s3.found i;
              zero = s4.zero i;
              hex = s6.hex i;
              width = width i;
              widthspan = widthspan i;
              precision = precision i;
              precisionspan = precisionspan i;
              typetext = typetext i;
              typespan = typespan i;
            };
      }

  -- THE SPEC OF EACH MODE
  pub record SpecSame (colon : TextPlace) (n : ℕ) (g : Got SpecText) (r : SpecRead) : Type 0 where
    pub stands : Stands t r.at.0 g.rest
    pub clean : (flawless r.width && (flawless r.precision && flawless r.typetext)) ≡ g.ok
    pub next : r.next ≡ past_spec n g.val
    pub found : g.ok ≡ true → r.at.0 < length t → r.spec ≡ spec_at f.quote colon.0 n g.val

  -- a spec that has a type and nothing else
  pub only : (x : TypeRead) (n : ℕ) (r : TextRange) (s : Option Span) → x.hex ≡ Hex.Absent → x.typetext ≡ r → x.span ≡ s → (type_only x n).spec ≡ typeRecord r s
  only x n r s h k l = rw (h, k, l)

  -- the word or nothing after a colon
  modifier_same : (colon : TextPlace) (n : ℕ) (cs : List ℕ) → Stands t (colon.0 + 1) cs →
      SpecSame colon n (modifier_of cs) (type_only (word_type t f (place (colon.0 + 1))) n)
  unfolding modifier_of
  modifier_same colon n [] h =
      let at : TextPlace = place (colon.0 + 1) in
      let s = type_none_lem t f at [] h tt in
      record { stands = s.stands; clean = s.clean; next = refl; found = λ z l. only (word_type t f at) n _ _ s.hex s.typetext (s.span l) }
  modifier_same colon n (c ∷ cs) h =
      let at : TextPlace = place (colon.0 + 1) in
      case_b (is_start c)
      (λ k.
      let s = type_some t f at c cs h k in
      rw (k, modifier_of)
      (record { stands = s.stands; clean = s.clean; next = refl; found = λ z l. only (word_type t f at) n _ _ s.hex s.typetext (s.span l) }))
      (λ k.
      let s = type_none_lem t f at (c ∷ cs) h k in
      rw (k, modifier_of)
      (record { stands = s.stands; clean = s.clean; next = refl; found = λ z l. only (word_type t f at) n _ _ s.hex s.typetext (s.span l) }))

  pub spec_same : (m : Mode) (colon : TextPlace) (n : ℕ) (cs : List ℕ) → Stands t (colon.0 + 1) cs →
      SpecSame colon n (spec_of m cs) (after_colon t f m colon (place (colon.0 + 1)) n)
  unfolding spec_of diagnostic_type
  spec_same Mode.Format colon n cs h =
      let s = format_same (place (colon.0 + 1)) n cs h in
      record { stands = s.stands; clean = s.clean; next = s.next; found = s.found }
  spec_same Mode.InlineAsm colon n cs h = modifier_same colon n cs h
  spec_same Mode.Diagnostic colon n cs h =
      let at : TextPlace = place (colon.0 + 1) in
      let e = text_place t at cs h in
      record {
        stands = text_left t at cs h;
        clean = refl;
        next = refl;
        found =
            λ z l.
            only (diagnostic_type t f colon at) n _ _ refl (ap (range_of at) e)
            (between_present t f colon (text_end t at) _ (ap (λ p. p.0) e) (omega (arith, text_on t at)) l);
      }
