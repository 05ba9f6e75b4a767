-- The parts of a Format spec, where codes stand: what the reading finds is what the parser takes. Rests on Words.
use Rattle.std.specs.Prelude.{◌≡◌, Bool, ℕ, ◌+◌, ◌<◌, length, Some, None}
use Rattle.std.proofs.Math.Path.{refl, ap, ap₂}
use Rattle.std.proofs.Common.{◌∙◌}
use mathlib.Core.List.{List, [], ◌∷◌}
use Rattle.std.proofs.Math.Bool.{true, false}
use native.Mathlib.Omega.{arith}
use borrow.Author.Tests.{eqb-true}
use Rattle.std.proofs.Math.Dec.{eqb}
use Rattle.utf8.specs.Choice.{pick, within}
use Rattle.frame.specs.Places.{place}
use Rattle.frame.specs.Spans.{span_between}
use Rattle.frame.specs.declared.TextPlace.{TextPlace}
use Rattle.frame.specs.declared.Frame.{Frame}
use Rattle.scan.specs.Characters.{consumed}
use Rattle.scan.specs.Words.{is_digit}
use Rattle.scan.specs.Ends.{span_across}
use Rattle.scan.specs.Counts.{count_read}
use Rattle.scan.specs.declared.Count.{Count}
use Rattle.scan.specs.declared.CountRead.{CountRead}
use Rattle.placeholder.specs.Parts.{is_implied, is_align, fill_seen, fill_read, align_read, sign_read, plain_width, width_read, after_dot, precision_read}
use Rattle.placeholder.specs.Filling.{filling}
use Rattle.placeholder.specs.declared.Align.{Align}
use Rattle.placeholder.specs.declared.Fill.{Fill}
use Rattle.placeholder.specs.declared.format.FillRead.{FillRead}
use Rattle.placeholder.specs.declared.format.AlignRead.{AlignRead}
use Rattle.placeholder.specs.declared.format.SignRead.{SignRead}
use Rattle.placeholder.specs.declared.format.WidthRead.{WidthRead}
use Rattle.placeholder.specs.declared.format.PrecisionRead.{PrecisionRead}
use Rattle.grammar.specs.Grammar.{Lead, Signed, Width, implied, fixed, by_argument, by_name, Precision, dot, written_flag, written_width}
use Rattle.grammar.specs.Pieces.{wide, size, spanned, side_of, align_of as alignmentOf, sign_of as signRecord, fill_of, count_of, width_span, precision_of as precisionCount, precision_span, past_precision}
use Rattle.unique.specs.Device.Runs.{case_b, take_w, drop_w, first}
use Rattle.unique.specs.Device.Parser.{Got, got, is_side, side, align_of, lead_of, sign_of, hash_of, zero_of, ok_number, number_of, width_of, dot_of, precision_of}
use Rattle.unique.specs.Device.Made.{width_made}
use Rattle.unique.specs.Device.Splits.{width_split}
use Rattle.unique.specs.Device.Spans.{between_present, across}
use Rattle.unique.specs.Device.Stands.{mark_wide, ascii, Stands, part_place, stands_end, is_at_lem, consume_yes, consume_no, past_ascii}
use Rattle.unique.specs.Device.Words.{flawless, count_same}

module _ (t : List ℕ) where
  -- SIGN
  pub record SignSame (g : Got Signed) (r : SignRead) : Type 0 where
    pub stands : Stands t r.at.0 g.rest
    pub found : r.sign ≡ signRecord g.val

  pub sign_same : (at : TextPlace) (cs : List ℕ) → Stands t at.0 cs → SignSame (sign_of cs) (sign_read t at)
  unfolding sign_of sign_read pick
  sign_same at [] h = rw (consume_no t at 0x2B [] h refl, consume_no t at 0x2D [] h refl) (record { stands = h; found = refl })
  sign_same at (c ∷ cs) h =
      case_b (eqb c 0x2B)
      (λ k. rw (consume_yes t at 0x2B (c ∷ cs) h k, k, sign_of) (record { stands = past_ascii t at.0 0x2B c cs (omega arith) h k; found = refl }))
      (λ k.
      case_b (eqb c 0x2D)
      (λ l.
      rw (consume_no t at 0x2B (c ∷ cs) h k, consume_yes t at 0x2D (c ∷ cs) h l, k, l, sign_of)
      (record { stands = past_ascii t at.0 0x2D c cs (omega arith) h l; found = refl }))
      (λ l. rw (consume_no t at 0x2B (c ∷ cs) h k, consume_no t at 0x2D (c ∷ cs) h l, k, l, sign_of) (record { stands = h; found = refl })))

  -- `#`
  pub record HashSame (at : TextPlace) (g : Got Bool) : Type 0 where
    pub stands : Stands t (consumed t at 0x23).at.0 g.rest
    pub found : (consumed t at 0x23).ate ≡ g.val

  pub hash_same : (at : TextPlace) (cs : List ℕ) → Stands t at.0 cs → HashSame at (hash_of cs)
  unfolding hash_of
  hash_same at [] h = let e = consume_no t at 0x23 [] h refl in record { stands = rw e h; found = rw e }
  hash_same at (c ∷ cs) h =
      case_b (eqb c 0x23)
      (λ k.
      let e = consume_yes t at 0x23 (c ∷ cs) h k in
      rw (k, hash_of) (record { stands = rw e (past_ascii t at.0 0x23 c cs (omega arith) h k); found = rw e }))
      (λ k. let e = consume_no t at 0x23 (c ∷ cs) h k in rw (k, hash_of) (record { stands = rw e h; found = rw e }))

  -- FILL AND ALIGN
  -- the first code is an align
  abbrev side_first : List ℕ → Bool
  side_first [] = false
  side_first (c ∷ cs) = is_side c

  is_align_lem : (at : TextPlace) (cs : List ℕ) → Stands t at.0 cs → is_align t at ≡ side_first cs
  unfolding is_align pick
  is_align_lem at [] h = rw (is_at_lem t at 0x3C [] h, is_at_lem t at 0x3E [] h, is_at_lem t at 0x5E [] h)
  is_align_lem at (c ∷ cs) h =
      rw (is_at_lem t at 0x3C (c ∷ cs) h, is_at_lem t at 0x3E (c ∷ cs) h, is_at_lem t at 0x5E (c ∷ cs) h)
      (case_b (eqb c 0x3C) (λ k. rw k) (λ k. rw k (case_b (eqb c 0x3E) (λ l. rw l) (λ l. rw l))))

  align_side : (at : TextPlace) (c : ℕ) (cs : List ℕ) → Stands t at.0 (c ∷ cs) → is_side c ≡ true →
      align_read t at ≡ record { align = side_of (side c); at = place (at.0 + 1) }
  unfolding align_read side pick
  align_side at c cs h s =
      case_b (eqb c 0x3C)
      (λ k. rw (consume_yes t at 0x3C (c ∷ cs) h k, k, side))
      (λ k.
      case_b (eqb c 0x3E)
      (λ l. rw (consume_no t at 0x3C (c ∷ cs) h k, consume_yes t at 0x3E (c ∷ cs) h l, k, l, side))
      (λ l.
      let m : eqb c 0x5E ≡ true = cc in
      rw (consume_no t at 0x3C (c ∷ cs) h k, consume_no t at 0x3E (c ∷ cs) h l, consume_yes t at 0x5E (c ∷ cs) h m, k, l, side)))

  side_ascii : (c : ℕ) → is_side c ≡ true → wide c ≡ 1
  side_ascii c s =
      case_b (eqb c 0x3C)
      (λ k. mark_wide c 0x3C (omega arith) k)
      (λ k.
      case_b (eqb c 0x3E)
      (λ l. mark_wide c 0x3E (omega arith) l)
      (λ l. mark_wide c 0x5E (omega arith) (cc)))

  align_none : (at : TextPlace) (cs : List ℕ) → Stands t at.0 cs → side_first cs ≡ false → align_read t at ≡ record { align = Align.Unknown; at = at }
  unfolding align_read pick
  align_none at [] h s = rw (consume_no t at 0x3C [] h refl, consume_no t at 0x3E [] h refl, consume_no t at 0x5E [] h refl)
  align_none at (c ∷ cs) h s =
      case_b (eqb c 0x3C)
      (λ k. cc)
      (λ k.
      case_b (eqb c 0x3E)
      (λ l. cc)
      (λ l.
      let m : eqb c 0x5E ≡ false = cc in
      rw (consume_no t at 0x3C (c ∷ cs) h k, consume_no t at 0x3E (c ∷ cs) h l, consume_no t at 0x5E (c ∷ cs) h m)))

  module _ (f : Frame) where
    pub record LeadSame (at : TextPlace) (g : Got Lead) (fi : FillRead) (al : AlignRead) : Type 0 where
      pub stands : Stands t al.at.0 g.rest
      pub fill : fi.fill ≡ fill_of f.quote at.0 g.val
      pub align : al.align ≡ alignmentOf g.val

    -- no fill
    bare_same : (at : TextPlace) (cs : List ℕ) → Stands t at.0 cs → fill_read t f at ≡ record { fill = None; at = at } →
        LeadSame at (align_of cs) (fill_read t f at) (align_read t (fill_read t f at).at)
    unfolding align_of
    bare_same at [] h e = rw e (rw (align_none at [] h refl) (record { stands = h; fill = refl; align = refl }))
    bare_same at (c ∷ cs) h e =
        case_b (is_side c)
        (λ k. rw (e, k, align_of) (rw (align_side at c cs h k) (record { stands = rw (side_ascii c k) at h.1; fill = refl; align = refl })))
        (λ k. rw (e, k, align_of) (rw (align_none at (c ∷ cs) h k) (record { stands = h; fill = refl; align = refl })))

    fill_end : (at : TextPlace) → Stands t at.0 [] → fill_read t f at ≡ record { fill = None; at = at }
    unfolding fill_read
    fill_end at h = ap (fill_seen t f at) (stands_end t at.0 h)

    fill_char : (at : TextPlace) (c : ℕ) (cs : List ℕ) → Stands t at.0 (c ∷ cs) →
        fill_read t f at
        ≡ pick (side_first cs) (record { fill = filling c (span_across t f at at); at = place (at.0 + wide c) }) (record { fill = None; at = at })
    unfolding fill_read
    fill_char at c cs h = ap (fill_seen t f at) h.0 ∙ rw (is_align_lem (place (at.0 + wide c)) cs h.1)

    pub lead_same : (at : TextPlace) (cs : List ℕ) → Stands t at.0 cs → LeadSame at (lead_of cs) (fill_read t f at) (align_read t (fill_read t f at).at)
    unfolding lead_of pick
    lead_same at [] h = rw (fill_end at h) (rw (align_none at [] h refl) (record { stands = h; fill = refl; align = refl }))
    lead_same at (c ∷ []) h = bare_same at (c ∷ []) h (fill_char at c [] h)
    lead_same at (c ∷ d ∷ v) h =
        case_b (is_side d)
        (λ k.
        let p : TextPlace = place (at.0 + wide c) in
        let e : fill_read t f at ≡ record { fill = filling c (span_across t f at at); at = p } = fill_char at c (d ∷ v) h ∙ rw k in
        rw (e, k, lead_of)
        (rw (align_side p d v h.1 k) (record { stands = rw (side_ascii d k) at h.1.1; fill = ap (filling c) (across t f at at (omega arith) h.0); align = refl })))
        (λ k. rw (k, lead_of) (bare_same at (c ∷ d ∷ v) h (fill_char at c (d ∷ v) h ∙ rw k)))

  -- FLAG `0` AND WIDTH
  module _ (f : Frame) where
    pub record WidthSame (at : TextPlace) (z : Got Bool) (g : Got Width) (r : WidthRead) : Type 0 where
      pub stands : Stands t r.at.0 g.rest
      pub clean : flawless r.flaw ≡ g.ok
      pub zero : r.zero ≡ z.val
      pub found : g.ok ≡ true → r.width ≡ count_of f.quote (at.0 + size (written_flag 0x30 z.val [])) g.val
      pub span : g.ok ≡ true → r.at.0 < length t → r.span ≡ width_span f.quote (at.0 + size (written_flag 0x30 z.val [])) g.val

    -- a width that stands has a span
    width_span_lem : (p end : TextPlace) (w : Width) → end.0 ≡ p.0 + size (written_width w []) → end.0 < length t →
        pick (is_implied (count_of f.quote p.0 w)) None (Some (span_between t f p end)) ≡ width_span f.quote p.0 w
    unfolding pick
    width_span_lem p end implied e l = refl
    width_span_lem p end (fixed d ds) e l = between_present t f p end _ e (omega arith) l
    width_span_lem p end (by_argument d ds) e l = between_present t f p end _ e (omega arith) l
    width_span_lem p end (by_name c r) e l = between_present t f p end _ e (omega arith) l

    -- a width that is no `0$` where the flag may stand
    plain_width_lem : (at p : TextPlace) (z : Got Bool) (us : List ℕ) → p.0 ≡ at.0 + size (written_flag 0x30 z.val []) → Stands t p.0 us →
        WidthSame at z (width_of us) (plain_width t f z.val p)
    unfolding plain_width
    plain_width_lem at p z us e h =
        let s = count_same t f p us h in
        let r : CountRead = count_read t f p in
        let w : Width = (width_of us).val in
        let j = part_place t p.0 r.at.0 (width_split w) us (width_of us).rest (width_made us).spelled h s.stands in
        record {
          stands = s.stands;
          clean = s.clean;
          zero = refl;
          found = λ k. s.found k ∙ ap (λ i. count_of f.quote i w) e;
          span =
              λ k l.
              ap (λ (n : Count). pick (is_implied n) None (Some (span_between t f p r.at))) (s.found k)
              ∙ (width_span_lem p r.at w j l ∙ ap (λ i. width_span f.quote i w) e);
        }

    -- `0$`
    zero_dollar : (v : List ℕ) → width_of (0x30 ∷ 0x24 ∷ v) ≡ got (by_argument 0x30 []) v true
    unfolding width_of number_of ok_number is_digit within take_w drop_w
    zero_dollar v = refl

    -- its span
    two_across : (at p : TextPlace) (d : ℕ) (v : List ℕ) → p.0 ≡ at.0 + 1 → Stands t p.0 (d ∷ v) → eqb d 0x24 ≡ true →
        span_across t f at p ≡ spanned f.quote (at.0 + 0) (at.0 + 0 + size (0x30 ∷ 0x24 ∷ []))
    unfolding size
    two_across at p d v e k l =
        let w = mark_wide d 0x24 (omega arith) l in
        let a : at.0 ≡ at.0 + 0 = omega arith in
        let b : p.0 + wide d ≡ at.0 + 0 + (wide 0x30 + (wide 0x24 + 0)) = omega (arith, ascii 0x30 (omega arith), ascii 0x24 (omega arith)) in
        across t f at p (omega arith) k.0 ∙ ap₂ (spanned f.quote) a b

    argument_width : (at : TextPlace) (d : ℕ) (v : List ℕ) → Stands t at.0 (0x30 ∷ d ∷ v) → eqb d 0x24 ≡ true →
        WidthSame at (got false (0x30 ∷ d ∷ v) true) (width_of (0x30 ∷ d ∷ v)) (width_read t f at)
    unfolding width_read pick size
    argument_width at d v h l =
        let p : TextPlace = place (at.0 + 1) in
        let k : Stands t (at.0 + 1) (d ∷ v) = past_ascii t at.0 0x30 0x30 (d ∷ v) (omega arith) h refl in
        let q : Stands t (at.0 + 1 + 1) v = past_ascii t (at.0 + 1) 0x24 d v (omega arith) k l in
        rw (consume_yes t at 0x30 (0x30 ∷ d ∷ v) h refl, consume_yes t p 0x24 (d ∷ v) k l, eqb-true d 0x24 l, zero_dollar v)
        (record { stands = q; clean = refl; zero = refl; found = λ z. refl; span = λ z y. ap Some (two_across at p d v refl k l) })

    flag_width : (at : TextPlace) (cs : List ℕ) → Stands t at.0 (0x30 ∷ cs) → first 0x24 cs ≡ false →
        WidthSame at (got true cs true) (width_of cs) (width_read t f at)
    unfolding width_read pick size
    flag_width at cs h l =
        let p : TextPlace = place (at.0 + 1) in
        let w = ascii 0x30 (omega arith) in
        let k : Stands t (at.0 + 1) cs = past_ascii t at.0 0x30 0x30 cs (omega arith) h refl in
        rw (consume_yes t at 0x30 (0x30 ∷ cs) h refl, consume_no t p 0x24 cs k l) (plain_width_lem at p (got true cs true) cs (omega arith) k)

    no_flag : (at : TextPlace) (cs : List ℕ) → Stands t at.0 cs → first 0x30 cs ≡ false →
        WidthSame at (got false cs true) (width_of cs) (width_read t f at)
    unfolding width_read pick size
    no_flag at cs h k = rw (consume_no t at 0x30 cs h k) (plain_width_lem at at (got false cs true) cs (omega arith) h)

    pub width_same : (at : TextPlace) (cs : List ℕ) → Stands t at.0 cs → WidthSame at (zero_of cs) (width_of (zero_of cs).rest) (width_read t f at)
    unfolding zero_of
    width_same at [] h = no_flag at [] h refl
    width_same at (c ∷ []) h =
        case_b (eqb c 0x30)
        (λ k. let q = eqb-true c 0x30 k in rw (k, zero_of) (flag_width at [] (rw q at h) refl))
        (λ k. rw (k, zero_of) (no_flag at (c ∷ []) h k))
    width_same at (c ∷ d ∷ cs) h =
        case_b (eqb c 0x30)
        (λ k.
        let q = eqb-true c 0x30 k in
        case_b (eqb d 0x24)
        (λ l. rw (k, l, zero_of) (rw q (argument_width at d cs (rw q at h) l)))
        (λ l. rw (k, l, zero_of) (flag_width at (d ∷ cs) (rw q at h) l)))
        (λ k. rw (k, zero_of) (no_flag at (c ∷ d ∷ cs) h k))

    -- PRECISION
    pub record PrecisionSame (at : TextPlace) (n : ℕ) (g : Got Precision) (r : PrecisionRead) : Type 0 where
      pub stands : Stands t r.at.0 g.rest
      pub clean : flawless r.flaw ≡ g.ok
      pub next : r.next ≡ past_precision n g.val
      pub found : g.ok ≡ true → r.precision ≡ precisionCount f.quote at.0 n g.val
      pub span : r.at.0 < length t → r.span ≡ precision_span f.quote at.0 g.val

    -- after the dot at a place, which ended at another
    dotted : (at : TextPlace) (n : ℕ) (cs : List ℕ) → Stands t (at.0 + 1) cs → first 0x2A cs ≡ false →
        PrecisionSame at n (got (dot (width_of cs).val) (width_of cs).rest (width_of cs).ok) (after_dot t f at (place (at.0 + 1)) n)
    unfolding after_dot pick
    dotted at n cs h k =
        let p : TextPlace = place (at.0 + 1) in
        let s = count_same t f p cs h in
        let r : CountRead = count_read t f p in
        let w : Width = (width_of cs).val in
        let j = part_place t p.0 r.at.0 (width_split w) cs (width_of cs).rest (width_made cs).spelled h s.stands in
        rw (consume_no t p 0x2A cs h k)
        (record { stands = s.stands; clean = s.clean; next = refl; found = s.found; span = between_present t f at r.at _ j (omega arith) })

    dot_same : (at : TextPlace) (n : ℕ) (cs : List ℕ) → Stands t (at.0 + 1) cs →
        PrecisionSame at n (dot_of cs) (after_dot t f at (place (at.0 + 1)) n)
    unfolding dot_of after_dot width_of pick
    dot_same at n [] h = dotted at n [] h refl
    dot_same at n (c ∷ cs) h =
        let p : TextPlace = place (at.0 + 1) in
        case_b (eqb c 0x2A)
        (λ k.
        rw (consume_yes t p 0x2A (c ∷ cs) h k, k, dot_of)
        (record {
          stands = past_ascii t (at.0 + 1) 0x2A c cs (omega arith) h k;
          clean = refl;
          next = refl;
          found = λ z. refl;
          span = between_present t f at (place (at.0 + 1 + 1)) (at.0 + 2) (omega arith) (omega arith);
        }))
        (λ k. rw (k, dot_of) (dotted at n (c ∷ cs) h k))

    pub precision_same : (at : TextPlace) (n : ℕ) (cs : List ℕ) → Stands t at.0 cs → PrecisionSame at n (precision_of cs) (precision_read t f at n)
    unfolding precision_of precision_read pick
    precision_same at n [] h = rw (consume_no t at 0x2E [] h refl) (record { stands = h; clean = refl; next = refl; found = λ z. refl; span = λ l. refl })
    precision_same at n (c ∷ cs) h =
        case_b (eqb c 0x2E)
        (λ k. rw (consume_yes t at 0x2E (c ∷ cs) h k, k, precision_of) (dot_same at n cs (past_ascii t at.0 0x2E c cs (omega arith) h k)))
        (λ k. rw (consume_no t at 0x2E (c ∷ cs) h k, k, precision_of) (record { stands = h; clean = refl; next = refl; found = λ z. refl; span = λ l. refl }))
