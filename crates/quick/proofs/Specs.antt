-- A spec whose parts are told is the spec that is read. Rests on Parts and on `placeholder`'s definition of a Format spec.
use Prim.Native.Nat.{ℕ, ◌+◌, ◌≤◌}
use mathlib.Core.Path.{◌≡◌, refl, sym, ◌∙◌, ap}
use mathlib.Core.Bool.{Bool, true, false}
use mathlib.Core.List.{List}
use native.Mathlib.Omega.{arith}
use lib.ListN.{length, get_or}
use Rattle.utf8.specs.Choice.{pick}
use Rattle.utf8.specs.ChoiceLaws.{pick_elim}
use Rattle.frame.specs.Places.{place}
use Rattle.frame.specs.declared.Frame.{Frame}
use Rattle.frame.specs.declared.TextPlace.{TextPlace}
use Rattle.scan.specs.Characters.{consumed}
use Rattle.scan.specs.ScanLaws.{consumed_in, consumed_none}
use Rattle.scan.specs.declared.Consumed.{Consumed}
use Rattle.placeholder.specs.Format.{format_read}
use Rattle.placeholder.specs.Parts.{align_read, sign_read, plain_width, width_read}
use Rattle.placeholder.specs.declared.format.AlignRead.{AlignRead}
use Rattle.placeholder.specs.declared.format.SignRead.{SignRead}
use Rattle.placeholder.specs.declared.format.WidthRead.{WidthRead}
use Rattle.quick.specs.declared.CountPart.{CountPart}
use Rattle.quick.specs.declared.TypeTold.{TypeTold}
use Rattle.quick.specs.Tellings.{width_of, count_span, back_of, spec_of, blank_flaw}
use Rattle.quick.specs.PartsTold.{Room, FillTold, WidthTold, PrecisionTold, TypeKnown, FlagTold, SpecKnown}
use Rattle.quick.proofs.Bytes.{lacks}

-- a width that is told, with the `0` flag beside it
abbrev flagged : List ℕ → Frame → ℕ → Bool → ℕ → ℕ → CountPart → WidthRead
flagged t f n zero from word p =
    record {
      zero = zero;
      width = width_of t f n from p;
      span = count_span t f from p;
      at = place p.end;
      flaw = blank_flaw p.blank from word;
      given = back_of t from word p;
    }

-- it is the width that is read
plain_told : {t : List ℕ} {at word : ℕ} {p : CountPart} → WidthTold t at word p → (f : Frame) (zero : Bool) (n : ℕ) →
    plain_width t f zero (place at) ≡ flagged t f n zero at word p
unfolding plain_width count_span
plain_told w f zero n = rw (w.read f n, w.spanned f n)

-- the flag is passed, unless `$` follows it
width_flag : (t : List ℕ) (f : Frame) (at : TextPlace) (fl : Consumed) → fl ≡ consumed t at 0x30 →
    (fl.ate ≡ true → get_or t fl.at.0 0 ≡ 0x24 → ⊥) → width_read t f at ≡ plain_width t f fl.ate fl.at
unfolding width_read pick
width_flag t f at fl e d = go fl.ate refl
  where
    go : (x : Bool) → fl.ate ≡ x → width_read t f at ≡ plain_width t f fl.ate fl.at
    go true q = rw (← e, q, lacks t fl.at.0 0x24 (omega arith) (omega arith) (d q))
    go false q =
        let p = ap (λ (k : Consumed). k.at) e ∙ consumed_none t at 0x30 (sym (ap (λ (k : Consumed). k.ate) e) ∙ q) in
        rw (← e, q, p)

module _ (t : List ℕ) (at : TextPlace) (h : at.0 ≤ length t) where
  -- an align ends within the text
  align_in : (align_read t at).at.0 ≤ length t
  unfolding align_read
  align_in =
      let P : AlignRead → Type 0 = λ r. r.at.0 ≤ length t in
      pick_elim P _ (λ _. consumed_in t at 0x3C h)
      (λ _. pick_elim P _ (λ _. consumed_in t at 0x3E h) (λ _. pick_elim P _ (λ _. consumed_in t at 0x5E h) (λ _. h)))

  -- and so does a sign
  sign_in : (sign_read t at).at.0 ≤ length t
  unfolding sign_read
  sign_in =
      let P : SignRead → Type 0 = λ r. r.at.0 ≤ length t in
      pick_elim P _ (λ _. consumed_in t at 0x2B h) (λ _. pick_elim P _ (λ _. consumed_in t at 0x2D h) (λ _. h))

-- the marks of a spec, as they are read from a place on
pub record Marks (t : List ℕ) (from : ℕ) (al : AlignRead) (si : SignRead) (ha fl : Consumed) : Type 0 where
  pub align : al ≡ align_read t (place from)
  pub sign : si ≡ sign_read t al.at
  pub hash : ha ≡ consumed t si.at 0x23
  pub flag : fl ≡ consumed t ha.at 0x30

-- from what each call says
pub marks : {t : List ℕ} {from : ℕ} {al : AlignRead} {si : SignRead} {ha fl : Consumed} → al ≡ align_read t (place from) →
    si ≡ sign_read t al.at → ha ≡ consumed t si.at 0x23 → fl ≡ consumed t ha.at 0x30 → Marks t from al si ha fl
marks a s h f = record { align = a; sign = s; hash = h; flag = f }

module _ {t : List ℕ} {from : ℕ} {al : AlignRead} {si : SignRead} {ha fl : Consumed} (m : Marks t from al si ha fl) where
  -- they end within the text
  marks_in : from ≤ length t → fl.at.0 ≤ length t
  marks_in h =
      rw m.flag
      (consumed_in t ha.at 0x30
      (rw m.hash (consumed_in t si.at 0x23 (rw m.sign (sign_in t al.at (rw m.align (align_in t (place from) h)))))))

  -- and leave room
  pub marks_room : {at : ℕ} → Room t at → FillTold t at from → Room t fl.at.0
  marks_room r i = record { within = marks_in i.inside; small = r.small }

  -- A SPEC IS WHAT ITS PARTS TELL
  pub spec_known : {at word g h s : ℕ} {w p : CountPart} {k : TypeTold} → FillTold t at from → WidthTold t fl.at.0 word w →
      g ≡ back_of t fl.at.0 word w → PrecisionTold t w.end h p → s ≡ g + h → TypeKnown t p.end k → FlagTold t fl.ate fl.at.0 →
      SpecKnown t at
      (record {
        fill = from;
        align = al.align;
        sign = si.sign;
        alternate = ha.ate;
        zero = fl.ate;
        from = fl.at.0;
        word = word;
        width = w;
        precision = p;
        typed = k;
        given = s;
      })
  unfolding format_read spec_of
  spec_known {word = word} {g = g} {h = h} {s = s} {w = w} fi wi ba pr su ki all =
      let back : back_of t fl.at.0 word w + h ≡ s = omega (arith, ba, su) in
      record {
        read =
            λ f n.
            rw (
              fi.read f,
              ← m.align,
              ← m.sign,
              ← m.hash,
              width_flag t f ha.at fl m.flag all,
              plain_told wi f fl.ate n,
              pr.read f n,
              ki.read f,
              back,
            );
        wide = wi.dotless;
        counted = wi.inside;
        inside = ki.inside;
      }
