-- What the scribe asks holds of every accepted text: its fills are characters, and its plain form can be counted. Rests on plain's page and
-- grammar's pieces.
use Rattle.std.specs.Prelude.{◌≡◌, ◌⊎◌, ltb, length}
use Rattle.std.proofs.Math.Path.{refl}
use Rattle.std.proofs.Common.{ap, sym, subst, inl, inr, ⊎_elim, arith, ltb-true, ltb-false}
use mathlib.Core.List.{List, [], ◌∷◌, ◌++◌}
use Prim.Native.Nat.{ℕ, ◌+◌, ◌*◌, ◌/◌, ◌%◌, ◌≤◌, ◌<◌}
use Rattle.utf8.specs.Table37.{Row, row1, row2, row3, row4, row5, row6, row7, row8, row9}
use Rattle.frame.specs.declared.Frame.{Frame}
use Rattle.frame.specs.declared.Mode.{Mode}
use Rattle.reading.specs.Lists.{pieces}
use Rattle.laws.specs.BrokenLaws.{well_whole}
use Rattle.grammar.specs.Grammar.{All, Lead, unaligned, aligned, filled, FormatSpec, format_spec, unmodified, modifier, free_text, Tail, bare, colon, Element, run, opened, closed, placeholder, written_position, written_format, written_tail, written, written_all}
use Rattle.grammar.specs.Pieces.{end_of, past, fill_of, format_at, after_place, tail_at, argument_at, piece_at, pieces_of}
use Rattle.unique.specs.Device.Runs.{case_b}
use Rattle.unique.specs.Device.Splits.{position_split, split}
use Rattle.unique.specs.Device.Readings.{has_reading, its_pieces}
use Rattle.pen.specs.Pens.{Fits}
use Rattle.pen.specs.PenLaws.{encode_four}
use Rattle.plain.specs.Said.{said}
use Rattle.plain.specs.Plain.{plain_form}
use Rattle.plain.specs.Plainly.{Accepted}
use Rattle.plain.proofs.PlainlyLaws.{no_longer}
use Rattle.plain.proofs.Device.Codes.{Real, reals, behind}
use Rattle.scribe.specs.Scribes.{Inked, InkedPiece, AllInked}

-- A CODE THAT A ROW SPELLS is below 110000 (hex)
four_bytes : {q : List ℕ} → Row q → (b c d e : ℕ) → q ≡ b ∷ c ∷ d ∷ e ∷ [] → (b ≤ 0xF3) ⊎ ((b ≤ 0xF4) × (c ≤ 0x8F))
four_bytes (row1 h) b c d e q = absurd (omega (arith, ap length q))
four_bytes (row2 h i) b c d e q = absurd (omega (arith, ap length q))
four_bytes (row3 h i j) b c d e q = absurd (omega (arith, ap length q))
four_bytes (row4 h i j) b c d e q = absurd (omega (arith, ap length q))
four_bytes (row5 h i j) b c d e q = absurd (omega (arith, ap length q))
four_bytes (row6 h i j) b c d e q = absurd (omega (arith, ap length q))
four_bytes (row7 {b} h i j k) w x y z q = let e : b ≡ w = cc in inl (omega (arith, h.1, e))
four_bytes (row8 {b} h i j k) w x y z q = let e : b ≡ w = cc in inl (omega (arith, h.1, e))
four_bytes (row9 {b} {c} h i j k) w x y z q =
    let e : b ≡ w = cc in
    let g : c ≡ x = cc in
    inr (omega (arith, h.1, e), omega (arith, i.1, g))

pair : (n : ℕ) → n / 64 * 64 + n % 64 ≡ n
pair n = omega arith

real_small : (c : ℕ) → Real c → c < 0x110000
real_small c r =
    case_b (ltb c 0x10000) (λ h. omega (arith, ltb-true c 0x10000 h)) (λ h.
    let l = ltb-false c 0x10000 h in
    let p = pair c in
    let q = pair (c / 64) in
    let s = pair (c / 64 / 64) in
    ⊎_elim (λ x. omega (arith, p, q, s, x)) (λ x. omega (arith, p, q, s, x.0, x.1)) (four_bytes r _ _ _ _ (encode_four c l)))

-- THE FILLS of elements whose codes are such
module _ (q : ℕ) where
  lead_inked : (p : ℕ) (x : Lead) (u : List ℕ) (f : FormatSpec) → f.lead ≡ x → All Real (written_format f u) → Inked (fill_of q p x)
  lead_inked p unaligned u f e a = tt
  lead_inked p (aligned s) u f e a = tt
  lead_inked p (filled c s) u f e a = real_small c (rw e at a).0

  tail_inked : (p n : ℕ) (x : Tail) (u : List ℕ) → All Real (written_tail x u) → Inked (after_place q p n x).fill
  unfolding format_at
  tail_inked p n bare u a = tt
  tail_inked p n (colon (format_spec f) w) u a = lead_inked (p + 1) f.lead (w ++ u) f refl a.1
  tail_inked p n (colon unmodified w) u a = tt
  tail_inked p n (colon (modifier c r) w) u a = tt
  tail_inked p n (colon (free_text r) w) u a = tt

  piece_inked : (p n : ℕ) (e : Element) (u : List ℕ) → All Real (written e u) → InkedPiece (piece_at q p n e)
  unfolding argument_at
  piece_inked p n (run c r) u a = tt
  piece_inked p n (opened r) u a = tt
  piece_inked p n (closed r) u a = tt
  piece_inked p n (placeholder x) u a =
      let v : List ℕ = written_tail x.tail (0x7D ∷ u) in
      let b = behind (written_position x.position []) (x.space ++ v) (rw (position_split x.position (x.space ++ v)) at a.1) in
      tail_inked (tail_at p x) n x.tail (0x7D ∷ u) (behind x.space v b)

  all_inked : (p n : ℕ) (es : List Element) → All Real (written_all es []) → AllInked (pieces_of q p n es)
  unfolding pieces_of
  all_inked p n [] a = tt
  all_inked p n (e ∷ es) a = (
    piece_inked p n e (written_all es []) a,
    all_inked (end_of p e) (past n e) es (behind (written e []) (written_all es []) (rw (split e (written_all es [])) at a)),
  )

-- AN ACCEPTED TEXT within the length limit
module _ {m : Mode} {f : Frame} {t : List ℕ} (a : Accepted m f t) where
  pub accepted_inked : AllInked (pieces t f m)
  accepted_inked =
      let v = well_whole t a.is_utf8 in
      let r = has_reading t f m v a.no_error in
      subst AllInked (sym (its_pieces t f m v r.0 r.1)) (all_inked f.quote 0 0 r.0 (reals a.is_utf8 (written_all r.0 []) r.1.spelled))

  pub accepted_fits : length t ≤ 65535 → Fits 1 (plain_form (said t (pieces t f m)))
  accepted_fits h = omega (arith, no_longer a f, h)
