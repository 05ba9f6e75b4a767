-- Readings joined are a reading of the joined bytes. Rests on Elements, and on unique's Splits.
use Rattle.std.specs.Prelude.{◌≡◌, refl, ◌⊎◌, List, [], ◌∷◌, ◌++◌, ℕ}
use Rattle.std.proofs.Common.{ap, sym, subst, ◌∙◌, inl, inr, ⊎_elim, append_assoc}
use Rattle.utf8.specs.Choice.{pick}
use Rattle.utf8.specs.Encode.{encode}
use Rattle.utf8.specs.Table37.{WellFormed, none, more}
use Rattle.frame.specs.declared.Mode.{Mode}
use Rattle.grammar.specs.Grammar.{Alignment, left, right, center, align_char, Element, run, opened, closed, placeholder, written_position, written_tail, written, written_all, utf8, Reading}
use Rattle.unique.specs.Device.Splits.{Splits, both, codes, code, position_split, tail_split, split}
use Rattle.joins.specs.Joins.{EndsInColon, StartsWithAlign, Premise}
use Rattle.joins.proofs.Device.Elements.{joined, Blank, Apart, joined_written, joined_fits}

-- WELL-FORMED BYTES, joined
pub well_append : {q r : List ℕ} → WellFormed q → WellFormed r → WellFormed (q ++ r)
well_append none w = w
well_append {r = r} (more {q} {r = s} x v) w = subst WellFormed (sym (append_assoc q s r)) (more x (well_append v w))

-- THE BYTES OF CODES, joined
pub utf8_append : (cs ds : List ℕ) → utf8 (cs ++ ds) ≡ utf8 cs ++ utf8 ds
unfolding utf8
utf8_append [] ds = refl
utf8_append (c ∷ cs) ds = ap (λ l. encode c ++ l) (utf8_append cs ds) ∙ sym (append_assoc (encode c) (utf8 cs) (utf8 ds))

pub all_split : (es : List Element) → Splits (written_all es)
all_split [] = λ t. refl
all_split (e ∷ es) = both (split e) (all_split es)

-- THE PREMISE, of bytes and of elements
align_byte_lem : (x : Alignment) (v : List ℕ) → utf8 (align_char x ∷ v) ≡ align_char x ∷ utf8 v
unfolding utf8 encode pick
align_byte_lem left v = refl
align_byte_lem right v = refl
align_byte_lem center v = refl

align_first : (x : Alignment) (v : List ℕ) → StartsWithAlign (align_char x ∷ v)
align_first left v = inl refl
align_first right v = inr (inl refl)
align_first center v = inr (inr refl)

starts : (x : Alignment) (v u : List ℕ) → u ≡ align_char x ∷ v → StartsWithAlign u
starts x v u e = subst StartsWithAlign (sym e) (align_first x v)

ends_byte_lem : utf8 (0x3A ∷ 0x7D ∷ []) ≡ 0x3A ∷ 0x7D ∷ []
unfolding utf8 encode pick
ends_byte_lem = refl

-- a placeholder with a blank spec ends in `:}`
blank_ends : (e : Element) → Blank Mode.Format e → (u : List ℕ) × (written e [] ≡ u ++ (0x3A ∷ 0x7D ∷ []))
blank_ends (run c r) z = absurd z
blank_ends (opened r) z = absurd z
blank_ends (closed r) z = absurd z
blank_ends (placeholder a) z =
    let s = both (code 0x7B) (both (position_split a.position) (codes a.space)) in
    let q : written_tail a.tail (0x7D ∷ []) ≡ 0x3A ∷ 0x7D ∷ [] = tail_split a.tail (0x7D ∷ []) ∙ ap (λ l. l ++ (0x7D ∷ [])) z in
    (0x7B ∷ written_position a.position (a.space ++ []), ap (λ l. 0x7B ∷ written_position a.position (a.space ++ l)) q ∙ s (0x3A ∷ 0x7D ∷ []))

abbrev AlignFirst : List ℕ → Type 0
AlignFirst w = (x : Alignment) × (v : List ℕ) × (w ≡ align_char x ∷ v)

apart_codes : (es : List Element) (w : List ℕ) → (¬ EndsInColon (written_all es [])) ⊎ (¬ AlignFirst w) → Apart Mode.Format es w
apart_codes [] w p = tt
apart_codes (e ∷ []) w p = λ x v i z. ⊎_elim (λ n. n (blank_ends e z)) (λ n. n (x, v, i)) p
apart_codes (e ∷ g ∷ es) w p =
    apart_codes (g ∷ es) w
    (⊎_elim
    (λ n. inl (λ k.
    let r : List ℕ = written_all (g ∷ es) [] in
    n (written e [] ++ k.0, split e r ∙ (ap (λ l. written e [] ++ l) k.1 ∙ sym (append_assoc (written e []) k.0 (0x3A ∷ 0x7D ∷ []))))))
    (λ n. inr n) p)

-- where no Format spec is, none is blank
blank_none : (m : Mode) → ((e : Element) → Blank m e → ⊥) → (es : List Element) (w : List ℕ) → Apart m es w
blank_none m b [] w = tt
blank_none m b (e ∷ []) w = λ x v i z. b e z
blank_none m b (e ∷ g ∷ es) w = blank_none m b (g ∷ es) w

never_asm : (e : Element) → Blank Mode.InlineAsm e → ⊥
never_asm (run c r) z = z
never_asm (opened r) z = z
never_asm (closed r) z = z
never_asm (placeholder a) z = z

never_diagnostic : (e : Element) → Blank Mode.Diagnostic e → ⊥
never_diagnostic (run c r) z = z
never_diagnostic (opened r) z = z
never_diagnostic (closed r) z = z
never_diagnostic (placeholder a) z = z

module _ (a b : List ℕ) (es fs : List Element) where
  apart : (m : Mode) → Reading m a es → Reading m b fs → Premise m a b → Apart m es (written_all fs [])
  apart Mode.Format r s p =
      apart_codes es (written_all fs [])
      (⊎_elim
      (λ n. inl (λ k. n (utf8 k.0, sym r.spelled ∙ (ap utf8 k.1 ∙ (utf8_append k.0 (0x3A ∷ 0x7D ∷ []) ∙ ap (λ l. utf8 k.0 ++ l) ends_byte_lem)))))
      (λ n. inr (λ k. n (starts k.0 (utf8 k.1) b (sym s.spelled ∙ (ap utf8 k.2 ∙ align_byte_lem k.0 k.1))))) p)
  apart Mode.InlineAsm r s p = blank_none Mode.InlineAsm never_asm es (written_all fs [])
  apart Mode.Diagnostic r s p = blank_none Mode.Diagnostic never_diagnostic es (written_all fs [])

  -- THE JOINED READING
  pub joined_reading : (m : Mode) → Reading m a es → Reading m b fs → Premise m a b → Reading m (a ++ b) (joined es fs)
  joined_reading m r s p =
      record {
        fits = joined_fits m es fs (apart m r s p) r.fits s.fits;
        spelled =
            ap utf8 (joined_written es fs [] ∙ all_split es (written_all fs []))
            ∙ (utf8_append (written_all es []) (written_all fs []) ∙ (ap (λ l. l ++ utf8 (written_all fs [])) r.spelled ∙ ap (λ l. a ++ l) s.spelled));
      }
