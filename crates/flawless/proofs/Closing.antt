-- A placeholder in which nothing is wrong: how it ends at its closing brace, and what is left where it leaves off. Rests on quick's Parts and Wholes and told's Spoiling.
use Prim.Native.Nat.{ℕ, ◌+◌, ◌≤◌, ◌<◌}
use mathlib.Core.Path.{◌≡◌, refl, sym, ◌∙◌, ap}
use mathlib.Core.Bool.{Bool, true, false, true≢false}
use mathlib.Core.List.{List}
use native.Mathlib.Omega.{arith}
use borrow.Author.Tests.{eqb-true, ne_eqb, le-ltb}
use lib.Dec.{eqb}
use lib.ListN.{length, get_or}
use Rattle.utf8.specs.Choice.{pick, both, within}
use Rattle.utf8.specs.ChoiceLaws.{both_false}
use Rattle.utf8.specs.Chars.{run_end}
use Rattle.letters.specs.Ascii.{ascii_start}
use Rattle.letters.specs.Questions.{is_space}
use Rattle.frame.specs.Places.{place}
use Rattle.scan.specs.Words.{word_end}
use Rattle.quick.specs.declared.PlacePart.{PlacePart}
use Rattle.quick.specs.declared.CountKind.{CountKind}
use Rattle.quick.specs.declared.CountPart.{CountPart}
use Rattle.quick.specs.declared.PlaceholderTold.{PlaceholderTold}
use Rattle.quick.specs.declared.SignHint.{SignHint}
use Rattle.quick.specs.declared.SpecTold.{SpecTold}
use Rattle.quick.specs.PartsTold.{blank_word, raw_word, sign_byte, type_none, TypeKnown, SpecKnown, NoSpec, PlaceEnds}
use Rattle.quick.specs.Tellings.{Tells, Flawless}
use Rattle.scan.specs.AsciiWordLaws.{word_none}
use Rattle.quick.proofs.Bytes.{no_space}
use Rattle.quick.proofs.Parts.{type_named}
use Rattle.quick.proofs.Wholes.{tells, closed_ending, sound_spec, sound_bare}
use Rattle.told.specs.Told.{Put}
use Rattle.flawless.specs.Closed.{is_plain, Ends, SpecEnds}

-- A WORD that is not `_`
pub no_blank : (b at end : ℕ) → (b ≡ 0x5F → end ≡ at + 1 → ⊥) → blank_word b at end ≡ false
unfolding blank_word
no_blank b at end n = go (eqb b 0x5F) refl (eqb end (at + 1)) refl
  where
    go : (x : Bool) → eqb b 0x5F ≡ x → (y : Bool) → eqb end (at + 1) ≡ y → both x y ≡ false
    go false _ y _ = refl
    go true p false _ = refl
    go true p true q = absurd (n (eqb-true b 0x5F p) (eqb-true end (at + 1) q))

-- and a longer word is no raw name's `r`
pub no_raw : (t : List ℕ) (b at end : ℕ) → (end ≡ at + 1 → ⊥) → raw_word t b at end ≡ false
unfolding raw_word
no_raw t b at end n = rw (ne_eqb end (at + 1) n, both_false)

-- AT A CLOSING BRACE no word starts, and there is no type
brace_start : ascii_start 0x7D ≡ false
unfolding ascii_start within
brace_start = refl

brace_sign : sign_byte 0x7D ≡ false
unfolding sign_byte pick
brace_sign = refl

module _ {t : List ℕ} {at : ℕ} (b : get_or t at 0 ≡ 0x7D) where
  pub type_none_lem : at ≤ length t → TypeKnown t at (type_none at)
  type_none_lem h =
      let w : (word_end t (place at)).0 ≡ at = word_none t at {b = 0x7D} (sym b) (omega arith) brace_start in
      rw (le-ltb at at (omega arith), no_blank (get_or t at 0) at at (λ _ q. omega (arith, q))) at (type_named {t = t} {at = at} {end = at} (rw b brace_sign) (sym w) h)

-- no whitespace stands at a byte that is a sign
pub no_gap : (t : List ℕ) (at c : ℕ) → get_or t at 0 ≡ c → 0x20 < c → c < 0x80 → at ≡ run_end is_space t at
no_gap t at c b h l = sym (no_space t at (sym b) h l)

-- A COUNT that is a number, or none, is no name
pub plain_unnamed : {k : CountKind} → is_plain k ≡ true → k ≡ CountKind.Name → ⊥
plain_unnamed y e = true≢false (sym y ∙ ap is_plain e)

pub put_plain : {kind : CountKind} → is_plain kind ≡ true → {k n : ℕ} {ws l l₁ : List ℕ} → Put (kind ≡ CountKind.Name → ⊥) k n ws l l₁ → {told : Type 0} → Put told k n ws l l₁
put_plain y p = record { wrote = λ _. p.wrote (plain_unnamed y); spoilt = p.spoilt }

-- THE PARTS OF A SPEC which ends so: it ends at its closing brace
pub spec_ended : {t : List ℕ} {s : SpecTold} → Ends t s.zero s.from s.width s.typed → SpecEnds t s
spec_ended e = record { wide = e.wide; named = e.named; brace = e.brace }

-- A PLACEHOLDER THAT ENDS AT ITS CLOSING BRACE
module _ {t : List ℕ} {at to : ℕ} {p : PlacePart} (e : PlaceEnds t at p to) (whole : p.blank ≡ false) where
  -- with a spec
  module _ {s : SpecTold} (z : SpecEnds t s) where
    abbrev pub with_spec : PlaceholderTold
    with_spec = record { place = p; to = to; colon = true; spec = s; close = s.typed.end; closed = true; hint = SignHint.Silent; on = s.typed.end + 1 }

    pub spec_tells : get_or t to 0 ≡ 0x3A → SpecKnown t (to + 1) s → Tells t at with_spec
    spec_tells b k = tells e (sound_spec b k (no_gap t s.typed.end 0x7D z.brace (omega arith) (omega arith)) (closed_ending z.brace))

    pub spec_flawless : Flawless with_spec
    spec_flawless = record { closed = refl; placed = whole; wide = z.wide; typed = z.named }

  -- without one
  module _ {s : SpecTold} (z : NoSpec to s) (b : get_or t to 0 ≡ 0x7D) where
    abbrev pub without : PlaceholderTold
    without = record { place = p; to = to; colon = false; spec = s; close = to; closed = true; hint = SignHint.Silent; on = to + 1 }

    pub bare_tells : Tells t at without
    bare_tells = tells e (sound_bare (λ q. omega (arith, b, q)) z e (closed_ending b))

    pub bare_flawless : Flawless without
    bare_flawless = record { closed = refl; placed = whole; wide = ap (λ (w : CountPart). w.blank) z.wide; typed = z.typed }
