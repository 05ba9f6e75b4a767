-- Where a closing brace is missing, the byte that stands there tells what `closing` says of it and where reading goes on, unless it is a `?` or a `.`.
-- Rests on Bytes and on `closing`'s definition of recovery.
use Prim.Native.Nat.{ℕ, ◌+◌, ◌≤◌, ◌<◌}
use mathlib.Core.Path.{◌≡◌, refl, ◌∙◌}
use mathlib.Core.Bool.{Bool, true, false}
use mathlib.Core.List.{List}
use native.Mathlib.Omega.{arith}
use borrow.Author.Tests.{eqb-true, ltb-true, ltb-false, leb-true, leb-false, ne_eqb, lt-ltb, le-ltb}
use lib.Dec.{eqb, ltb, leb}
use lib.ListN.{length, get_or}
use Rattle.utf8.specs.Choice.{pick, both}
use Rattle.utf8.specs.ChoiceLaws.{pick_elim}
use Rattle.utf8.specs.CharLaws.{ascii_char}
use Rattle.frame.specs.Places.{place}
use Rattle.frame.specs.declared.Frame.{Frame}
use Rattle.frame.specs.declared.TextPlace.{TextPlace}
use Rattle.scan.specs.Characters.{is_at, past_at}
use Rattle.scan.specs.ScanLaws.{past_on, past_some}
use Rattle.frame.specs.declared.Mode.{Mode}
use Rattle.closing.specs.Recovery.{passed_to, field_read, recover_read}
use Rattle.closing.specs.Recovering.{sign_hint, is_silent, recovering, recover_table}
use Rattle.closing.specs.declared.recover.Hint.{Hint}
use Rattle.closing.specs.declared.recover.Recovery.{Recovery}
use Rattle.quick.specs.declared.SignHint.{SignHint}
use Rattle.quick.specs.Tellings.{placed_hint}
use Rattle.quick.specs.PartsTold.{align_byte, hint_of, past_hint}
use Rattle.quick.proofs.Bytes.{at_byte, align_byte_lem, lacks}

-- what is said of the sign at a byte, where two characters remain
abbrev sign_at : List ℕ → ℕ → SignHint
sign_at t at =
    pick (align_byte (get_or t at 0)) SignHint.Misplaced
    (pick (eqb (get_or t at 0) 0x2C) SignHint.Comma
    (pick (eqb (get_or t at 0) 0x2B) SignHint.Plus
    (pick (both (eqb (get_or t at 0) 0x3D) (eqb (get_or t (at + 1) 0) 0x7D)) SignHint.Equals SignHint.Silent)))

module _ (t : List ℕ) (at : ℕ) where
  -- of a closing brace nothing is said
  pub brace_silent : get_or t at 0 ≡ 0x7D → SignHint.Silent ≡ hint_of t at
  unfolding hint_of align_byte pick
  brace_silent e =
      rw e (pick_elim (λ (h : SignHint). SignHint.Silent ≡ h) (leb (length t) (at + 1)) (λ _. refl) (λ _. refl))

  -- at the last byte, and past it, no second character remains
  last : length t ≤ at + 1 → ltb (past_at t (place at)).0 (length t) ≡ false
  last h = le-ltb (past_at t (place at)).0 (length t) (go (ltb at (length t)) refl)
    where
      go : (x : Bool) → ltb at (length t) ≡ x → length t ≤ (past_at t (place at)).0
      go true e = omega (arith, past_some t (place at) (ltb-true at (length t) e))
      go false e = omega (arith, past_on t (place at), ltb-false at (length t) e)

  -- an ASCII character is one byte
  pub past_byte : at < length t → get_or t at 0 < 0x80 → past_at t (place at) ≡ place (at + 1)
  unfolding past_at
  past_byte h l = rw (ascii_char t at h l)

  -- no other is a sign
  high_silent : 0x80 ≤ get_or t at 0 → sign_at t at ≡ SignHint.Silent
  unfolding align_byte pick
  high_silent h =
      rw (
        ne_eqb (get_or t at 0) 0x3C (omega arith),
        ne_eqb (get_or t at 0) 0x3E (omega arith),
        ne_eqb (get_or t at 0) 0x5E (omega arith),
        ne_eqb (get_or t at 0) 0x2C (omega arith),
        ne_eqb (get_or t at 0) 0x2B (omega arith),
        ne_eqb (get_or t at 0) 0x3D (omega arith),
      )

  -- the bytes tell the sign
  sign_told : (past : TextPlace) → (get_or t at 0 ≡ 0x3D → past ≡ place (at + 1)) →
      sign_hint t (place at) past ≡ placed_hint (sign_at t at) (place at)
  unfolding sign_hint pick
  sign_told past e =
      rw (
        align_byte_lem t at,
        at_byte t at 0x2C (omega arith) (omega arith),
        at_byte t at 0x2B (omega arith) (omega arith),
        at_byte t at 0x3D (omega arith) (omega arith),
        equals (eqb (get_or t at 0) 0x3D) refl,
      )
      (go (align_byte (get_or t at 0)) (eqb (get_or t at 0) 0x2C) (eqb (get_or t at 0) 0x2B)
      (both (eqb (get_or t at 0) 0x3D) (eqb (get_or t (at + 1) 0) 0x7D)))
    where
      equals : (x : Bool) → eqb (get_or t at 0) 0x3D ≡ x → both x (is_at t past 0x7D) ≡ both x (eqb (get_or t (at + 1) 0) 0x7D)
      equals true y = rw (e (eqb-true (get_or t at 0) 0x3D y)) (at_byte t (at + 1) 0x7D (omega arith) (omega arith))
      equals false y = refl

      go : (x y z w : Bool) →
          pick x (Hint.Misplaced (place at)) (pick y (Hint.Comma (place at)) (pick z (Hint.PlusFirst (place at)) (pick w (Hint.Equals (place at)) Hint.Silent))) ≡
          placed_hint (pick x SignHint.Misplaced (pick y SignHint.Comma (pick z SignHint.Plus (pick w SignHint.Equals SignHint.Silent)))) (place at)
      go true y z w = refl
      go false true z w = refl
      go false false true w = refl
      go false false false true = refl
      go false false false false = refl

  -- of a sign something is said and it is passed; else reading stays, after a name too where no field follows
  said : (h : SignHint) (i : Bool) (n : ℕ) {r : Recovery} → r ≡ passed_to (place at) n Hint.Silent →
      pick (is_silent (placed_hint h (place at))) (pick i r (passed_to (place at) n Hint.Silent))
      (passed_to (place (at + 1)) n (placed_hint h (place at))) ≡
      passed_to (place (past_hint h at)) n (placed_hint h (place at))
  unfolding pick
  said SignHint.Silent true n e = e
  said SignHint.Silent false n e = refl
  said SignHint.Misplaced i n e = refl
  said SignHint.Comma i n e = refl
  said SignHint.Plus i n e = refl
  said SignHint.Equals i n e = refl

  module _ (f : Frame) (m : Mode) (from : TextPlace) (i : Bool) (n : ℕ) (question : get_or t at 0 ≡ 0x3F → ⊥) (dot : get_or t at 0 ≡ 0x2E → ⊥) where
    -- without a dot there is no field
    no_field : field_read t f m from (place at) n ≡ passed_to (place at) n Hint.Silent
    unfolding field_read pick
    no_field = rw (lacks t at 0x2E (omega arith) (omega arith) dot)

    -- WHAT IS TOLD OF A MISSING BRACE IS WHAT IS SAID
    pub recover_told : recover_read t f m from i (place at) n ≡ passed_to (place (past_hint (hint_of t at) at)) n (placed_hint (hint_of t at) (place at))
    unfolding recovering hint_of pick
    recover_told =
        recover_table t f m from i (place at) n ∙
        go (leb (length t) (at + 1)) refl (ltb (get_or t at 0) 0x80) refl
      where
        go : (x : Bool) → leb (length t) (at + 1) ≡ x → (y : Bool) → ltb (get_or t at 0) 0x80 ≡ y →
            recovering t f m from i (place at) n ≡
            passed_to (place (past_hint (pick x SignHint.Silent (sign_at t at)) at)) n (placed_hint (pick x SignHint.Silent (sign_at t at)) (place at))
        go true e y d = rw (last (leb-true (length t) (at + 1) e))
        go false e true d =
            let h = leb-false (length t) (at + 1) e in
            rw (
              past_byte (omega arith) (ltb-true (get_or t at 0) 0x80 d),
              lt-ltb (at + 1) (length t) (omega arith),
              at_byte t at 0x3F (omega arith) (omega arith),
              ne_eqb (get_or t at 0) 0x3F question,
              sign_told (place (at + 1)) (λ _. refl),
            )
            (said (sign_at t at) i n no_field)
        go false e false d =
            let h = ltb-false (get_or t at 0) 0x80 d in
            rw (
              at_byte t at 0x3F (omega arith) (omega arith),
              ne_eqb (get_or t at 0) 0x3F question,
              sign_told (past_at t (place at)) (λ q. absurd (omega arith)),
              high_silent h,
            )
            (pick_elim (λ (r : Recovery). r ≡ passed_to (place at) n Hint.Silent) (ltb (past_at t (place at)).0 (length t))
            (λ _. said SignHint.Silent i n no_field) (λ _. refl))

-- there reading is within the text
pub hint_in : (t : List ℕ) (at : ℕ) → at ≤ length t → past_hint (hint_of t at) at ≤ length t
unfolding hint_of
hint_in t at h =
    pick_elim (λ (x : SignHint). past_hint x at ≤ length t) (leb (length t) (at + 1)) (λ _. h) (λ n. go (sign_at t at) (leb-false (length t) (at + 1) n))
  where
    go : (x : SignHint) → at + 1 < length t → past_hint x at ≤ length t
    go SignHint.Silent l = h
    go SignHint.Misplaced l = omega arith
    go SignHint.Comma l = omega arith
    go SignHint.Plus l = omega arith
    go SignHint.Equals l = omega arith
