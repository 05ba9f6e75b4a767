-- What a part leaves, where the parts so far are kept. Rests on Parts and Keeping, on `pen`'s laws of laying and on `utf8`'s of the check.
use Rattle.std.specs.Prelude.{ℕ, zero, suc, ◌+◌, ◌≤◌, ◌<◌, ◌≡◌, refl, Bool, true, false, List, [], ◌∷◌, ◌++◌, ltb, length, take}
use Rattle.std.proofs.Common.{sym, ◌∙◌, ap, true≢false, suc-add, zero-add, arith, length-append}
use borrow.Author.Tests.{le-ltb, ltb-true, ltb-false}
use Rattle.utf8.specs.Choice.{pick, either}
use Rattle.utf8.specs.Utf8.{valid, valid_prefix}
use Rattle.utf8.specs.Utf8Laws.{valid_end, valid_join}
use Rattle.pen.specs.Pens.{over}
use Rattle.pen.specs.PenLaws.{over_length}
use Rattle.uploads.specs.declared.Upload.{Upload}
use Rattle.uploads.specs.Parts.{nothing, is_unfit, is_too_much, marked, grown, part_state, part_buffer, held}
use Rattle.uploads.specs.Keeping.{Kept}

-- the bytes up to the end of what was laid: those before it, and it
pub over_joins : (b : List ℕ) (k : ℕ) (p : List ℕ) → k + length p ≤ length b → take (k + length p) (over b k p) ≡ take k b ++ p
unfolding over
over_joins [] zero [] h = refl
over_joins [] zero (c ∷ p) h = absurd (omega arith)
over_joins [] (suc k) p h = absurd (omega arith)
over_joins (x ∷ b) zero [] h = refl
over_joins (x ∷ b) zero (c ∷ p) h = rw (zero-add (suc (length p))) (ap (◌∷◌ c) (rw (zero-add (length p)) at (over_joins b zero p (omega arith))))
over_joins (x ∷ b) (suc k) p h = rw (suc-add k (length p)) (ap (◌∷◌ x) (over_joins b k p (omega arith)))

-- a state fits a buffer, and what that says
pub fit : (u : Upload) (b : List ℕ) → u.count ≤ length b → 65535 ≤ length b → is_unfit u b ≡ false
unfolding is_unfit
fit u b c l = rw (le-ltb (length b) u.count c, le-ltb (length b) 65535 l)

either_left : (x y : Bool) → either x y ≡ false → x ≡ false
either_left true y e = absurd (true≢false e)
either_left false y e = refl

either_right : (x y : Bool) → either x y ≡ false → y ≡ false
either_right true y e = absurd (true≢false e)
either_right false y e = e

module _ (u : Upload) (b : List ℕ) (e : is_unfit u b ≡ false) where
  pub fit_count : u.count ≤ length b
  unfolding is_unfit
  fit_count = ltb-false (length b) u.count (either_left (ltb (length b) u.count) (ltb (length b) 65535) e)

  pub fit_long : 65535 ≤ length b
  unfolding is_unfit
  fit_long = ltb-false (length b) 65535 (either_right (ltb (length b) u.count) (ltb (length b) 65535) e)

-- before the first part
pub kept_none : (b : List ℕ) → 65535 ≤ length b → Kept [] (held nothing b)
unfolding valid_prefix valid
kept_none b l = record {
  fits = fit nothing b (omega arith) l;
  within = λ e. omega arith;
  bytes = λ e. refl;
  count = λ e. refl;
  valid = λ e. refl;
  long = λ e. absurd (true≢false (sym e));
}

-- what a part leaves, by the case
module _ (u : Upload) (b p : List ℕ) (f : is_unfit u b ≡ false) where
  state_over : u.over ≡ true → part_state u b p ≡ marked u
  unfolding part_state pick
  state_over o = rw (f, o)

  buffer_over : u.over ≡ true → part_buffer u b p ≡ b
  unfolding part_buffer pick
  buffer_over o = rw (f, o)

  state_much : u.over ≡ false → is_too_much u p ≡ true → part_state u b p ≡ marked u
  unfolding part_state pick is_too_much
  state_much o m = rw (f, o, m)

  buffer_much : u.over ≡ false → is_too_much u p ≡ true → part_buffer u b p ≡ b
  unfolding part_buffer pick is_too_much
  buffer_much o m = rw (f, o, m)

  state_taken : u.over ≡ false → is_too_much u p ≡ false → part_state u b p ≡ grown u b p
  unfolding part_state pick is_too_much grown
  state_taken o m = rw (f, o, m)

  buffer_taken : u.over ≡ false → is_too_much u p ≡ false → part_buffer u b p ≡ over b u.count p
  unfolding part_buffer pick is_too_much over
  buffer_taken o m = rw (f, o, m)

-- a part after a text that is too long already, or that makes it so
kept_marked : {j : List ℕ} (u : Upload) (b : List ℕ) → is_unfit u b ≡ false → 65535 < length j → Kept j (held (marked u) b)
unfolding is_unfit
kept_marked u b f l = record {
  fits = f;
  within = λ e. absurd (true≢false e);
  bytes = λ e. absurd (true≢false e);
  count = λ e. absurd (true≢false e);
  valid = λ e. absurd (true≢false e);
  long = λ e. l;
}

-- a part that is taken
kept_grown : (j p : List ℕ) (u : Upload) (b : List ℕ) → Kept j (held u b) → u.over ≡ false → u.count + length p ≤ 65535 → Kept (j ++ p) (held (grown u b p) (over b u.count p))
unfolding grown
kept_grown j p u b k o l =
    let room = fit_long u b k.fits in
    let same : take (u.count + length p) (over b u.count p) ≡ j ++ p = over_joins b u.count p (omega arith) ∙ ap (λ (x : List ℕ). x ++ p) (k.bytes o) in
    let joint = length-append j p in
    record {
      fits = fit (grown u b p) (over b u.count p) (rw (over_length b u.count p) (omega arith)) (rw (over_length b u.count p) room);
      within = λ e. omega (arith, k.count o, joint);
      bytes = λ e. same;
      count = λ e. omega (arith, k.count o, joint);
      valid = λ e. ap (λ (x : List ℕ). valid_end x u.valid) same ∙ ap (valid_end (j ++ p)) (k.valid o) ∙ valid_join j p;
      long = λ e. absurd (true≢false (sym e));
    }

-- A PART KEEPS what was kept, and itself
pub kept_part : (j p : List ℕ) (u : Upload) (b : List ℕ) → Kept j (held u b) → Kept (j ++ p) (held (part_state u b p) (part_buffer u b p))
unfolding is_too_much
kept_part j p u b k = go u.over refl (is_too_much u p) refl
  where
    joint : length (j ++ p) ≡ length j + length p
    joint = length-append j p

    go : (x : Bool) → u.over ≡ x → (y : Bool) → is_too_much u p ≡ y → Kept (j ++ p) (held (part_state u b p) (part_buffer u b p))
    go true o y m = rw (state_over u b p k.fits o, buffer_over u b p k.fits o) (kept_marked u b k.fits (omega (arith, joint, k.long o)))
    go false o true m =
        let l = ltb-true 65535 (u.count + length p) m in
        rw (state_much u b p k.fits o m, buffer_much u b p k.fits o m) (kept_marked u b k.fits (omega (arith, joint, l, k.count o)))
    go false o false m =
        rw (state_taken u b p k.fits o m, buffer_taken u b p k.fits o m) (kept_grown j p u b k o (ltb-false 65535 (u.count + length p) m))
