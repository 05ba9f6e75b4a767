-- What a part comes to, by its two tests: refused, left out, or taken. Rests on Parts.
use Prim.Native.Nat.{ℕ, ◌+◌, ◌-◌, ◌≤◌}
use mathlib.Core.Path.{◌≡◌, refl, ◌∙◌, ap}
use mathlib.Core.Bool.{Bool, true, false, true≢false}
use mathlib.Core.List.{List}
use native.Mathlib.Omega.{arith}
use borrow.Author.Tests.{ltb-false}
use lib.Dec.{ltb}
use lib.ListN.{length, take}
use lib.Seq.{take_all}
use Rattle.utf8.specs.Choice.{pick, either}
use Rattle.utf8.specs.Utf8Laws.{valid_end}
use Rattle.frame.specs.Places.{place, range_of}
use Rattle.pen.specs.Pens.{over, text_of, Laid}
use Rattle.pen.specs.PenLaws.{over_length}
use Rattle.uploads.specs.Parts.{is_unfit, is_too_much, marked, grown, part_number, part_state, part_buffer, Part}
use Rattle.uploads.proofs.PartLaws.{fit_long}
use Rattle.uploads.specs.declared.Upload.{Upload}
use Rattle.uploads.specs.declared.Taken.{Taken}

abbrev answer : ℕ → Upload → Taken
answer number state = record { number = number; state = state }

-- the whole of a part is the part
pub whole : (p : List ℕ) → text_of p (range_of (place 0) (place (length p))) ≡ p
whole p = take_all (length p - 0) p (omega arith)

module _ (u : Upload) (b p : List ℕ) where
  pub refused : is_unfit u b ≡ true → Part u b b p (answer 16 u)
  unfolding part_number part_state part_buffer pick
  refused f = record { number = rw f; state = rw f; buffer = rw f }

  module _ (f : is_unfit u b ≡ false) where
    pub left_out : either u.over (is_too_much u p) ≡ true → Part u b b p (answer 0 (marked u))
    unfolding part_number part_state part_buffer pick
    left_out o = record { number = rw f; state = rw (f, o); buffer = rw (f, o) }

    module _ (o : either u.over (is_too_much u p) ≡ false) where
      -- it ends by the limit, so within the buffer
      pub short : u.count + length p ≤ 65535
      unfolding is_too_much
      short = go u.over o
        where
          go : (x : Bool) → either x (ltb 65535 (u.count + length p)) ≡ false → u.count + length p ≤ 65535
          go true e = absurd (true≢false e)
          go false e = ltb-false 65535 (u.count + length p) e

      module _ {n : ℕ} {b' : List ℕ} (l : Laid b u.count (text_of p (range_of (place 0) (place (length p)))) n b') where
        ends : n ≡ u.count + length p
        ends = l.place ∙ ap (λ (x : List ℕ). u.count + length x) (whole p)

        bytes : b' ≡ over b u.count p
        bytes = l.bytes ∙ ap (over b u.count) (whole p)

        pub room : n ≤ length b'
        room = omega (arith, ends, short, fit_long u b f, ap length bytes ∙ over_length b u.count p)

        pub took : {v : ℕ} → v ≡ valid_end (take n b') u.valid → Part u b b' p (answer 0 (record { count = n; valid = v; over = false }))
        unfolding part_number part_state part_buffer grown pick
        took {v} e = record { number = rw f; state = rw (f, o) same; buffer = bytes ∙ rw (f, o) refl }
          where
            same : record { count = n; valid = v; over = false } ≡ grown u b p
            same = λ i. record { count = ends i; valid = (e ∙ ap (λ (x : List ℕ). valid_end (take n x) u.valid) bytes ∙ ap (λ (k : ℕ). valid_end (take k (over b u.count p)) u.valid) ends) i; over = false }
