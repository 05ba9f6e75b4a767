-- The finish of parts that are kept answers what one call on the joined text answers. Rests on Finishes, Keeping and the answer as it is decided.
use Rattle.std.specs.Prelude.{ℕ, ◌<◌, ◌≡◌, refl, Bool, true, false, List, ltb, eqb, length}
use Rattle.std.proofs.Math.Path.{sym}
use Rattle.std.proofs.Common.{◌∙◌, ap, true≢false, lt-ltb, eqb-true}
use Rattle.utf8.specs.Choice.{pick}
use Rattle.utf8.specs.Utf8.{valid_prefix}
use Rattle.reading.specs.Answers.{is_styled, is_long, is_broken, lacks_newline, answer_of}
use Rattle.reading.specs.Exits.{at_exit}
use Rattle.reading.specs.Written.{over}
use Rattle.laws.specs.Deciding.{refused_as, early_number, late_answer, counted_answer, answer_decided, answer_passed}
use Rattle.reading.specs.declared.Answer.{Answer}
use Rattle.reading.specs.declared.Request.{Request}
use Rattle.reading.specs.declared.Rooms.{Rooms}
use Rattle.uploads.specs.declared.Upload.{Upload}
use Rattle.uploads.specs.Parts.{is_unfit, held}
use Rattle.uploads.specs.Finishes.{taken, unless_carried, finish_answer}
use Rattle.uploads.specs.Keeping.{Kept}

-- what a finish that fits answers
fitting : (u : Upload) (b s : List ℕ) (q : Request) (r : Rooms) → is_unfit u b ≡ false → finish_answer u b s q r ≡ unless_carried u (taken u b) s q (counted_answer (taken u b) s q r)
unfolding finish_answer pick
fitting u b s q r f = rw f

-- the order of the tests, whatever they say
in_order : (mode styled long broken lacks : Bool) (prefix : ℕ) (a : Answer) →
    let early : ℕ = pick mode 1 (pick styled (pick long 3 0) 2) in
    pick (eqb early 0) (pick broken (refused_as 4 prefix) (pick lacks (refused_as 5 0) a)) (refused_as early 0) ≡
    pick mode (refused_as 1 0) (pick styled (pick long (refused_as 3 0) (pick broken (refused_as 4 prefix) (pick lacks (refused_as 5 0) a))) (refused_as 2 0))
unfolding pick
in_order true styled long broken lacks prefix a = refl
in_order false false long broken lacks prefix a = refl
in_order false true true broken lacks prefix a = refl
in_order false true false broken lacks prefix a = refl

-- a text that is too long is refused by 1, 2 or 3, whatever it is
long_only : (mode styled broken lacks : Bool) (prefix : ℕ) (a x : Answer) →
    let early : ℕ = pick mode 1 (pick styled (pick true 3 0) 2) in
    pick (eqb early 0) x (refused_as early 0) ≡
    pick mode (refused_as 1 0) (pick styled (pick true (refused_as 3 0) (pick broken (refused_as 4 prefix) (pick lacks (refused_as 5 0) a))) (refused_as 2 0))
unfolding pick
long_only true styled broken lacks prefix a x = refl
long_only false true broken lacks prefix a x = refl
long_only false false broken lacks prefix a x = refl

is_long_lem : (j : List ℕ) (given : Bool) (s : List ℕ) → 65535 < length j → is_long j given s ≡ true
unfolding is_long pick
is_long_lem j given s l = rw (lt-ltb 65535 (length j) l)

module _ (j : List ℕ) (u : Upload) (b s : List ℕ) (q : Request) (r : Rooms) (k : Kept j (held u b)) where
  -- every byte is in the buffer
  within_limit : u.over ≡ false → finish_answer u b s q r ≡ answer_of j s q r
  unfolding early_number late_answer is_broken
  within_limit o =
      fitting u b s q r k.fits ∙
      rw (o, k.bytes o, k.valid o) (in_order (ltb 2 q.mode) (is_styled q.style q.given) (is_long j q.given s) (is_broken j) (lacks_newline j q.newline) (valid_prefix j) (counted_answer j s q r)) ∙
      sym (answer_decided j s q r)

  -- a part was left out
  past_limit : u.over ≡ true → finish_answer u b s q r ≡ answer_of j s q r
  unfolding early_number
  past_limit o =
      let x = late_answer u.valid (taken u b) q (counted_answer (taken u b) s q r) in
      fitting u b s q r k.fits ∙
      rw (o, is_long_lem j q.given s (k.long o)) (long_only (ltb 2 q.mode) (is_styled q.style q.given) (is_broken j) (lacks_newline j q.newline) (valid_prefix j) (counted_answer j s q r) x) ∙
      sym (answer_decided j s q r)

  pub same_answer : finish_answer u b s q r ≡ answer_of j s q r
  same_answer = go u.over refl
    where
      go : (x : Bool) → u.over ≡ x → finish_answer u b s q r ≡ answer_of j s q r
      go true o = past_limit o
      go false o = within_limit o

  -- and where it is 0 the text that is read is the joined text
  pub same_text : (answer_of j s q r).number ≡ 0 → taken u b ≡ j
  same_text z = go u.over refl
    where
      go : (x : Bool) → u.over ≡ x → taken u b ≡ j
      go true o = absurd (true≢false (sym (is_long_lem j q.given s (k.long o)) ∙ (answer_passed j s q r z).short))
      go false o = k.bytes o

-- a list at exit, of two texts that are the same where the number is 0
pub same_exit : {A : Type 0} (n : ℕ) {a b : List A} (old : List A) → (n ≡ 0 → a ≡ b) → at_exit n a old ≡ at_exit n b old
unfolding at_exit pick
same_exit n {a} {b} old f = go (eqb n 0) refl
  where
    go : (x : Bool) → eqb n 0 ≡ x → pick x (over a old) old ≡ pick x (over b old) old
    go true e = ap (λ new. over new old) (f (eqb-true n 0 e))
    go false e = refl
