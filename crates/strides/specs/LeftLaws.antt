-- How many characters are left from a place on, and how many continuations stand there before anything else; and that the word at a place is its first
-- character and the continuations behind it, or nothing. Rests on `utf8`'s laws of characters and `scan`'s of what is passed.
use Prim.Native.Nat.{ℕ, suc, ◌+◌, ◌≤◌, ◌<◌}
use Rattle.std.specs.Prelude.{◌≡◌, Bool, T, eqb, Some, None}
use Rattle.std.proofs.Math.Path.{refl, ap}
use Rattle.std.proofs.Common.{sym, ◌∙◌, true≢false, arith, eqb-true}
use Rattle.std.proofs.Math.Bool.{true, false}
use mathlib.Core.List.{List, [], ◌∷◌}
use Rattle.std.proofs.Math.ListN.{length}
use Rattle.utf8.specs.Choice.{pick}
use Rattle.utf8.specs.ChoiceLaws.{pick_elim, not_so}
use Rattle.utf8.specs.Utf8.{peek_at, char}
use Rattle.utf8.specs.Chars.{Ch, chars_from, chars_of, take_while, run_end}
use Rattle.utf8.specs.CharLaws.{peeked, ended, first, none_left, past_end, before_past, run_more, run_stop, run_end_lem}
use Rattle.letters.specs.Questions.{is_start, is_continue, is_space}
use Rattle.letters.specs.QuestionLaws.{among, marks, mark_no_continue, mark_no_start, continue_no_space}
use Rattle.frame.specs.declared.TextPlace.{TextPlace}
use Rattle.scan.specs.Characters.{is_at, spaces_past, is_plain}
use Rattle.scan.specs.Words.{word_end}
use Rattle.scan.specs.ScanLaws.{is_at_seen}
use Rattle.scan.specs.ReachLaws.{reached_then, reached_char, reached_run, reached_left}

-- how many characters are left from a place on
abbrev pub left : List ℕ → ℕ → ℕ
left t i = length (chars_from t i)

-- how many continuations stand at a place
abbrev pub conts : List ℕ → ℕ → ℕ
conts t i = length (take_while is_continue (chars_from t i))

-- how long the word at a place is
abbrev pub word_length : List ℕ → TextPlace → ℕ
word_length t at = length (chars_of t at.0 (word_end t at).0)

-- a run is part of what it runs over, and a test that lets more pass runs no shorter
pub taken_few : (f : ℕ → Bool) (cs : List Ch) → length (take_while f cs) ≤ length cs
unfolding take_while
taken_few f [] = omega arith
taken_few f (c ∷ cs) = pick_elim (λ (l : List Ch). length l ≤ length (c ∷ cs)) _ (λ _. omega (arith, taken_few f cs)) (λ _. omega arith)

taken_more : (f g : ℕ → Bool) → ((c : ℕ) → f c ≡ true → g c ≡ true) → (cs : List Ch) → length (take_while f cs) ≤ length (take_while g cs)
unfolding take_while pick
taken_more f g h [] = omega arith
taken_more f g h (c ∷ cs) =
    pick_elim (λ (l : List Ch). length l ≤ length (pick (g c.code) (c ∷ take_while g cs) [])) _
    (λ y. rw (h c.code y) (omega (arith, taken_more f g h cs))) (λ _. omega arith)

-- a mark is no continuation, so a continuation is no mark
pub continue_no_mark : (c x : ℕ) → is_continue c ≡ true → T (among marks x) → eqb c x ≡ false
continue_no_mark c x y m = not_so (eqb c x) (λ e. true≢false (sym y ∙ ap is_continue (eqb-true c x e) ∙ mark_no_continue x m))

-- and no brace
continue_plain : (c : ℕ) → is_continue c ≡ true → is_plain c ≡ true
unfolding is_plain pick
continue_plain c y = rw (continue_no_mark c 0x7B y tt, continue_no_mark c 0x7D y tt)

module _ (t : List ℕ) where
  -- what a run passes, and what is left where it ends, is what was left
  run_left : (f : ℕ → Bool) (cs : List Ch) (i : ℕ) → chars_from t i ≡ cs → length cs ≡ length (take_while f cs) + left t (run_end f t i)
  unfolding take_while pick
  run_left f [] i e = omega (arith, ap (left t) (run_end_lem f t i (past_end t i (none_left t i e))), ap length e)
  run_left f (c ∷ cs) i e =
      let x = first t i c cs e in
      let p = peeked t i x.seen in
      go (f c.code) refl (run_more f p) (run_stop f p) (run_left f cs (i + c.width) x.rest)
    where
      go : (b : Bool) → f c.code ≡ b → (f c.code ≡ true → run_end f t (i + c.width) ≡ run_end f t i) → (f c.code ≡ false → run_end f t i ≡ i) →
          length cs ≡ length (take_while f cs) + left t (run_end f t (i + c.width)) →
          suc (length cs) ≡ length (pick b (c ∷ take_while f cs) []) + left t (run_end f t i)
      go true y more stop h = omega (arith, h, ap (left t) (more y))
      go false n more stop h = omega (arith, ap (left t) (stop n), ap length e)

  module _ (i : ℕ) where
    -- the continuations are characters that are left
    pub conts_few : conts t i ≤ left t i
    conts_few = taken_few is_continue (chars_from t i)

    -- and no longer a run than that of literal text
    pub text_left : conts t i + left t (run_end is_plain t i) ≤ left t i
    text_left = omega (arith, taken_more is_continue is_plain continue_plain (chars_from t i), run_left is_plain (chars_from t i) i refl)

    -- within the text a character is left
    pub some_left : i < length t → 1 ≤ left t i
    some_left h = go (chars_from t i) refl
      where
        go : (cs : List Ch) → chars_from t i ≡ cs → 1 ≤ length cs
        go [] e = absurd (omega (arith, none_left t i e))
        go (c ∷ cs) e = omega arith

    -- the character that is seen is one of those that are left
    pub char_left : {c w : ℕ} → peek_at t i ≡ Some (char c w) → left t i ≡ 1 + left t (i + w)
    char_left e = omega (arith, ap length (peeked t i e).list)

    -- where it is no continuation none stands there, and so at the end
    pub conts_none : {c w : ℕ} → peek_at t i ≡ Some (char c w) → is_continue c ≡ false → conts t i ≡ 0
    unfolding take_while pick
    conts_none e n = rw ((peeked t i e).list, n)

    pub conts_end : peek_at t i ≡ None → conts t i ≡ 0
    unfolding take_while
    conts_end e = rw (ended t i e)

  module _ (at : TextPlace) where
    -- a mark is no continuation
    pub mark_conts : (x : ℕ) → x < 0x80 → T (among marks x) → is_at t at x ≡ true → conts t at.0 ≡ 0
    mark_conts x l m y = conts_none at.0 (is_at_seen t at x l y) (mark_no_continue x m)

    -- THE WORD is the character that is seen and the continuations behind it, or nothing
    pub word_short : {c w : ℕ} → peek_at t at.0 ≡ Some (char c w) → word_length t at ≤ 1 + conts t (at.0 + w)
    unfolding word_end
    word_short {c} {w} e =
        rw e
        (pick_elim (λ (p : TextPlace). length (chars_of t at.0 p.0) ≤ 1 + conts t (at.0 + w)) (is_start c)
        (λ _.
        let r = reached_then (reached_char at.0 e) (reached_run t is_continue (at.0 + w)) in
        omega (arith, reached_left r, char_left at.0 e, run_left is_continue (chars_from t (at.0 + w)) (at.0 + w) refl))
        (λ _. omega (arith, ap length (before_past t at.0 at.0 (omega arith)))))

    -- and nothing where a mark stands
    pub mark_word : (x : ℕ) → x < 0x80 → T (among marks x) → is_at t at x ≡ true → word_length t at ≡ 0
    unfolding word_end pick
    mark_word x l m y = rw (is_at_seen t at x l y, mark_no_start x m) (ap length (before_past t at.0 at.0 (omega arith)))

    -- WHERE A CONTINUATION STANDS no whitespace is passed, and no mark stands
    module _ {c w : ℕ} (e : peek_at t at.0 ≡ Some (char c w)) (y : is_continue c ≡ true) where
      pub no_spaces : spaces_past t at ≡ at
      unfolding spaces_past
      no_spaces = rw (run_stop is_space (peeked t at.0 e) (continue_no_space c y))

      pub no_mark : (x : ℕ) → T (among marks x) → is_at t at x ≡ false
      unfolding is_at
      no_mark x m = rw e (continue_no_mark c x y m)
