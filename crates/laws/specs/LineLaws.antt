-- Laws of lines: lines, newlines and line starts over joined text.
-- Rests on Lines and on `utf8`'s laws of characters.
use Prim.Native.Nat.{ℕ, suc, ◌+◌, ◌<◌}
use Rattle.std.specs.Prelude.{◌≡◌, Bool, true, false, Some}
use Rattle.std.proofs.Math.Path.{refl}
use Rattle.std.proofs.Common.{ap, arith}
use mathlib.Core.List.{List, [], ◌∷◌, ◌++◌}
use borrow.Author.Tests.{eq-eqb, ne_eqb}
use Rattle.std.proofs.Math.ListN.{length}
use Rattle.utf8.specs.Choice.{pick}
use Rattle.utf8.specs.Utf8.{peek_at, char}
use Rattle.utf8.specs.Chars.{Ch, chars_from, before}
use Rattle.utf8.specs.CharLaws.{before_more}
use Rattle.frame.specs.Places.{span_of}
use Rattle.frame.specs.declared.SnippetPlace.{SnippetPlace}
use Rattle.frame.specs.declared.Frame.{Frame}
use Rattle.reading.specs.Lines.{is_newline, newlines, ch_start, line_after, ended_lines, line_start}

-- what holds whether a test holds or not
pub by_test : (P : Bool → Type 0) → P true → P false → (b : Bool) → P b
by_test P holds fails true = holds
by_test P holds fails false = fails

-- newlines, one character at a time
pub newlines_more : (c : Ch) (cs : List Ch) → newlines (c ∷ cs) ≡ pick (is_newline c) 1 0 + newlines cs
unfolding newlines pick
newlines_more c cs =
    by_test (λ b. pick b (suc (newlines cs)) (newlines cs) ≡ pick b 1 0 + newlines cs) (omega arith) (omega arith) (is_newline c)

module _ (t : List ℕ) (e i : ℕ) {c w : ℕ} (l : i < e) (p : peek_at t i ≡ Some (char c w)) where
  -- a newline that is seen before byte e counts
  pub newlines_one : c ≡ 0x0A → newlines (before e (chars_from t i)) ≡ newlines (before e (chars_from t (i + w))) + 1
  unfolding newlines pick
  newlines_one y = rw (before_more t e i l p, eq-eqb c 0x0A y) (omega arith)

  -- any other character does not
  pub newlines_other : (c ≡ 0x0A → ⊥) → newlines (before e (chars_from t i)) ≡ newlines (before e (chars_from t (i + w)))
  unfolding newlines pick
  newlines_other n = rw (before_more t e i l p, ne_eqb c 0x0A n)

-- the newlines of joined text
pub newlines_append : (a b : List Ch) → newlines (a ++ b) ≡ newlines a + newlines b
unfolding newlines
newlines_append [] b = omega arith
newlines_append (c ∷ a) b = omega (arith, newlines_more c (a ++ b), newlines_more c a, newlines_append a b)

module _ (f : Frame) where
  -- each newline ends a line
  pub ended_length : (line : SnippetPlace) (cs : List Ch) → length (ended_lines f line cs) ≡ newlines cs
  unfolding newlines ended_lines pick
  ended_length line [] = refl
  ended_length line (c ∷ cs) =
      let more = ended_lines f (line_after f line c) cs in
      let same = ended_length (line_after f line c) cs in
      by_test (λ b. length (pick b (span_of line (ch_start f c) ∷ more) more) ≡ pick b (suc (newlines cs)) (newlines cs)) (ap suc same) same (is_newline c)

  -- the lines of joined text
  pub ended_append : (line : SnippetPlace) (a b : List Ch) → ended_lines f line (a ++ b) ≡ ended_lines f line a ++ ended_lines f (line_start f line a) b
  unfolding ended_lines line_start pick
  ended_append line [] b = refl
  ended_append line (c ∷ a) b =
      let next = line_after f line c in
      let one = span_of line (ch_start f c) in
      let same = ended_append next a b in
      by_test
      (λ d.
      pick d (one ∷ ended_lines f next (a ++ b)) (ended_lines f next (a ++ b)) ≡
      pick d (one ∷ ended_lines f next a) (ended_lines f next a) ++ ended_lines f (line_start f next a) b)
      (ap (◌∷◌ one) same) same (is_newline c)

  -- where the line after joined text starts
  pub start_append : (line : SnippetPlace) (a b : List Ch) → line_start f line (a ++ b) ≡ line_start f (line_start f line a) b
  unfolding line_start
  start_append line [] b = refl
  start_append line (c ∷ a) b = start_append (line_after f line c) a b
