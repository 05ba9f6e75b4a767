-- Where codes stand in a text, and what the leaves of the reading come to there: a character, whitespace, literal text.
-- Rests on the sizes of grammar's Pieces, and on the laws of characters and runs of `utf8`.
use Rattle.std.specs.Prelude.{◌≡◌, refl, Bool, true, false, ℕ, ◌+◌, ◌<◌, eqb, ltb, length, Some, None}
use Rattle.std.proofs.Math.Path.{ap}
use Rattle.std.proofs.Common.{sym, ◌∙◌, add-zero, add_assoc, arith, eqb-true, lt-ltb}
use mathlib.Core.List.{List, [], ◌∷◌, ◌++◌}
use Rattle.utf8.specs.Choice.{pick}
use Rattle.utf8.specs.ChoiceLaws.{pick_elim}
use Rattle.utf8.specs.Encode.{encode}
use Rattle.utf8.specs.Utf8.{peek_at, char}
use Rattle.utf8.specs.DecodeLaws.{same_code}
use Rattle.utf8.specs.Chars.{Ch, ch, chars_from, take_while, bytes, run_end}
use Rattle.utf8.specs.CharLaws.{peeked, past_end, ended}
use Rattle.frame.specs.Places.{place}
use Rattle.frame.specs.declared.TextPlace.{TextPlace}
use Rattle.letters.specs.Questions.{is_space}
use Rattle.scan.specs.Characters.{spaces_past, is_plain, text_end, sees, is_at, consumed}
use Rattle.scan.specs.declared.Consumed.{Consumed}
use Rattle.grammar.specs.Pieces.{wide, size}
use Rattle.unique.specs.Device.Splits.{Splits}
use Rattle.unique.specs.Device.Runs.{case_b, take_w, drop_w, first, Stops, take_drop}

-- a code takes a byte
pub wide_some : (c : ℕ) → 0 < wide c
unfolding wide encode
wide_some c =
    let P : List ℕ → Type 0 = λ l. 0 < length l in
    pick_elim P (ltb c 0x80) (λ _. omega arith)
    (λ _. pick_elim P (ltb c 0x800) (λ _. omega arith) (λ _. pick_elim P (ltb c 0x10000) (λ _. omega arith) (λ _. omega arith)))

-- an ASCII code takes one
pub ascii : (c : ℕ) → c < 0x80 → wide c ≡ 1
unfolding wide encode pick
ascii c h = rw (lt-ltb c 0x80 h)

pub mark_wide : (c k : ℕ) → k < 0x80 → eqb c k ≡ true → wide c ≡ 1
mark_wide c k l e = ap wide (eqb-true c k e) ∙ ascii k l

-- the codes stand in a text from place i to its end
abbrev pub Stands : List ℕ → ℕ → List ℕ → Type 0
Stands t i [] = i ≡ length t
Stands t i (c ∷ cs) = (peek_at t i ≡ Some (char c (wide c))) × Stands t (i + wide c) cs

pub size_append : (r u : List ℕ) → size (r ++ u) ≡ size r + size u
unfolding size
size_append [] u = omega arith
size_append (c ∷ r) u = omega (arith, size_append r u)

-- they take the bytes that are left
pub stands_size : (t : List ℕ) (i : ℕ) (cs : List ℕ) → Stands t i cs → i + size cs ≡ length t
unfolding size
stands_size t i [] h = omega arith
stands_size t i (c ∷ cs) h = omega (arith, stands_size t (i + wide c) cs h.1)

-- past some of them stand the others
pub stands_past : (t : List ℕ) (i : ℕ) (r u : List ℕ) → Stands t i (r ++ u) → Stands t (i + size r) u
unfolding size
stands_past t i [] u h = rw add-zero h
stands_past t i (c ∷ r) u h = rw (← add_assoc) (stands_past t (i + wide c) r u h.1)

-- where the rest stands tells how many bytes were passed
pub stands_place : (t : List ℕ) (i j : ℕ) (r u : List ℕ) → Stands t i (r ++ u) → Stands t j u → j ≡ i + size r
stands_place t i j r u h k = omega (arith, stands_size t i (r ++ u) h, stands_size t j u k, size_append r u)

-- what is written before codes takes its own bytes and theirs
pub size_split : {w : List ℕ → List ℕ} → Splits w → (u : List ℕ) → size (w u) ≡ size (w []) + size u
size_split {w} s u = ap size (s u) ∙ size_append (w []) u

-- where a part stops, from what stands there
pub part_place : (t : List ℕ) (i j : ℕ) {w : List ℕ → List ℕ} → Splits w → (cs u : List ℕ) → w u ≡ cs → Stands t i cs → Stands t j u →
    j ≡ i + size (w [])
part_place t i j {w} s cs u q h k = stands_place t i j (w []) u (rw (sym (s u) ∙ q) h) k

-- codes that stand at a place are what stands there
pub stands_one : (t : List ℕ) (i : ℕ) (cs ds : List ℕ) → Stands t i cs → Stands t i ds → cs ≡ ds
stands_one t i [] [] h k = refl
stands_one t i [] (d ∷ ds) h k = let p = peeked t i k.0 in absurd (omega arith)
stands_one t i (c ∷ cs) [] h k = let p = peeked t i h.0 in absurd (omega arith)
stands_one t i (c ∷ cs) (d ∷ ds) h k =
    let q : c ≡ d = same_code (sym h.0 ∙ k.0) in
    ap (λ x. x ∷ cs) q ∙ ap (λ l. d ∷ l) (stands_one t (i + wide d) cs ds (rw q at h.1) k.1)

-- AS CHARACTERS
unfoldable pub chars : ℕ → List ℕ → List Ch
chars i [] = []
chars i (c ∷ cs) = ch c i (wide c) ∷ chars (i + wide c) cs

pub stands_chars : (t : List ℕ) (i : ℕ) (cs : List ℕ) → Stands t i cs → chars_from t i ≡ chars i cs
unfolding chars
stands_chars t i [] h = ended t i (past_end t i (omega arith))
stands_chars t i (c ∷ cs) h = (peeked t i h.0).list ∙ ap (λ l. ch c i (wide c) ∷ l) (stands_chars t (i + wide c) cs h.1)

-- RUNS
taken_chars : (p : ℕ → Bool) (i : ℕ) (cs : List ℕ) → take_while p (chars i cs) ≡ chars i (take_w p cs)
unfolding take_while chars take_w pick
taken_chars p i [] = refl
taken_chars p i (c ∷ cs) = case_b (p c) (λ h. cc (taken_chars p (i + wide c) cs)) (λ h. cc)

chars_bytes : (i : ℕ) (cs : List ℕ) → bytes (chars i cs) ≡ size cs
unfolding bytes chars size
chars_bytes i [] = refl
chars_bytes i (c ∷ cs) = ap (λ n. wide c + n) (chars_bytes (i + wide c) cs)

-- the characters of a run
pub run_chars : (p : ℕ → Bool) (t : List ℕ) (i : ℕ) (cs : List ℕ) → Stands t i cs → take_while p (chars_from t i) ≡ chars i (take_w p cs)
run_chars p t i cs h = ap (take_while p) (stands_chars t i cs h) ∙ taken_chars p i cs

-- where a run ends
pub run_place : (p : ℕ → Bool) (t : List ℕ) (i : ℕ) (cs : List ℕ) → Stands t i cs → run_end p t i ≡ i + size (take_w p cs)
unfolding run_end
run_place p t i cs h = ap (λ l. i + bytes l) (run_chars p t i cs h) ∙ ap (λ n. i + n) (chars_bytes i (take_w p cs))

-- what stands there
pub run_left : (p : ℕ → Bool) (t : List ℕ) (i : ℕ) (cs : List ℕ) → Stands t i cs → Stands t (i + size (take_w p cs)) (drop_w p cs)
run_left p t i cs h = stands_past t i (take_w p cs) (drop_w p cs) (rw (take_drop p cs) h)

-- where no code passes there is no run
pub take_none : (p : ℕ → Bool) (cs : List ℕ) → Stops p cs → take_w p cs ≡ []
unfolding take_w
take_none p [] s = refl
take_none p (c ∷ cs) s = cc

pub run_none : (p : ℕ → Bool) (t : List ℕ) (i : ℕ) (cs : List ℕ) → Stands t i cs → Stops p cs → run_end p t i ≡ i
unfolding size
run_none p t i cs h s = run_place p t i cs h ∙ (ap (λ l. i + size l) (take_none p cs s) ∙ add-zero i)

module _ (t : List ℕ) (at : TextPlace) (cs : List ℕ) (h : Stands t at.0 cs) where
  -- literal text
  pub text_place : text_end t at ≡ place (at.0 + size (take_w is_plain cs))
  unfolding text_end
  text_place = ap place (run_place is_plain t at.0 cs h)

  pub text_left : Stands t (text_end t at).0 (drop_w is_plain cs)
  text_left = rw text_place (run_left is_plain t at.0 cs h)

  -- whitespace
  pub spaces_left : Stands t (spaces_past t at).0 (drop_w is_space cs)
  unfolding spaces_past
  spaces_left = rw (run_place is_space t at.0 cs h) (run_left is_space t at.0 cs h)

  pub spaces_none : Stops is_space cs → Stands t (spaces_past t at).0 cs
  unfolding spaces_past
  spaces_none s = rw (run_none is_space t at.0 cs h s) h

-- A CHARACTER
pub stands_end : (t : List ℕ) (i : ℕ) → Stands t i [] → peek_at t i ≡ None
stands_end t i h = past_end t i (omega arith)

module _ (t : List ℕ) (at : TextPlace) where
  pub is_at_lem : (k : ℕ) (cs : List ℕ) → Stands t at.0 cs → is_at t at k ≡ first k cs
  unfolding is_at
  is_at_lem k [] h = cc (stands_end t at.0 h)
  is_at_lem k (c ∷ cs) h = ap (sees k) h.0

  -- an ASCII character is passed where it stands, and else reading stands where it stood
  abbrev pub eaten : Consumed
  eaten = record { ate = true; at = place (at.0 + 1) }

  abbrev pub kept : Consumed
  kept = record { ate = false; at = at }

  pub consume_yes : (k : ℕ) (cs : List ℕ) → Stands t at.0 cs → first k cs ≡ true → consumed t at k ≡ eaten
  unfolding consumed pick
  consume_yes k cs h e = cc (is_at_lem k cs h)

  pub consume_no : (k : ℕ) (cs : List ℕ) → Stands t at.0 cs → first k cs ≡ false → consumed t at k ≡ kept
  unfolding consumed pick
  consume_no k cs h e = cc (is_at_lem k cs h)

-- past an ASCII character stands what follows it
pub past_ascii : (t : List ℕ) (i k c : ℕ) (cs : List ℕ) → k < 0x80 → Stands t i (c ∷ cs) → eqb c k ≡ true → Stands t (i + 1) cs
past_ascii t i k c cs l h e = rw (mark_wide c k l e) at h.1
