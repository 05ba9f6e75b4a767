-- No total is large: how many lines a text counts in at most. Rests on Totals, Season and TotalLaws. It stands here and not in specs/, so that the edit
-- of what a text counts in is read.
use Rattle.std.specs.Prelude.{◌≡◌, refl, List, [], ◌∷◌, ◌++◌, ℕ, zero, suc, ◌+◌, ◌*◌, ◌≤◌, length, get_or, replicate}
use Rattle.std.proofs.Common.{sym, ◌∙◌, arith, length-append}
use Rattle.utf8.specs.ChoiceLaws.{pick_elim}
use Rattle.frame.specs.declared.Mode.{Mode}
use Rattle.scan.specs.declared.Count.{Count}
use Rattle.reading.specs.Lists.{gather, pieces, errors}
use Rattle.reading.specs.Answers.{is_broken, frame_for}
use Rattle.reading.specs.declared.ErrorRecord.{ErrorRecord}
use Rattle.reading.specs.declared.Piece.{Piece}
use Rattle.laws.specs.RoomLaws.{few_pieces, few_errors}
use Rattle.seasons.specs.Totals.{star_lines, piece_lines, error_lines, sound_lines, plain, read_lines, counted_in, own, zeros, sums}
use Rattle.seasons.specs.Season.{Short}
use Rattle.seasons.specs.TotalLaws.{added_few, tallied_added, own_length, sums_length, plus_line}

-- NO TOTAL IS LARGE: a piece counts in two lines at most, an error in one, and there are no more of either than bytes
pub star_few : (c : Count) → length (star_lines c) ≤ 1
star_few Count.Implied = omega arith
star_few (Count.Fixed n) = omega arith
star_few (Count.ByName r s) = omega arith
star_few (Count.ByArgument i) = omega arith
star_few (Count.ByStar i) = omega arith

one_few : (p : Piece) → length (piece_lines p) ≤ 2
one_few (Piece.Literal r) = omega arith
one_few (Piece.Placeholder a) = omega (arith, star_few a.spec.precision)

pieces_few : (ps : List Piece) → length (gather piece_lines ps) ≤ 2 * length ps
unfolding gather
pieces_few [] = omega arith
pieces_few (p ∷ ps) = omega (arith, length-append (piece_lines p) (gather piece_lines ps), one_few p, pieces_few ps)

errors_few : (es : List ErrorRecord) → length (gather error_lines es) ≤ length es
unfolding gather
errors_few [] = omega arith
errors_few (e ∷ es) = omega (arith, errors_few es)

sound_few : (es : List ErrorRecord) → length (sound_lines es) ≤ 1
sound_few [] = omega arith
sound_few (e ∷ es) = omega arith

read_few : (t : List ℕ) → length (read_lines t) ≤ 3 * length t + 1
unfolding read_lines
read_few t =
    let f = frame_for t [] plain in
    let ps = pieces t f Mode.Format in
    let es = errors t f Mode.Format in
    omega (
      arith,
      length-append (sound_lines es) (gather piece_lines ps ++ gather error_lines es),
      length-append (gather piece_lines ps) (gather error_lines es),
      sound_few es,
      pieces_few ps,
      errors_few es,
      few_pieces t f Mode.Format,
      few_errors t f Mode.Format,
    )

counted_few : (t : List ℕ) → length (counted_in t) ≤ 3 * length t + 2
unfolding counted_in
counted_few t =
    pick_elim (λ (l : List ℕ). suc (length l) ≤ 3 * length t + 2) (is_broken t) (λ _. omega arith) (λ _. omega (arith, read_few t))

zeros_zero : (n i : ℕ) → ◌≡◌ {A = ℕ} (get_or (replicate n 0) i 0) 0
zeros_zero zero i = refl
zeros_zero (suc n) zero = refl
zeros_zero (suc n) (suc i) = zeros_zero n i

-- a text's own
pub own_few : (t : List ℕ) → length t ≤ 65535 → (i : ℕ) → get_or (own t) i 0 ≤ 0x40000
unfolding own
own_few t h i = rw (tallied_added 0 24 (counted_in t)) (omega (arith, h, counted_few t, added_few 0 zeros (counted_in t) i, zeros_zero 24 i))

-- and a list's
pub sums_few : (ts : List (List ℕ)) → Short ts → (i : ℕ) → get_or (sums ts) i 0 ≤ 0x40000 * length ts
unfolding sums
sums_few [] h i = omega (arith, zeros_zero 24 i)
sums_few (t ∷ ts) h i =
    rw (plus_line (own t) (sums ts) i (own_length t ∙ sym (sums_length ts))) (omega (arith, own_few t h.0 i, sums_few ts h.1 i))
