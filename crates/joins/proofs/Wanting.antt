-- How many arguments joined pieces want: the larger of what the first's want and what the second's, moved and raised, want.
-- Rests on Joins and on the laws of the figure.
use Rattle.std.specs.Prelude.{◌≡◌, Bool, true, false, List, [], ◌∷◌, map, ℕ, length}
use Rattle.std.proofs.Common.{sym, ap, ◌∙◌}
use Rattle.utf8.specs.Choice.{pick}
use Rattle.frame.specs.Places.{range_of}
use Rattle.frame.specs.declared.TextRange.{TextRange}
use Rattle.reading.specs.Wants.{larger, argument_wants, piece_wants, wants}
use Rattle.reading.specs.declared.Piece.{Piece}
use Rattle.laws.specs.WantLaws.{larger_none, larger_first, larger_assoc}
use Rattle.joins.specs.Joins.{moved, number_of_both, meeting, meet, join}

-- literals want none, merged or not
literals_want : (b : Bool) (r s : TextRange) (ys : List Piece) →
    wants (pick b (Piece.Literal r ∷ Piece.Literal s ∷ ys) (Piece.Literal (range_of r.start s.end) ∷ ys)) ≡ larger (larger 0 0) (larger 0 (wants ys))
unfolding wants pick
literals_want true r s ys = sym (ap (λ (n : ℕ). larger n (larger 0 (wants ys))) (larger_none 0))
literals_want false r s ys = sym (ap (λ (n : ℕ). larger n (larger 0 (wants ys))) (larger_none 0) ∙ larger_first (larger 0 (wants ys)))

-- a last piece, and those that follow
meeting_wants : (b : Bool) (x : Piece) (ys : List Piece) → wants (meeting b x ys) ≡ larger (larger (piece_wants x) 0) (wants ys)
unfolding wants
meeting_wants b x [] = sym (larger_none (larger (piece_wants x) 0))
meeting_wants b (Piece.Placeholder a) (y ∷ ys) = ap (λ (n : ℕ). larger n (wants (y ∷ ys))) (sym (larger_none (argument_wants a)))
meeting_wants b (Piece.Literal r) (Piece.Placeholder c ∷ ys) = ap (λ (n : ℕ). larger n (wants (Piece.Placeholder c ∷ ys))) (sym (larger_none 0))
meeting_wants b (Piece.Literal r) (Piece.Literal s ∷ ys) = literals_want b r s ys

-- and whole lists
meet_wants : (b : Bool) (xs ys : List Piece) → wants (meet b xs ys) ≡ larger (wants xs) (wants ys)
unfolding meet wants
meet_wants b [] ys = sym (larger_first (wants ys))
meet_wants b (x ∷ []) ys = meeting_wants b x ys
meet_wants b (x ∷ y ∷ xs) ys = ap (larger (piece_wants x)) (meet_wants b (y ∷ xs) ys) ∙ sym (larger_assoc (piece_wants x) (wants (y ∷ xs)) (wants ys))

-- THE FIGURE OF A JOIN (R12.9)
pub join_wants : (t u : List ℕ) (ps qs : List Piece) →
    wants (join t u ps qs) ≡ larger (wants ps) (wants (map (moved (length t) (number_of_both ps)) qs))
join_wants t u ps qs = meet_wants _ ps _
