-- The lines of a record in full: beside each function of `src`, the bytes that it writes.
use Rattle.std.specs.Prelude.{ℕ, Bool, true, false, List, [], ◌∷◌, ◌++◌, codes, decimal}
use Rattle.std.specs.List.{concat}
use Rattle.placeholder.specs.declared.Argument.{Argument}
use Rattle.reading.specs.declared.ErrorRecord.{ErrorRecord}
use Rattle.reading.specs.declared.Piece.{Piece}
use Rattle.listing.specs.Shapes.{shaped}
use Rattle.listing.specs.Parts.{range_ends, ends_listed, span_listed, range_listed, place_listed, spec_listed, or_dash}

-- what stands behind an argument's place: in full where the place stands, and its spec
abbrev pub details : Bool → Argument → List ℕ
details true a = codes " span " ++ (span_listed a.placespan ++ (codes " " ++ spec_listed a.spec))
details false a = []

abbrev pub argument_line : Bool → Argument → List ℕ
argument_line full a = concat (codes "arg " ∷ range_listed a.range ∷ codes " " ∷ place_listed a.place ∷ details full a ∷ codes "\n" ∷ [])

abbrev pub piece_line : Bool → Piece → List ℕ
piece_line full (Piece.Literal r) = shaped (codes "lit # #\n") r.start.0 r.end.0
piece_line full (Piece.Placeholder a) = argument_line full a

abbrev pub error_line : ErrorRecord → List ℕ
error_line e = concat (
    codes "err " ∷ decimal e.kind ∷ codes " " ∷ span_listed e.span ∷
    codes " second " ∷ or_dash span_listed e.second ∷ codes " quoted " ∷ or_dash (λ range. ends_listed (range_ends range)) e.quoted ∷ codes " suggestion " ∷ or_dash span_listed e.suggestion ∷
    codes " piece " ∷ decimal e.piece ∷ codes "\n" ∷ [])
