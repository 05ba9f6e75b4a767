-- DEMAND 3 ON ONE PAGE: of a mode, a quote offset, a text, and the pieces and errors that are recorded for it. No reader is named here.
-- Each sentence is document 01's or the demand's own; the definitions are Grammar, Pieces, Numbering and Cover.
use Rattle.std.specs.Prelude.{◌≡◌, ◌↔◌, List, [], ℕ}
use Rattle.frame.specs.declared.Mode.{Mode}
use Rattle.reading.specs.declared.Piece.{Piece}
use Rattle.reading.specs.declared.ErrorRecord.{ErrorRecord}
use Rattle.grammar.specs.Grammar.{Element, Reading}
use Rattle.grammar.specs.Pieces.{pieces_of}
use Rattle.grammar.specs.Numbering.{numbers, UpFrom}
use Rattle.grammar.specs.Cover.{Covered}

-- (R4.16, R5.6, R5.16)
pub record Demand (mode : Mode) (quote : ℕ) (text : List ℕ) (pieces : List Piece) (errors : List ErrorRecord) : Type 0 where
  -- 1. "no error is recorded exactly when the text has a reading under the mode's grammar and choice rules in 01, written without the parser."
  pub exactly : (errors ≡ []) ↔ ((es : List Element) × Reading mode text es)
  -- 2. "That reading is then the only one"
  pub the_only : (es fs : List Element) → Reading mode text es → Reading mode text fs → es ≡ fs
  -- 3. "and the pieces are it": every byte range, number and span of every record,
  pub the_pieces : (es : List Element) → Reading mode text es → pieces ≡ pieces_of quote 0 0 es
  -- "with implicit places and stars numbered 0, 1, 2 onward, a star before its own placeholder's place."
  pub the_numbers : errors ≡ [] → UpFrom 0 (numbers pieces)
  -- 4. "With errors or without, literal views, dropped first braces and argument ranges cover each byte before the stopping place once, in order."
  pub the_cover : Covered text pieces errors
