-- What the scribe's functions lay, where it is a part of a plain form, and what they ask. Rests on plain's Plain.
use Rattle.std.specs.Prelude.{Bool, false, List, [], ◌∷◌, ◌++◌, ℕ, ◌<◌, Option, Some, None}
use Rattle.placeholder.specs.declared.Fill.{Fill}
use Rattle.placeholder.specs.declared.Argument.{Argument}
use Rattle.reading.specs.declared.Piece.{Piece}
use Rattle.plain.specs.Said.{SaidSpec, said_piece}
use Rattle.plain.specs.Plain.{plain_fill, plain_align, plain_sign, plain_flag, plain_count, after, plain_hex, is_brace, plain_piece}

-- a fill that is a character
abbrev pub Inked : Option Fill → Type 0
Inked None = Unit {0}
Inked (Some f) = f.code < 0x110000

abbrev pub InkedPiece : Piece → Type 0
InkedPiece (Piece.Literal r) = Unit {0}
InkedPiece (Piece.Placeholder a) = Inked a.spec.fill

abbrev pub AllInked : List Piece → Type 0
AllInked [] = Unit {0}
AllInked (x ∷ xs) = InkedPiece x × AllInked xs

-- a mark of one byte, where there is one
abbrev pub plain_mark : Option ℕ → List ℕ
plain_mark None = []
plain_mark (Some b) = b ∷ []

-- a placeholder in a text
abbrev pub argument_of : List ℕ → Argument → List ℕ
argument_of t a = plain_piece (said_piece t (Piece.Placeholder a))

-- a spec's marks, and what follows them
abbrev pub marks_of : SaidSpec → List ℕ
marks_of x = plain_fill x.fill ++ (plain_align x.align ++ (plain_sign x.sign ++ (plain_flag 0x23 x.alternate ++ plain_flag 0x30 x.zero)))

abbrev pub counts_of : SaidSpec → List ℕ
counts_of x = plain_count x.width ++ (after 0x2E (plain_count x.precision) ++ (plain_hex x.hex ++ x.typetext))

abbrev pub starts_with_brace : List ℕ → Bool
starts_with_brace [] = false
starts_with_brace (b ∷ bs) = is_brace b
