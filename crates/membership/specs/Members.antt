-- MEMBER TEMPLATES, rule by rule, and what it is for a piece to break a rule. Nothing here says how a text is checked. Rests on the pieces and the
-- errors of a reading.
use Rattle.std.specs.Prelude.{◌≡◌, ◌⊎◌, Bool, true, false, not, List, [], ◌∷◌, ℕ, zero, suc, ◌≤◌, ◌<◌, length}
use Prim.Native.Char.{code}
use Rattle.utf8.specs.Choice.{either}
use Rattle.frame.specs.Frames.{same}
use Rattle.frame.specs.declared.Frame.{Frame}
use Rattle.frame.specs.declared.Mode.{Mode}
use Rattle.scan.specs.declared.Count.{Count}
use Rattle.placeholder.specs.declared.Place.{Place}
use Rattle.reading.specs.Lists.{pieces, errors}
use Rattle.reading.specs.Texts.{literal_text}
use Rattle.reading.specs.declared.Piece.{Piece}

-- THE TWO NAMES
abbrev pub number : List ℕ
number = code "n" ∷ code "u" ∷ code "m" ∷ code "b" ∷ code "e" ∷ code "r" ∷ []

abbrev pub date : List ℕ
date = code "d" ∷ code "a" ∷ code "t" ∷ code "e" ∷ []

-- SORTS OF PIECES. A literal has no place, no width and no precision.
abbrev pub is_name : Place → Bool
is_name (Place.Next i) = false
is_name (Place.At i) = false
is_name (Place.Named r) = true

-- a placeholder whose place is no name (R13.2)
abbrev pub is_unnamed : Piece → Bool
is_unnamed (Piece.Literal r) = false
is_unnamed (Piece.Placeholder a) = not (is_name a.place)

-- "taken from an argument, star or name"
abbrev pub is_taken : Count → Bool
is_taken Count.Implied = false
is_taken (Count.Fixed n) = false
is_taken (Count.ByName r s) = true
is_taken (Count.ByArgument i) = true
is_taken (Count.ByStar i) = true

-- a placeholder with a "width or precision taken from an argument, star or name" (R13.3)
abbrev pub takes : Piece → Bool
takes (Piece.Literal r) = false
takes (Piece.Placeholder a) = either (is_taken a.spec.width) (is_taken a.spec.precision)

-- a place that is this name, byte for byte
abbrev pub is_the_name : List ℕ → List ℕ → Place → Bool
is_the_name t name (Place.Next i) = false
is_the_name t name (Place.At i) = false
is_the_name t name (Place.Named r) = same (literal_text t r) name

-- a placeholder that has "the name .. as a place" (R13.4, R13.5)
abbrev pub is_called : List ℕ → List ℕ → Piece → Bool
is_called t name (Piece.Literal r) = false
is_called t name (Piece.Placeholder a) = is_the_name t name a.place

-- the piece that is "counted from 0" as i is of a sort
abbrev pub Is : (Piece → Bool) → List Piece → ℕ → Type 0
Is sort [] i = ⊥
Is sort (x ∷ xs) zero = sort x ≡ true
Is sort (x ∷ xs) (suc i) = Is sort xs i

-- THE FIVE RULES
abbrev pub format_pieces : List ℕ → Frame → List Piece
format_pieces t f = pieces t f Mode.Format

-- "reads without error" (R13.1)
abbrev pub Sound : List ℕ → Frame → Type 0
Sound t f = errors t f Mode.Format ≡ []

-- "has only named places" (R13.2)
abbrev pub OnlyNamed : List Piece → Type 0
OnlyNamed ps = (i : ℕ) → ¬ Is is_unnamed ps i

-- "has no width or precision taken from an argument, star or name" (R13.3)
abbrev pub NothingTaken : List Piece → Type 0
NothingTaken ps = (i : ℕ) → ¬ Is takes ps i

-- "has the name "number" as a place exactly once" (R13.4)
abbrev pub NumberOnce : List ℕ → List Piece → Type 0
NumberOnce t ps = (i : ℕ) × Is (is_called t number) ps i × ((j : ℕ) → Is (is_called t number) ps j → j ≡ i)

-- "has "date" only after it" (R13.5)
abbrev pub DateAfter : List ℕ → List Piece → Type 0
DateAfter t ps = (i j : ℕ) → Is (is_called t date) ps i → Is (is_called t number) ps j → j < i

-- A MEMBER TEMPLATE: "a Format text that" meets the five
pub record Member (t : List ℕ) (f : Frame) : Type 0 where
  pub sound : Sound t f
  pub named : OnlyNamed (format_pieces t f)
  pub untaken : NothingTaken (format_pieces t f)
  pub once : NumberOnce t (format_pieces t f)
  pub after : DateAfter t (format_pieces t f)

-- THE RULES "in the order just written", from 1; there is no other
abbrev pub Rule : ℕ → List ℕ → Frame → Type 0
Rule zero t f = Unit {0}
Rule (suc zero) t f = Sound t f
Rule (suc (suc zero)) t f = OnlyNamed (format_pieces t f)
Rule (suc (suc (suc zero))) t f = NothingTaken (format_pieces t f)
Rule (suc (suc (suc (suc zero)))) t f = NumberOnce t (format_pieces t f)
Rule (suc (suc (suc (suc (suc zero))))) t f = DateAfter t (format_pieces t f)
Rule (suc (suc (suc (suc (suc (suc k)))))) t f = Unit {0}

-- WHAT IT IS FOR A PIECE TO BREAK A RULE: for 4, "A second "number" is the piece that breaks its rule" (R13.6)
abbrev pub Again : List ℕ → List Piece → ℕ → Type 0
Again t ps i = Is (is_called t number) ps i × ((j : ℕ) × (j < i) × Is (is_called t number) ps j)

-- "or the number of pieces where "number" is missing" (R13.6)
abbrev pub Missing : List ℕ → List Piece → ℕ → Type 0
Missing t ps i = (i ≡ length ps) × ((j : ℕ) → ¬ Is (is_called t number) ps j)

-- for 5, a "date" that does not stand after the "number"
abbrev pub Early : List ℕ → List Piece → ℕ → Type 0
Early t ps i = Is (is_called t date) ps i × ((j : ℕ) × Is (is_called t number) ps j × (i ≤ j))

-- by the rule's number; "0 for the error rule" (R13.6)
abbrev pub Breaks : ℕ → List ℕ → List Piece → ℕ → Type 0
Breaks zero t ps i = ⊥
Breaks (suc zero) t ps i = i ≡ 0
Breaks (suc (suc zero)) t ps i = Is is_unnamed ps i
Breaks (suc (suc (suc zero))) t ps i = Is takes ps i
Breaks (suc (suc (suc (suc zero)))) t ps i = Again t ps i ⊎ Missing t ps i
Breaks (suc (suc (suc (suc (suc zero))))) t ps i = Early t ps i
Breaks (suc (suc (suc (suc (suc (suc k)))))) t ps i = ⊥

-- "the first broken rule in the order just written and the first piece that breaks it" (R13.6)
pub record FirstBroken (t : List ℕ) (f : Frame) (k p : ℕ) : Type 0 where
  pub earlier : (j : ℕ) → j < k → Rule j t f
  pub broken : ¬ Rule k t f
  pub here : Breaks k t (format_pieces t f) p
  pub first : (i : ℕ) → i < p → ¬ Breaks k t (format_pieces t f) i
