-- Kinds by their number: those put at the front, and those that have no second span, quote nothing, or have no suggestion.
-- Rests on the definitions of Records.
use Rattle.std.specs.Prelude.{None}
use Prim.Native.Nat.{ℕ}
use mathlib.Core.Path.{◌≡◌, refl}
use mathlib.Core.List.{List}
use lib.Dec.{eqb, leb}
use Rattle.utf8.specs.Choice.{either}
use Rattle.frame.specs.declared.Frame.{Frame}
use Rattle.frame.specs.declared.TextPlace.{TextPlace}
use Rattle.frame.specs.declared.TextRange.{TextRange}
use Rattle.reading.specs.declared.Fault.{Fault}
use Rattle.reading.specs.Faults.{is_clean}
use Rattle.reading.specs.Records.{is_front}
use Rattle.laws.specs.RecordLaws.{kind_of, second_of, quoted_of, suggestion_of}

-- nothing is wrong exactly where there is no kind
pub clean_kind : (x : Fault) → is_clean x ≡ eqb (kind_of x) 0
clean_kind Fault.Clean = refl
clean_kind (Fault.Unmatched p) = refl
clean_kind (Fault.Expected p why) = refl
clean_kind (Fault.Unclosed why) = refl
clean_kind (Fault.RawName r) = refl
clean_kind (Fault.AfterDebug p) = refl
clean_kind (Fault.Underscore r) = refl
clean_kind (Fault.TooLarge r) = refl
clean_kind (Fault.DebugFirst p r) = refl
clean_kind (Fault.NoColon p) = refl
clean_kind (Fault.Equals p brace) = refl
clean_kind (Fault.Misplaced p) = refl
clean_kind (Fault.PlusFirst p) = refl
clean_kind (Fault.Field a b) = refl
clean_kind (Fault.TupleIndex a b) = refl
clean_kind (Fault.Comma p brace) = refl

-- the kinds put at the front are 4, 5, and 8 to 15
pub front_kinds : (x : Fault) → is_front x ≡ either (eqb (kind_of x) 4) (either (eqb (kind_of x) 5) (leb 8 (kind_of x)))
front_kinds Fault.Clean = refl
front_kinds (Fault.Unmatched p) = refl
front_kinds (Fault.Expected p why) = refl
front_kinds (Fault.Unclosed why) = refl
front_kinds (Fault.RawName r) = refl
front_kinds (Fault.AfterDebug p) = refl
front_kinds (Fault.Underscore r) = refl
front_kinds (Fault.TooLarge r) = refl
front_kinds (Fault.DebugFirst p r) = refl
front_kinds (Fault.NoColon p) = refl
front_kinds (Fault.Equals p brace) = refl
front_kinds (Fault.Misplaced p) = refl
front_kinds (Fault.PlusFirst p) = refl
front_kinds (Fault.Field a b) = refl
front_kinds (Fault.TupleIndex a b) = refl
front_kinds (Fault.Comma p brace) = refl

-- all but 2, 3, 10, 15 have no second span
pub no_second : (t : List ℕ) (f : Frame) (x : Fault) → ((p : TextPlace) (why : TextPlace) → x ≡ Fault.Expected p why → ⊥) → ((why : TextPlace) → x ≡ Fault.Unclosed why → ⊥) → ((p : TextPlace) (brace : TextPlace) → x ≡ Fault.Equals p brace → ⊥) → ((p : TextPlace) (brace : TextPlace) → x ≡ Fault.Comma p brace → ⊥) → None ≡ second_of t f x
no_second t f Fault.Clean n0 n1 n2 n3 = refl
no_second t f (Fault.Unmatched p) n0 n1 n2 n3 = refl
no_second t f (Fault.Expected p why) n0 n1 n2 n3 = absurd (n0 p why refl)
no_second t f (Fault.Unclosed why) n0 n1 n2 n3 = absurd (n1 why refl)
no_second t f (Fault.RawName r) n0 n1 n2 n3 = refl
no_second t f (Fault.AfterDebug p) n0 n1 n2 n3 = refl
no_second t f (Fault.Underscore r) n0 n1 n2 n3 = refl
no_second t f (Fault.TooLarge r) n0 n1 n2 n3 = refl
no_second t f (Fault.DebugFirst p r) n0 n1 n2 n3 = refl
no_second t f (Fault.NoColon p) n0 n1 n2 n3 = refl
no_second t f (Fault.Equals p brace) n0 n1 n2 n3 = absurd (n2 p brace refl)
no_second t f (Fault.Misplaced p) n0 n1 n2 n3 = refl
no_second t f (Fault.PlusFirst p) n0 n1 n2 n3 = refl
no_second t f (Fault.Field a b) n0 n1 n2 n3 = refl
no_second t f (Fault.TupleIndex a b) n0 n1 n2 n3 = refl
no_second t f (Fault.Comma p brace) n0 n1 n2 n3 = absurd (n3 p brace refl)

-- all but 2, 5, 7, 8, 11 quote nothing
pub no_quote : (t : List ℕ) (x : Fault) → ((p : TextPlace) (why : TextPlace) → x ≡ Fault.Expected p why → ⊥) → ((p : TextPlace) → x ≡ Fault.AfterDebug p → ⊥) → ((r : TextRange) → x ≡ Fault.TooLarge r → ⊥) → ((p : TextPlace) (r : TextRange) → x ≡ Fault.DebugFirst p r → ⊥) → ((p : TextPlace) → x ≡ Fault.Misplaced p → ⊥) → None ≡ quoted_of t x
no_quote t Fault.Clean n0 n1 n2 n3 n4 = refl
no_quote t (Fault.Unmatched p) n0 n1 n2 n3 n4 = refl
no_quote t (Fault.Expected p why) n0 n1 n2 n3 n4 = absurd (n0 p why refl)
no_quote t (Fault.Unclosed why) n0 n1 n2 n3 n4 = refl
no_quote t (Fault.RawName r) n0 n1 n2 n3 n4 = refl
no_quote t (Fault.AfterDebug p) n0 n1 n2 n3 n4 = absurd (n1 p refl)
no_quote t (Fault.Underscore r) n0 n1 n2 n3 n4 = refl
no_quote t (Fault.TooLarge r) n0 n1 n2 n3 n4 = absurd (n2 r refl)
no_quote t (Fault.DebugFirst p r) n0 n1 n2 n3 n4 = absurd (n3 p r refl)
no_quote t (Fault.NoColon p) n0 n1 n2 n3 n4 = refl
no_quote t (Fault.Equals p brace) n0 n1 n2 n3 n4 = refl
no_quote t (Fault.Misplaced p) n0 n1 n2 n3 n4 = absurd (n4 p refl)
no_quote t (Fault.PlusFirst p) n0 n1 n2 n3 n4 = refl
no_quote t (Fault.Field a b) n0 n1 n2 n3 n4 = refl
no_quote t (Fault.TupleIndex a b) n0 n1 n2 n3 n4 = refl
no_quote t (Fault.Comma p brace) n0 n1 n2 n3 n4 = refl

-- all but 4, 5, 9 have no suggestion
pub no_suggestion : (t : List ℕ) (f : Frame) (x : Fault) → ((r : TextRange) → x ≡ Fault.RawName r → ⊥) → ((p : TextPlace) → x ≡ Fault.AfterDebug p → ⊥) → ((p : TextPlace) → x ≡ Fault.NoColon p → ⊥) → None ≡ suggestion_of t f x
no_suggestion t f Fault.Clean n0 n1 n2 = refl
no_suggestion t f (Fault.Unmatched p) n0 n1 n2 = refl
no_suggestion t f (Fault.Expected p why) n0 n1 n2 = refl
no_suggestion t f (Fault.Unclosed why) n0 n1 n2 = refl
no_suggestion t f (Fault.RawName r) n0 n1 n2 = absurd (n0 r refl)
no_suggestion t f (Fault.AfterDebug p) n0 n1 n2 = absurd (n1 p refl)
no_suggestion t f (Fault.Underscore r) n0 n1 n2 = refl
no_suggestion t f (Fault.TooLarge r) n0 n1 n2 = refl
no_suggestion t f (Fault.DebugFirst p r) n0 n1 n2 = refl
no_suggestion t f (Fault.NoColon p) n0 n1 n2 = absurd (n2 p refl)
no_suggestion t f (Fault.Equals p brace) n0 n1 n2 = refl
no_suggestion t f (Fault.Misplaced p) n0 n1 n2 = refl
no_suggestion t f (Fault.PlusFirst p) n0 n1 n2 = refl
no_suggestion t f (Fault.Field a b) n0 n1 n2 = refl
no_suggestion t f (Fault.TupleIndex a b) n0 n1 n2 = refl
no_suggestion t f (Fault.Comma p brace) n0 n1 n2 = refl
