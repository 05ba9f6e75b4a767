-- What a step found wrong, in the order of reading, and a fault with the number of pieces before it.
use Rattle.std.specs.Prelude.{ℕ, Bool, true, false, List, [], ◌∷◌, ◌++◌}
use Rattle.utf8.specs.Choice.{pick}
use Rattle.frame.specs.declared.TextPlace.{TextPlace}
use Rattle.scan.specs.declared.Flaw.{Flaw}
use Rattle.placeholder.specs.declared.ArgumentFlaws.{ArgumentFlaws}
use Rattle.closing.specs.declared.recover.Gap.{Gap}
use Rattle.closing.specs.declared.recover.Hint.{Hint}
use Rattle.closing.specs.declared.recover.Recovery.{Recovery}
use Rattle.closing.specs.declared.whole.Closing.{Closing}
use Rattle.reading.specs.declared.Fault.{Fault}
use Rattle.reading.specs.declared.Step.{Step}

-- nothing is wrong
abbrev pub is_clean : Fault → Bool
is_clean Fault.Clean = true
is_clean (Fault.Unmatched p) = false
is_clean (Fault.Expected p why) = false
is_clean (Fault.Unclosed why) = false
is_clean (Fault.RawName r) = false
is_clean (Fault.AfterDebug p) = false
is_clean (Fault.Underscore r) = false
is_clean (Fault.TooLarge r) = false
is_clean (Fault.DebugFirst p r) = false
is_clean (Fault.NoColon p) = false
is_clean (Fault.Equals p brace) = false
is_clean (Fault.Misplaced p) = false
is_clean (Fault.PlusFirst p) = false
is_clean (Fault.Field a b) = false
is_clean (Fault.TupleIndex a b) = false
is_clean (Fault.Comma p brace) = false

-- what a leaf found
abbrev pub flaw_fault : Flaw → Fault
flaw_fault Flaw.Clean = Fault.Clean
flaw_fault (Flaw.RawName r) = Fault.RawName r
flaw_fault (Flaw.AfterDebug p) = Fault.AfterDebug p
flaw_fault (Flaw.Underscore r) = Fault.Underscore r
flaw_fault (Flaw.TooLarge r) = Fault.TooLarge r

-- that a closing brace is missing
abbrev pub gap_fault : Gap → Fault
gap_fault (Gap.Before p why) = Fault.Expected p why
gap_fault (Gap.AtEnd why) = Fault.Unclosed why

-- what is said there, in a placeholder whose opening brace stands at a place
abbrev pub hint_fault : TextPlace → Hint → Fault
hint_fault brace Hint.Silent = Fault.Clean
hint_fault brace (Hint.DebugFirst p r) = Fault.DebugFirst p r
hint_fault brace (Hint.NoColon p) = Fault.NoColon p
hint_fault brace (Hint.Equals p) = Fault.Equals p brace
hint_fault brace (Hint.Misplaced p) = Fault.Misplaced p
hint_fault brace (Hint.PlusFirst p) = Fault.PlusFirst p
hint_fault brace (Hint.Field a b) = Fault.Field a b
hint_fault brace (Hint.TupleIndex a b) = Fault.TupleIndex a b
hint_fault brace (Hint.Comma p) = Fault.Comma p brace

-- an argument's: its place's, its raw name's, its width's, its precision's, its type's (R7.3)
unfoldable pub argument_slots : ArgumentFlaws → List Fault
argument_slots a =
    flaw_fault a.place ∷
    flaw_fault a.raw ∷
    flaw_fault a.width ∷
    flaw_fault a.precision ∷
    flaw_fault a.typetext ∷
    []

-- where a closing brace is missing: that it is, then the word's, the field's, and what is said (R7.3)
unfoldable pub missing_slots : TextPlace → Gap → Recovery → List Fault
missing_slots brace gap on = gap_fault gap ∷ flaw_fault on.word ∷ (argument_slots on.field ++ (hint_fault brace on.hint ∷ []))

unfoldable pub closing_slots : TextPlace → Closing → List Fault
closing_slots brace (Closing.Closed p) = []
closing_slots brace (Closing.Missing gap on) = missing_slots brace gap on

-- everything that a step may have found wrong, the clean ones too (R7.3)
unfoldable pub step_slots : Step → List Fault
step_slots Step.End = []
step_slots (Step.Stop p) = Fault.Unmatched p ∷ []
step_slots (Step.Literal r) = []
step_slots (Step.Placeholder p) = argument_slots p.flaws ++ closing_slots p.argument.range.start p.closing

-- those that are not clean
unfoldable pub wrong : List Fault → List Fault
wrong [] = []
wrong (x ∷ xs) = pick (is_clean x) (wrong xs) (x ∷ wrong xs)

-- what a step found wrong
unfoldable pub faults_of : Step → List Fault
faults_of s = wrong (step_slots s)

-- A FINDING: a fault, and "the number of pieces already listed when that error was recorded" (R7.9)
pub record Finding : Type 0 where
  pub fault : Fault
  pub piece : ℕ

abbrev pub finding : ℕ → Fault → Finding
finding n x = record { fault = x; piece = n }

-- faults that were recorded when so many pieces were listed
unfoldable pub marked : ℕ → List Fault → List Finding
marked n [] = []
marked n (x ∷ xs) = finding n x ∷ marked n xs
