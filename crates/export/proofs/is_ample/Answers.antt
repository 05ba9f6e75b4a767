-- `export::is_ample` meets its contract: where all its tests pass, each is what is asked.
use mathlib.Core.Path.{sym}
use mathlib.Core.Bool.{true≢false}
use Rattle.export.proofs.is_ample.Goals as goal

pub returns-then-size-gt65535 : goal.returns-then-size-gt65535
returns-then-size-gt65535 c = λ e. absurd (true≢false (sym e))

pub returns-then-pieces-size : goal.returns-then-pieces-size
returns-then-pieces-size c = λ e. absurd (true≢false (sym e))
