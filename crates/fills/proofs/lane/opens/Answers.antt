-- `fills::lane::opens` meets its contract: in Format mode it is what the bytes say.
use mathlib.Core.Path.{sym}
use mathlib.Core.Bool.{true≢false}
use Rattle.fills.proofs.lane.opens.Goals as goal

pub returns-in-Format : goal.returns-in-Format
returns-in-Format c = λ y. (c.in-Format.is, c.is_open.ensures y)

pub returns-in-InlineAsm : goal.returns-in-InlineAsm
returns-in-InlineAsm c = λ y. absurd (true≢false (sym y))

pub returns-in-Diagnostic : goal.returns-in-Diagnostic
returns-in-Diagnostic c = λ y. absurd (true≢false (sym y))
