-- `passing::pass_text` meets its contract: the byte there, and the one behind it, say where the run starts.
use mathlib.Core.Path.{sym, ◌∙◌}
use Rattle.passing.proofs.Stepping.{brace_doubled, no_brace, step_literal, step_doubled}
use Rattle.passing.proofs.pass_text.Goals as goal

pub pass_literal-requires : goal.pass_literal-requires
pass_literal-requires c =
    let a = c.args in
    let two = brace_doubled a.text.now a.state.at.0 (sym c.is_brace.ensures ∙ c.if-is_brace.true) (sym c.byte.ensures ∙ c.if-byte-b.false) in
    record { start = _; step = step_doubled _ _ _ _ c.requires.1 two }

pub pass_literal-requires-2 : goal.pass_literal-requires-2
pass_literal-requires-2 c =
    let none = no_brace (sym c.is_brace.ensures ∙ c.if-is_brace.false) in
    record { start = _; step = step_literal _ _ _ _ c.requires.1 none.0 none.1 }
