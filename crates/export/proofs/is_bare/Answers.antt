-- `export::is_bare` meets its contract: numbers that are all 0 make the bare request, whatever the hashes.
use mathlib.Core.Path.{sym}
use mathlib.Core.Bool.{true≢false}
use Rattle.utf8.specs.Choice.{pick}
use Rattle.words.specs.Calls.{is_yes, style_of, request_of}
use Rattle.export.proofs.is_bare.Goals as goal

pub returns-then-mode-ne0 : goal.returns-then-mode-ne0
returns-then-mode-ne0 c = λ e. absurd (true≢false (sym e))

pub returns-then-style-ne0 : goal.returns-then-style-ne0
returns-then-style-ne0 c = λ e. absurd (true≢false (sym e))

pub returns-then-given-ne0 : goal.returns-then-given-ne0
returns-then-given-ne0 c = λ e. absurd (true≢false (sym e))

pub returns-then-newline-ne0 : goal.returns-then-newline-ne0
returns-then-newline-ne0 c = λ e. absurd (true≢false (sym e))

pub returns : goal.returns
unfolding request_of style_of is_yes pick
returns c = λ e. record { ample = e; request = λ h. rw (c.if-mode-ne0.false, c.if-style-ne0.false, c.if-given-ne0.false, c.if-newline-ne0.false) }
