-- `scan::peek_is` meets its contract: an ASCII character is at a place exactly where its byte is, and none is past the end.
use Rattle.std.proofs.Common.{sym, ◌∙◌, le-ltb}
use Rattle.scan.specs.ScanLaws.{is_at_byte, is_at_end}
use Rattle.scan.proofs.peek_is.Goals as goal

pub returns-then-i-text : goal.returns-then-i-text
returns-then-i-text c = sym (is_at_byte _ c.args.at _ c.requires c.if-i-text.true)

pub returns-else-i-text : goal.returns-else-i-text
returns-else-i-text c = le-ltb _ _ c.if-i-text.false ∙ sym (is_at_end _ c.args.at _ c.if-i-text.false)
