-- `scan::consume` meets its contract: an ASCII character is at a place exactly where its byte is, and none is past the end. Assumes nothing.
use Rattle.std.proofs.Common.{◌∙◌, eq-eqb, ne_eqb}
use Rattle.utf8.specs.Choice.{pick}
use Rattle.scan.specs.Characters.{consumed}
use Rattle.scan.specs.ScanLaws.{is_at_byte, is_at_end}
use Rattle.scan.proofs.consume.Goals.{else-i-text-via-then-i-text+else-text-i, else-i-text-via-else-i-text}
use Rattle.scan.proofs.consume.Goals as goal

pub returns-then-text-i : goal.returns-then-text-i
unfolding consumed pick
returns-then-text-i c = rw (is_at_byte c.args.text.now c.args.at c.args.c c.requires c.if-i-text.true ∙ eq-eqb _ _ c.if-text-i.true)

pub returns : goal.returns
unfolding consumed pick
returns c = elim c.else-i-text.branch [
  | else-i-text-via-then-i-text+else-text-i w ↦ rw (is_at_byte c.args.text.now c.args.at c.args.c c.requires w.if-i-text.true ∙ ne_eqb _ _ w.if-text-i.false)
  | else-i-text-via-else-i-text w ↦ rw (is_at_end c.args.text.now c.args.at c.args.c w.if-i-text.false)
]
