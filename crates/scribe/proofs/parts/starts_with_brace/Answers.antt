-- `scribe::parts::starts_with_brace` meets its contract: the part's first byte, where it has one.
use Rattle.pen.specs.PenLaws.{part_more}
use Rattle.scribe.proofs.parts.starts_with_brace.Goals as goal

pub returns-then-i-text : goal.returns-then-i-text
returns-then-i-text c =
    let there = c.if-i-text.true in
    rw (part_more c.args.text.now c.args.range.start.0 c.args.range.end.0 there.0 there.1) c.is_brace.ensures
