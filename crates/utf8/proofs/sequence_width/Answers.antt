-- `utf8::sequence_width` meets its contract: past the end there is no sequence; a byte below 0x80 is one of its own; any other is that of the four
-- bytes from `at` on, of which those past the end read as 0, and those that are not read do not matter. Assumes nothing.
use mathlib.Core.Path.{sym, ap}
use lib.ListN.{drop_of_length-le}
use Rattle.utf8.specs.Utf8.{sequence_at}
use Rattle.utf8.specs.DecodeLaws.{sequence_bytes, ascii_sequence}
use Rattle.utf8.specs.declared.Sequence.{Sequence}
use Rattle.utf8.proofs.sequence_width.Goals as goal

pub returns-then-text-at : goal.returns-then-text-at
unfolding sequence_at
returns-then-text-at c = simp (drop_of_length-le c.args.text.now c.if-text-at.true)

pub returns-then-b-lt128 : goal.returns-then-b-lt128
returns-then-b-lt128 c =
    let a = c.args in
    sym (ap (λ (s : Sequence). s.width) (ascii_sequence a.text.now a.at c.if-text-at.false c.if-b-lt128.true))

pub returns-then-b-lt224 : goal.returns-then-b-lt224
returns-then-b-lt224 c =
    let a = c.args in
    rw (sequence_bytes a.text.now a.at c.if-text-at.false, ← c.byte-c.ensures) (c.width_two.ensures _ _)

pub returns-then-b-lt240 : goal.returns-then-b-lt240
returns-then-b-lt240 c =
    let a = c.args in
    rw (sequence_bytes a.text.now a.at c.if-text-at.false, ← c.byte-c.ensures, ← c.byte-d.ensures) (c.width_three.ensures _)

pub returns : goal.returns
returns c =
    let a = c.args in
    cc (sequence_bytes a.text.now a.at c.if-text-at.false)
