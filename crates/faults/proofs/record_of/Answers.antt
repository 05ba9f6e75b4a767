-- The record is put together from its five parts, each by its own function, and the number of pieces.
use Rattle.laws.specs.RecordLaws.{record_parts}
use Rattle.faults.proofs.record_of.Goals as goal

pub returns : goal.returns
returns c =
    rw (
      record_parts,
      ← c.span_of.ensures,
      ← c.second_of.ensures,
      ← c.quoted_of.ensures,
      ← c.suggestion_of.ensures,
      ← c.kind_of.ensures,
    )
