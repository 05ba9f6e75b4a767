-- `placeholder::format::debug_type` meets its contract: it is the definition, its flaw by whether a `#`, `x` or `X` follows.
use Rattle.utf8.specs.Choice.{pick}
use Rattle.placeholder.specs.Types.{debug_type}
use Rattle.placeholder.proofs.format.debug_type.Goals as goal
use Rattle.placeholder.proofs.format.debug_type.Goals.{then-is_hex_or_hash, else-is_hex_or_hash}

pub returns : goal.returns
unfolding debug_type pick
returns c =
    elim c.if-is_hex_or_hash.branch [
      | then-is_hex_or_hash w ↦ rw (c.sign_type.ensures, ← c.is_hex_or_hash.ensures, w.if-is_hex_or_hash.true, w.flaw-is)
      | else-is_hex_or_hash w ↦ rw (c.sign_type.ensures, ← c.is_hex_or_hash.ensures, w.if-is_hex_or_hash.false, w.flaw-is)
    ]
