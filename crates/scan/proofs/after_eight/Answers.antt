-- `scan::after_eight` meets its contract: eight bytes without a brace are a part of the run, and anywhere else nothing is passed.
use Rattle.std.proofs.Common.{sym, ◌∙◌, arith}
use Rattle.utf8.specs.BlockLaws.{run_block}
use Rattle.scan.specs.Characters.{is_plain}
use Rattle.scan.specs.ScanLaws.{plain_high}
use Rattle.scan.proofs.after_eight.Goals as goal

pub returns-then-plains-eq8 : goal.returns-then-plains-eq8
returns-then-plains-eq8 c =
    let a = c.args in
    (run_block is_plain plain_high a.text.now a.at 8 c.if-at-text.true (sym c.plains.ensures.0 ∙ c.if-plains-eq8.true), omega arith)
