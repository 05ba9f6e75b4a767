-- `letters::is_continue` meets its contract: below 0x80 the byte tells, and else the table, which has the numbers of `continue`. Assumes nothing.
use Rattle.std.proofs.Common.{sym, ◌∙◌}
use Rattle.letters.specs.Table.{ascending}
use Rattle.letters.specs.AsciiLaws.{ascii_continue_lem}
use Rattle.letters.specs.Continue.{continue}
use Rattle.letters.specs.Questions.{is_continue}
use Rattle.letters.proofs.is_continue.Goals as goal

pub returns-then-c-lt128 : goal.returns-then-c-lt128
returns-then-c-lt128 c = c.ascii_continue.ensures ∙ sym (ascii_continue_lem _ c.if-c-lt128.true)

pub in_table-requires : goal.in_table-requires
unfolding ascending
in_table-requires c = tt

pub returns-else-in_script : goal.returns-else-in_script
unfolding is_continue continue
returns-else-in_script c = c.in_table.ensures
