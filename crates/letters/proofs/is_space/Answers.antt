-- `letters::is_space` meets its contract: below 0x80 the byte tells, and else the table, which has the numbers of `space`. Assumes nothing.
use Rattle.std.proofs.Common.{sym, ◌∙◌}
use Rattle.letters.specs.Table.{ascending}
use Rattle.letters.specs.AsciiLaws.{ascii_space_lem}
use Rattle.letters.specs.Space.{space}
use Rattle.letters.specs.Questions.{is_space}
use Rattle.letters.proofs.is_space.Goals as goal

pub returns-then-c-lt128 : goal.returns-then-c-lt128
returns-then-c-lt128 c = c.ascii_space.ensures ∙ sym (ascii_space_lem _ c.if-c-lt128.true)

pub in_table-requires : goal.in_table-requires
unfolding ascending
in_table-requires c = tt

pub returns : goal.returns
unfolding is_space space
returns c = c.in_table.ensures
