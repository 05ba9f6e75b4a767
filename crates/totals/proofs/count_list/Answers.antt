-- `totals::count_list` meets its contract: bytes without a count, or with one above 10,000, are no list; else the texts that stand behind it decide.
use Rattle.totals.proofs.Takings.{unlisted_short, unlisted_many, listed_all, unlisted_all}
use Rattle.totals.proofs.count_list.Goals as goal

pub returns-then-bytes-lt2 : goal.returns-then-bytes-lt2
returns-then-bytes-lt2 c = unlisted_short c.args.bytes.now c.if-bytes-lt2.true c.unlisted.ensures

pub returns-then-count-gt10000 : goal.returns-then-count-gt10000
returns-then-count-gt10000 c =
    unlisted_many c.args.bytes.now c.two-count.result c.if-bytes-lt2.false c.two-count.ensures.1 c.if-count-gt10000.true c.unlisted-then-count-gt10000.ensures

pub returns-then-add_all : goal.returns-then-add_all
returns-then-add_all c =
    listed_all c.args.bytes.now c.two-count.result c.if-bytes-lt2.false c.two-count.ensures.1 c.add_all.ensures c.if-count-gt10000.false c.if-add_all.true

pub returns : goal.returns
returns c =
    unlisted_all c.args.bytes.now c.two-count.result c.if-bytes-lt2.false c.two-count.ensures.1 c.add_all.ensures c.if-add_all.false c.unlisted-2.ensures
