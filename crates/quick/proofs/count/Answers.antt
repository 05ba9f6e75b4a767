-- `quick::count` meets its contract: a number, and a `$` after it or none.
use mathlib.Core.Path.{sym, ◌∙◌}
use Rattle.quick.proofs.Parts.{count_argument, count_fixed}
use Rattle.quick.proofs.count.Goals as goal

pub returns-then-byte-eq36 : goal.returns-then-byte-eq36
returns-then-byte-eq36 c =
    rw c.plain.ensures (count_argument c.in_ok-read.ensures (sym c.byte.ensures ∙ c.if-byte-eq36.true))

pub returns : goal.returns
returns c =
    rw c.fixed_count.ensures (count_fixed c.in_ok-read.ensures (λ q. c.if-byte-eq36.false (c.byte.ensures ∙ q)))
