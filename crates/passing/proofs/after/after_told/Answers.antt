-- `passing::after::after_told` meets its contract: a star takes a number, and a place that is not written the next; the largest figure is kept.
use native.Mathlib.Omega.{arith}
use Rattle.passing.proofs.Afters.{star_few, state_implied, state_number, state_named}
use Rattle.passing.proofs.after.after_told.Goals as goal

pub with_counts-figure-requires : goal.with_counts-figure-requires
with_counts-figure-requires c = omega (arith, c.requires)

pub overflow_add-next : goal.overflow_add-next
overflow_add-next c =
    omega (arith, c.requires, c.after_star-after.ensures, star_few c.args.state.next c.args.told.spec.precision)

pub returns-in-Nothing : goal.returns-in-Nothing
returns-in-Nothing c =
    let a = c.args in
    rw (c.larger_of.ensures, c.with_counts-figure.ensures, c.after_star-after.ensures) (state_implied a.state a.told c.in-Nothing.is)

pub returns-in-Number : goal.returns-in-Number
returns-in-Number c =
    let a = c.args in
    rw (c.larger_of-in-Number.ensures, c.with_counts-figure.ensures, c.after_star-after.ensures) (state_number a.state a.told c.in-Number.is)

pub returns-in-Word : goal.returns-in-Word
returns-in-Word c =
    let a = c.args in
    rw (c.with_counts-figure.ensures, c.after_star-after.ensures) (state_named a.state a.told c.in-Word.is)
