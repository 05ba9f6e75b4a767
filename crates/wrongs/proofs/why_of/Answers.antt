-- `wrongs::why_of` meets its contract: it is the definition, test by test.
use borrow.Author.Tests.{eq-eqb, ne_eqb, not-true, not-false}
use Rattle.utf8.specs.Choice.{pick}
use Rattle.wrongs.specs.Wrongs.{why_told}
use Rattle.wrongs.proofs.why_of.Goals as goal

pub returns-then-not-told : goal.returns-then-not-told
unfolding why_told pick
returns-then-not-told c = rw (not-true c.args.told.colon c.if-not-told.true)

pub returns-then-at-spec : goal.returns-then-at-spec
unfolding why_told pick
returns-then-at-spec c = rw (not-false c.args.told.colon c.if-not-told.false, eq-eqb _ _ c.if-at-spec.true)

pub returns-then-code_at-eq125 : goal.returns-then-code_at-eq125
unfolding why_told pick
returns-then-code_at-eq125 c =
    rw (not-false c.args.told.colon c.if-not-told.false, ne_eqb _ _ c.if-at-spec.false, ← c.code_at.ensures, eq-eqb _ _ c.if-code_at-eq125.true)

pub returns : goal.returns
unfolding why_told pick
returns c =
    rw (not-false c.args.told.colon c.if-not-told.false, ne_eqb _ _ c.if-at-spec.false, ← c.code_at.ensures, ne_eqb _ _ c.if-code_at-eq125.false)
