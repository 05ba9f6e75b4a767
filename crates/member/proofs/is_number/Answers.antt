-- `member::is_number` meets its contract: a name of another length is another; else its bytes are compared, one after the other.
use mathlib.Core.Path.{sym}
use borrow.Author.Tests.{eq-eqb, ne_eqb}
use Rattle.membership.specs.Members.{number}
use Rattle.member.proofs.Names.{lengths_differ, both_true, same_by}
use Rattle.member.proofs.is_number.Goals as goal

pub returns-then-name-ne6 : goal.returns-then-name-ne6
returns-then-name-ne6 c = sym (lengths_differ _ number c.if-name-ne6.true)

pub returns-then-name-ne110 : goal.returns-then-name-ne110
returns-then-name-ne110 c = rw (same_by _ number c.if-name-ne6.false, ne_eqb _ _ c.if-name-ne110.true)

pub returns-then-name-ne117 : goal.returns-then-name-ne117
returns-then-name-ne117 c = rw (same_by _ number c.if-name-ne6.false, eq-eqb _ _ c.if-name-ne110.false, ne_eqb _ _ c.if-name-ne117.true)

pub returns-then-name-ne109 : goal.returns-then-name-ne109
returns-then-name-ne109 c = rw (same_by _ number c.if-name-ne6.false, eq-eqb _ _ c.if-name-ne110.false, eq-eqb _ _ c.if-name-ne117.false, ne_eqb _ _ c.if-name-ne109.true)

pub returns-then-name-ne98 : goal.returns-then-name-ne98
returns-then-name-ne98 c = rw (same_by _ number c.if-name-ne6.false, eq-eqb _ _ c.if-name-ne110.false, eq-eqb _ _ c.if-name-ne117.false, eq-eqb _ _ c.if-name-ne109.false, ne_eqb _ _ c.if-name-ne98.true)

pub returns-then-name-ne101 : goal.returns-then-name-ne101
returns-then-name-ne101 c = rw (same_by _ number c.if-name-ne6.false, eq-eqb _ _ c.if-name-ne110.false, eq-eqb _ _ c.if-name-ne117.false, eq-eqb _ _ c.if-name-ne109.false, eq-eqb _ _ c.if-name-ne98.false, ne_eqb _ _ c.if-name-ne101.true)

pub returns : goal.returns
returns c = rw (same_by _ number c.if-name-ne6.false, eq-eqb _ _ c.if-name-ne110.false, eq-eqb _ _ c.if-name-ne117.false, eq-eqb _ _ c.if-name-ne109.false, eq-eqb _ _ c.if-name-ne98.false, eq-eqb _ _ c.if-name-ne101.false) (sym (both_true _))
