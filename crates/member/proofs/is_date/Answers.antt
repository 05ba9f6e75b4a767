-- `member::is_date` meets its contract: a name of another length is another; else its bytes are compared, one after the other.
use mathlib.Core.Path.{sym}
use borrow.Author.Tests.{eq-eqb, ne_eqb}
use Rattle.membership.specs.Members.{date}
use Rattle.member.proofs.Names.{lengths_differ, both_true, same_by}
use Rattle.member.proofs.is_date.Goals as goal

pub returns-then-name-ne4 : goal.returns-then-name-ne4
returns-then-name-ne4 c = sym (lengths_differ _ date c.if-name-ne4.true)

pub returns-then-name-ne100 : goal.returns-then-name-ne100
returns-then-name-ne100 c = rw (same_by _ date c.if-name-ne4.false, ne_eqb _ _ c.if-name-ne100.true)

pub returns-then-name-ne97 : goal.returns-then-name-ne97
returns-then-name-ne97 c = rw (same_by _ date c.if-name-ne4.false, eq-eqb _ _ c.if-name-ne100.false, ne_eqb _ _ c.if-name-ne97.true)

pub returns-then-name-ne116 : goal.returns-then-name-ne116
returns-then-name-ne116 c = rw (same_by _ date c.if-name-ne4.false, eq-eqb _ _ c.if-name-ne100.false, eq-eqb _ _ c.if-name-ne97.false, ne_eqb _ _ c.if-name-ne116.true)

pub returns : goal.returns
returns c = rw (same_by _ date c.if-name-ne4.false, eq-eqb _ _ c.if-name-ne100.false, eq-eqb _ _ c.if-name-ne97.false, eq-eqb _ _ c.if-name-ne116.false) (sym (both_true _))
