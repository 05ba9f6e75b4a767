-- `spans::put_char` meets its contract: a newline writes the line and starts the next one, any other character may be cut.
use borrow.Author.Tests.{eq-eqb, ne_eqb}
use Rattle.utf8.specs.Chars.{ch}
use Rattle.spans.proofs.Lining.{newline_room, newline_put, other_put}
use Rattle.spans.proofs.put_char.Goals as goal

pub put_span-requires : goal.put_span-requires
put_span-requires c =
    let a = c.args in
    newline_room a.frame a.run (ch a.code a.at a.width) a.out.now (eq-eqb _ _ c.if-code-eq10.true) c.requires.2

pub returns-then-code-eq10 : goal.returns-then-code-eq10
returns-then-code-eq10 c =
    let a = c.args in
    newline_put a.frame a.run (ch a.code a.at a.width) a.out.now (eq-eqb _ _ c.if-code-eq10.true)
    c.to_snippet-end.ensures c.to_snippet-past.ensures c.put_span.ensures

pub cut_line-requires : goal.cut_line-requires
cut_line-requires c = (c.requires.0, c.requires.1)

pub returns : goal.returns
returns c =
    let a = c.args in
    other_put a.frame a.run (ch a.code a.at a.width) a.out.now (ne_eqb _ _ c.if-code-eq10.false) c.cut_line.ensures
