-- `wrongs::put_blank` meets its contract: nothing where the word is not `_`, else its record, after those that are written.
use borrow.Author.Tests.{not-true, not-false}
use Rattle.wrongs.proofs.ToldWrong.{blank_none, blank_room, blank_one}
use Rattle.wrongs.proofs.put_blank.Goals as goal

pub returns-then-not-blank : goal.returns-then-not-blank
returns-then-not-blank c =
    let a = c.args in
    blank_none a.text.now a.frame a.high a.errors.now a.blank a.from a.to a.piece (not-true _ c.if-not-blank.true-raw)

pub span_between-span-requires : goal.span_between-span-requires
span_between-span-requires c = c.requires.0

pub put_bare_error-requires : goal.put_bare_error-requires
put_bare_error-requires c =
    let a = c.args in
    blank_room a.text.now a.frame a.high a.errors.now a.blank a.from a.to a.piece (not-false _ c.if-not-blank.false-raw) c.requires.1

pub returns : goal.returns
returns c =
    let a = c.args in
    blank_one a.text.now a.frame a.high a.errors.now a.blank a.from a.to a.piece (not-false _ c.if-not-blank.false-raw) c.span_between-span.ensures c.put_bare_error.ensures
