-- `scribe::parts::put_literal` meets its contract: the view, and its first brace before it where it starts with one.
use mathlib.Core.Path.{ap, sym, ◌∙◌}
use mathlib.Core.List.{[], ◌∷◌}
use native.Mathlib.Omega.{arith}
use borrow.Author.Tests.{not-true, not-false}
use lib.ListN.{length}
use Rattle.pen.specs.Pens.{text_of}
use Rattle.pen.proofs.Laying.{laid_on}
use Rattle.scribe.specs.ScribeLaws.{not_doubled, brace_there}
use Rattle.scribe.proofs.parts.put_literal.Goals as goal

pub put_range-requires : goal.put_range-requires
put_range-requires c =
    let e = sym c.starts_with_brace.ensures ∙ not-true _ c.if-not-starts_with_brace.true-raw in
    rw (not_doubled (text_of c.args.text.now c.args.view) e) at c.requires

pub returns-then-not-starts_with_brace : goal.returns-then-not-starts_with_brace
returns-then-not-starts_with_brace c =
    let a = c.args in
    let e = sym c.starts_with_brace.ensures ∙ not-true _ c.if-not-starts_with_brace.true-raw in
    rw (not_doubled (text_of a.text.now a.view) e) c.put_range.ensures

pub bounds-text-i : goal.bounds-text-i
bounds-text-i c =
    let a = c.args in
    (brace_there a.text.now a.view (sym c.starts_with_brace.ensures ∙ not-false _ c.if-not-starts_with_brace.false-raw)).0

pub put_byte-k-requires : goal.put_byte-k-requires
put_byte-k-requires c =
    let b = brace_there c.args.text.now c.args.view (sym c.starts_with_brace.ensures ∙ not-false _ c.if-not-starts_with_brace.false-raw) in
    omega (arith, c.requires, ap length b.1)

pub put_range-requires-2 : goal.put_range-requires-2
put_range-requires-2 c =
    let b = brace_there c.args.text.now c.args.view (sym c.starts_with_brace.ensures ∙ not-false _ c.if-not-starts_with_brace.false-raw) in
    omega (arith, c.requires, ap length b.1, c.put_byte-k.ensures.place)

pub returns : goal.returns
returns c =
    let a = c.args in
    let b = brace_there a.text.now a.view (sym c.starts_with_brace.ensures ∙ not-false _ c.if-not-starts_with_brace.false-raw) in
    rw b.1 (laid_on (_ ∷ []) _ c.put_byte-k.ensures c.put_range-2.ensures)
