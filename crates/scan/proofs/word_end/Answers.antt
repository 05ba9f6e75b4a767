-- `scan::word_end` meets its contract: an ASCII byte is its own character, and 0, which stands past the end too, starts no word and continues none;
-- where a letter is another, of the word nothing was passed.
use Rattle.std.proofs.Common.{◌≡◌, ltb, sym, refl, ap, ◌∙◌, arith, le-ltb}
use borrow.Author.Tests.{not-true, not-false}
use Rattle.utf8.specs.Choice.{pick}
use Rattle.utf8.specs.ChoiceLaws.{pick_elim}
use Rattle.frame.specs.Places.{place}
use Rattle.frame.specs.declared.TextPlace.{TextPlace}
use Rattle.scan.specs.Words.{word_end, word_from}
use Rattle.scan.specs.AsciiWordLaws.{byte_in, start_in, word_start, word_none, continue_stop}
use Rattle.scan.proofs.word_end.Goals as goal

pub returns-then-b-ge128 : goal.returns-then-b-ge128
unfolding word_from pick
returns-then-b-ge128 c = let i = c.args.at.0 in c.word_from.ensures ∙ simp (le-ltb i i (omega arith))

pub returns-then-not-ascii_start : goal.returns-then-not-ascii_start
returns-then-not-ascii_start c =
    let a = c.args in
    sym (ap place (word_none a.text.now a.at.0 c.byte-b.ensures (omega (arith, c.if-b-ge128.false)) (sym c.ascii_start.ensures ∙ not-true _ c.if-not-ascii_start.true-raw)))

pub overflow_add-i : goal.overflow_add-i
overflow_add-i c =
    let y = sym c.ascii_start.ensures ∙ not-false _ c.if-not-ascii_start.false-raw in
    omega (arith, byte_in c.args.text.now c.args.at.0 (rw c.byte-b.ensures at (start_in _ y)), c.well_formed)

pub returns-then-byte-ge-BEYOND_ASCII : goal.returns-then-byte-ge-BEYOND_ASCII
unfolding word_from
returns-then-byte-ge-BEYOND_ASCII c =
    let t = c.args.text.now in
    let at = c.args.at in
    let y = sym c.ascii_start.ensures ∙ not-false _ c.if-not-ascii_start.false-raw in
    let end = c.ascii_continue_end-end.result in
    c.word_from-then-byte-ge-BEYOND_ASCII.ensures
    ∙ pick_elim (λ (p : TextPlace). p ≡ word_end t at) (ltb at.0 end)
    (λ _. ap place (c.ascii_continue_end-end.ensures.same_end ∙ sym (word_start t at.0 c.byte-b.ensures (omega (arith, c.if-b-ge128.false)) y)))
    (λ _. refl)

pub returns : goal.returns
returns c =
    let a = c.args in
    let y = sym c.ascii_start.ensures ∙ not-false _ c.if-not-ascii_start.false-raw in
    let e = c.ascii_continue_end-end.ensures in
    ap place
    (sym (continue_stop a.text.now _ c.byte.ensures (omega (arith, c.if-byte-ge-BEYOND_ASCII.false)) e.stops) ∙ e.same_end ∙ sym (word_start a.text.now a.at.0 c.byte-b.ensures (omega (arith, c.if-b-ge128.false)) y))
