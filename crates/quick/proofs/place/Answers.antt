-- `quick::place` meets its contract: a number, a word that is no raw name, or nothing.
use mathlib.Core.Path.{sym, ◌∙◌, ap}
use Rattle.scan.specs.Words.{is_digit}
use Rattle.quick.proofs.Parts.{place_number_lem, place_nothing, place_word}
use Rattle.quick.proofs.place.Goals as goal

pub number-requires : goal.number-requires
number-requires c =
    (c.requires, ap is_digit (sym c.byte-b.ensures) ∙ sym c.is_digit.ensures ∙ c.if-is_digit.true)

pub returns-then-is_digit : goal.returns-then-is_digit
returns-then-is_digit c = rw c.number_place.ensures (place_number_lem c.in_ok-number.ensures)

pub returns-then-end-at : goal.returns-then-end-at
returns-then-end-at c =
    rw c.no_place.ensures
    (place_nothing (ap is_digit (sym c.byte-b.ensures) ∙ sym c.is_digit.ensures ∙ c.if-is_digit.false)
    (sym c.word_end-end.ensures ∙ c.if-end-at.true) c.requires.within)

pub returns : goal.returns
returns c =
    let e = c.byte-b.ensures in
    let r = c.is_raw.ensures in
    rw (c.is_blank.ensures, e)
    (place_word (ap is_digit (sym e) ∙ sym c.is_digit.ensures ∙ c.if-is_digit.false) c.word_end-end.ensures c.if-end-at.false
    (rw e at (sym r ∙ c.if-is_raw.false)) c.requires.within)
