-- `flawless::place` meets its contract: a number, a word that is neither `r` nor `_`, or nothing.
use mathlib.Core.Path.{refl, sym, ◌∙◌, ap}
use Rattle.scan.specs.Words.{is_digit}
use Rattle.quick.proofs.Parts.{place_number_lem, place_nothing, place_word}
use Rattle.flawless.proofs.Closing.{no_blank, no_raw}
use Rattle.flawless.proofs.place.Goals as goal

pub number-requires : goal.number-requires
number-requires c =
    (c.requires, ap is_digit (sym c.byte-b.ensures) ∙ sym c.is_digit.ensures ∙ c.if-is_digit.true)

pub returns-then-is_digit : goal.returns-then-is_digit
returns-then-is_digit c = rw c.number_place.ensures (place_number_lem c.in_ok-number.ensures, refl)

pub returns-then-end-at : goal.returns-then-end-at
returns-then-end-at c =
    rw c.no_place.ensures (
      place_nothing (ap is_digit (sym c.byte-b.ensures) ∙ sym c.is_digit.ensures ∙ c.if-is_digit.false)
          (sym c.word_end-end.ensures ∙ c.if-end-at.true) c.requires.within,
      refl,
    )

pub returns-else-b-eq-UNDERSCORE : goal.returns-else-b-eq-UNDERSCORE
returns-else-b-eq-UNDERSCORE c =
    let e = c.byte-b.ensures in (
      rw (no_blank _ _ _ (λ b _. c.if-b-eq-UNDERSCORE.false (e ∙ b))) at
          (place_word (ap is_digit (sym e) ∙ sym c.is_digit.ensures ∙ c.if-is_digit.false) c.word_end-end.ensures c.if-end-at.false
          (rw e at (sym c.is_raw.ensures ∙ c.if-is_raw.false)) c.requires.within),
      refl,
    )

pub returns-else-end-at-2 : goal.returns-else-end-at-2
returns-else-end-at-2 c =
    let e = c.byte-b.ensures in (
      rw (no_blank _ _ _ (λ _ q. c.if-end-at-2.false q)) at
          (place_word (ap is_digit (sym e) ∙ sym c.is_digit.ensures ∙ c.if-is_digit.false) c.word_end-end.ensures c.if-end-at.false
          (no_raw c.args.text.now _ _ _ c.if-end-at-2.false) c.requires.within),
      refl,
    )
