-- `wrongs::put_missing` meets its contract: the record that the brace is missing, and then that of the sign, if something is said of it.
use mathlib.Core.Path.{ap, sym, ◌∙◌}
use Rattle.frame.specs.Places.{place}
use Rattle.closing.specs.Recovery.{gap_at}
use Rattle.closing.specs.Recovering.{is_silent}
use Rattle.reading.specs.Faults.{gap_fault, hint_fault}
use Rattle.wrongs.proofs.ToldWrong.{missing_first, missing_silent, missing_next, missing_both}
use Rattle.wrongs.proofs.put_missing.Goals as goal

pub put_fault-after-requires : goal.put_fault-after-requires
put_fault-after-requires c =
    let a = c.args in
    let gap = (c.of_gap.ensures ∙ ap gap_fault (c.gap_at-gap.ensures ∙ ap (gap_at a.text.now (place a.told.close)) c.why_of-why.ensures)) in
    let first = missing_first a.text.now a.brace a.told a.frame a.extent a.errors.now gap c.requires.2 in
    (c.requires.0, first.0, first.1)

pub returns-then-is_silent : goal.returns-then-is_silent
returns-then-is_silent c =
    let a = c.args in
    let gap = (c.of_gap.ensures ∙ ap gap_fault (c.gap_at-gap.ensures ∙ ap (gap_at a.text.now (place a.told.close)) c.why_of-why.ensures)) in
    missing_silent a.text.now a.brace a.told a.frame a.extent a.errors.now gap c.put_fault-after.ensures (ap is_silent (sym c.hint_of-hint.ensures) ∙ sym c.is_silent.ensures ∙ c.if-is_silent.true)

pub put_fault-requires : goal.put_fault-requires
put_fault-requires c =
    let a = c.args in
    let gap = (c.of_gap.ensures ∙ ap gap_fault (c.gap_at-gap.ensures ∙ ap (gap_at a.text.now (place a.told.close)) c.why_of-why.ensures)) in
    let sign = (c.of_hint.ensures ∙ ap (hint_fault (place a.brace)) c.hint_of-hint.ensures) in
    let next = missing_next a.text.now a.brace a.told a.frame a.extent a.errors.now gap c.put_fault-after.ensures sign (ap is_silent (sym c.hint_of-hint.ensures) ∙ sym c.is_silent.ensures ∙ c.if-is_silent.false) c.requires.2 in
    (c.requires.0, next.0, next.1)

pub returns : goal.returns
returns c =
    let a = c.args in
    let gap = (c.of_gap.ensures ∙ ap gap_fault (c.gap_at-gap.ensures ∙ ap (gap_at a.text.now (place a.told.close)) c.why_of-why.ensures)) in
    let sign = (c.of_hint.ensures ∙ ap (hint_fault (place a.brace)) c.hint_of-hint.ensures) in
    missing_both a.text.now a.brace a.told a.frame a.extent a.errors.now gap c.put_fault-after.ensures sign c.put_fault.ensures
