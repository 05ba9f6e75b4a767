-- `read_by` meets its contract: each list has room for what its run gives, and at the end holds it over its first; a call that is refused runs nothing.
use Rattle.std.proofs.Common.{◌≡◌, ◌∙◌, not, ap}
use borrow.Author.Tests.{eq-eqb}
use Rattle.reading.specs.Lists.{errors}
use Rattle.reading.specs.Written.{over}
use Rattle.reader.proofs.Calling.{Ready, ready, clean, finished, refused}
use Rattle.reader.proofs.call.read_by.Goals.{then-answer-ne0, else-answer-ne0, In-Some}
use Rattle.reader.proofs.call.read_by.Goals as goal

-- the lists have room
roomy : (c : In-Some) →
    let a = c.args in
    Ready a.pieces.now a.errors.now a.places.now a.lines.now a.text.now c.in-Some.readable.frame c.in-Some.readable.mode
roomy c =
    let a = c.args in
    ready a.pieces.now a.errors.now a.places.now a.lines.now a.text.now a.snippet.now a.asked c.decide_by-decision.result c.decide_by-decision.ensures
    c.in-Some.is

pub fill_pieces-requires : goal.fill_pieces-requires
fill_pieces-requires c = let r = roomy (goal.at.fill_pieces-requires c).In-Some in (r.small, r.pieces)

pub fill_errors-requires : goal.fill_errors-requires
fill_errors-requires c = let r = roomy (goal.at.fill_errors-requires c).In-Some in (r.small, r.errors)

pub fill_places-requires : goal.fill_places-requires
fill_places-requires c = let r = roomy (goal.at.fill_places-requires c).In-Some in (r.small, r.places)

pub fill_lines-requires : goal.fill_lines-requires
fill_lines-requires c = let r = roomy (goal.at.fill_lines-requires c).In-Some in (r.small, r.lines)

pub returns-after-answer-ne0 : goal.returns-after-answer-ne0
returns-after-answer-ne0 c =
    let a = c.args in
    let d = c.decide_by-decision.result in
    let x = c.in-Some.readable in
    let errs : c.if-answer-ne0.errors ≡ over (errors a.text.now x.frame x.mode) a.errors.now =
    elim c.if-answer-ne0.branch [
      | then-answer-ne0 w ↦ w.errors-is ∙ w.fill_errors.ensures.list
      | else-answer-ne0 w ↦
          w.errors-is
          ∙ clean a.pieces.now a.errors.now a.places.now a.lines.now a.text.now a.snippet.now a.asked d c.decide_by-decision.ensures c.in-Some.is
          (ap not (eq-eqb _ _ w.if-answer-ne0.false))
    ] in
    finished a.pieces.now a.errors.now a.places.now a.lines.now a.text.now a.snippet.now a.asked d c.decide_by-decision.ensures c.in-Some.is
    _ _ _ _ c.fill_pieces.ensures.list errs c.fill_places.ensures c.fill_lines.ensures

pub returns-in_default : goal.returns-in_default
returns-in_default c =
    let a = c.args in
    refused a.pieces.now a.errors.now a.places.now a.lines.now a.text.now a.snippet.now a.asked c.decide_by-decision.result c.decide_by-decision.ensures
    c.in_default.is
