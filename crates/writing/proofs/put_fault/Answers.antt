-- `writing::put_fault` meets its contract: one record, by where it goes and whether there is room before the others.
use mathlib.Core.Path.{sym, ◌∙◌}
use Rattle.writing.proofs.Noting.{room_back, put_back, put_front, put_apart}
use Rattle.writing.proofs.put_fault.Goals as goal

pub put_record-requires : goal.put_record-requires
put_record-requires c =
    let a = c.args in
    (c.requires.0, room_back a.text.now a.frame a.extent a.errors.now a.fault c.requires.1 (sym c.is_front.ensures ∙ c.if-not-is_front.true) c.requires.2)

pub returns-then-not-is_front : goal.returns-then-not-is_front
returns-then-not-is_front c =
    let a = c.args in
    put_back a.text.now a.frame a.extent a.errors.now a.fault c.requires.1 (sym c.is_front.ensures ∙ c.if-not-is_front.true) c.put_record.ensures

pub returns-then-extent-eq0 : goal.returns-then-extent-eq0
returns-then-extent-eq0 c =
    let a = c.args in
    put_apart a.text.now a.frame a.extent a.errors.now a.fault c.requires.1 (sym c.is_front.ensures ∙ c.if-not-is_front.false) c.if-extent-eq0.true

pub returns : goal.returns
returns c =
    let a = c.args in
    put_front a.text.now a.frame a.extent a.errors.now a.fault c.requires.1 (sym c.is_front.ensures ∙ c.if-not-is_front.false) c.if-extent-eq0.false c.put_record-2.ensures
