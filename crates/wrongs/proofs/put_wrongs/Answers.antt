-- `wrongs::put_wrongs` meets its contract: nothing where nothing is wrong, else the words `_`, and then what is said of a missing closing brace.
use Rattle.wrongs.proofs.ToldWrong.{wrongs_none, blanks_room, wrongs_closed, wrongs_room, wrongs_missing}
use Rattle.wrongs.proofs.put_wrongs.Goals as goal

pub returns-then-is_flawless : goal.returns-then-is_flawless
returns-then-is_flawless c =
    let a = c.args in
    wrongs_none a.text.now a.frame a.brace a.told (c.is_flawless.ensures c.if-is_flawless.true)

pub put_blanks-high-requires : goal.put_blanks-high-requires
put_blanks-high-requires c =
    let a = c.args in
    (c.requires.0, blanks_room a.text.now a.frame a.brace a.told a.extent c.requires.3)

pub returns-then-told : goal.returns-then-told
returns-then-told c =
    let a = c.args in
    wrongs_closed a.text.now a.frame a.brace a.told a.extent c.put_blanks-high.ensures c.if-told.true

pub put_missing-requires : goal.put_missing-requires
put_missing-requires c =
    let a = c.args in
    (c.requires.0, c.requires.2, wrongs_room a.text.now a.frame a.brace a.told a.extent c.put_blanks-high.ensures c.if-told.false c.requires.3)

pub returns : goal.returns
returns c =
    let a = c.args in
    wrongs_missing a.text.now a.frame a.brace a.told a.extent c.put_blanks-high.ensures c.if-told.false c.put_missing.ensures
