-- `wrongs::put_blanks` meets its contract: the place's, the width's and the type's, one after the other.
use Rattle.wrongs.proofs.ToldWrong.{place_room, width_room, type_room, blanks_noted}
use Rattle.wrongs.proofs.put_blanks.Goals as goal

pub put_blank-high-requires : goal.put_blank-high-requires
put_blank-high-requires c =
    let a = c.args in
    (c.requires.0, place_room a.text.now a.frame a.high a.errors.now a.at a.told a.piece c.requires.1)

pub put_blank-high-requires-2 : goal.put_blank-high-requires-2
put_blank-high-requires-2 c =
    let a = c.args in
    (c.requires.0, width_room a.text.now a.frame a.high a.errors.now a.at a.told a.piece c.requires.1 c.put_blank-high.ensures)

pub put_blank-requires : goal.put_blank-requires
put_blank-requires c =
    let a = c.args in
    (c.requires.0, type_room a.text.now a.frame a.high a.errors.now a.at a.told a.piece c.requires.1 c.put_blank-high.ensures c.put_blank-high-2.ensures)

pub returns : goal.returns
returns c =
    let a = c.args in
    blanks_noted a.text.now a.frame a.high a.errors.now a.at a.told a.piece c.put_blank-high.ensures c.put_blank-high-2.ensures c.put_blank.ensures
