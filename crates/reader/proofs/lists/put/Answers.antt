-- At the front, or at the back.
use Rattle.std.proofs.Common.{◌∙◌, sym}
use Rattle.reader.proofs.Filling.{put_front, put_back}
use Rattle.reader.proofs.lists.put.Goals as goal

pub returns-then-front : goal.returns-then-front
returns-then-front c =
    let e = c.insert_front.ensures in
    (e.0, e.1 ∙ sym (put_front c.args.errors.now c.args.n c.args.record c.if-front.true))

pub returns-else-front : goal.returns-else-front
returns-else-front c =
    let e = c.push.ensures in
    (e.0, e.1 ∙ sym (put_back c.args.errors.now c.args.n c.args.record c.if-front.false))
