-- A text's own totals are small, and a length has two bytes.
use Rattle.std.proofs.Common.{arith, take}
use Rattle.season.proofs.Growth.{take_short, grown_own}
use Rattle.season.proofs.next_text.Goals as goal

pub returns-then-after-eq2 : goal.returns-then-after-eq2
returns-then-after-eq2 g c =
    let short = take_short c.args.size c.part.new.buffer (omega (arith, c.if-got-size.false)) c.in_ok-got.ensures.0 c.requires.0 in
    record {
      grown = grown_own c.args.totals.now (take c.args.size c.part.new.buffer) c.requires.1 short c.add_text.auto.totals c.add_text.ensures;
      next = omega (arith, c.two.ensures.0);
    }

pub returns : goal.returns
returns g c =
    let short = take_short c.args.size c.part.new.buffer (omega (arith, c.if-got-size.false)) c.in_ok-got.ensures.0 c.requires.0 in
    record {
      grown = grown_own c.args.totals.now (take c.args.size c.part.new.buffer) c.requires.1 short c.add_text.auto.totals c.add_text.ensures;
      next = c.next_size.ensures;
    }
