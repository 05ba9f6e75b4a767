-- `utf8::code_at` meets its contract: a sequence of that width has its bytes in the text, and they spell its code. Assumes nothing.
use Rattle.std.proofs.Common.{arith}
use Rattle.utf8.specs.DecodeLaws.{Spelled, spelled}
use Rattle.utf8.proofs.code_at.Goals as goal

pub bounds-text-at : goal.bounds-text-at
bounds-text-at c = omega (arith, (spelled c.args.text.now c.args.at c.args.width c.requires (omega arith)).room)

pub bounds-text-at-in-2 : goal.bounds-text-at-in-2
bounds-text-at-in-2 c = omega (arith, (spelled c.args.text.now c.args.at c.args.width c.requires (omega arith)).room)

pub bounds-text-at-in-3 : goal.bounds-text-at-in-3
bounds-text-at-in-3 c = omega (arith, (spelled c.args.text.now c.args.at c.args.width c.requires (omega arith)).room)

pub bounds-text-at-in_default : goal.bounds-text-at-in_default
bounds-text-at-in_default c = omega (arith, (spelled c.args.text.now c.args.at c.args.width c.requires (omega arith)).room)

pub returns-in-1 : goal.returns-in-1
returns-in-1 c = omega (arith, (spelled c.args.text.now c.args.at c.args.width c.requires (omega arith)).code 1 c.in-1.is)

pub returns-in-2 : goal.returns-in-2
returns-in-2 c = omega (arith, (spelled c.args.text.now c.args.at c.args.width c.requires (omega arith)).code 2 c.in-2.is)

pub returns-in-3 : goal.returns-in-3
returns-in-3 c = omega (arith, (spelled c.args.text.now c.args.at c.args.width c.requires (omega arith)).code 3 c.in-3.is)

pub returns-in_default : goal.returns-in_default
returns-in_default c =
    let p : Spelled c.args.text.now c.args.at c.args.width = spelled _ _ _ c.requires (omega arith) in
    omega (arith, p.code 4 (omega (arith, p.others.most)))
