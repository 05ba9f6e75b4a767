-- `pen::put_number` meets its contract: one digit to five, by the number's size.
use mathlib.Core.List.{[], ◌∷◌}
use mathlib.Core.Path.{ap}
use native.Mathlib.Omega.{arith}
use lib.ListN.{length}
use Rattle.pen.specs.PenLaws.{digits_one, digits_two, digits_three, digits_four, digits_five}
use Rattle.pen.proofs.Laying.{laid_on}
use Rattle.pen.proofs.put_number.Goals as goal

pub put_byte-requires : goal.put_byte-requires
put_byte-requires c =
    let n = c.args.n in
    omega (arith, c.requires, ap length (digits_one n c.if-n-lt10.true))

pub returns-then-n-lt10 : goal.returns-then-n-lt10
returns-then-n-lt10 c =
    let n = c.args.n in
    rw (digits_one n c.if-n-lt10.true, ← c.digit-d.ensures) c.put_byte.ensures

pub put_all-requires : goal.put_all-requires
put_all-requires c =
    let n = c.args.n in
    (omega arith, omega (arith, c.requires, ap length (digits_two n c.if-n-lt10.false c.if-n-lt100.true)))

pub returns-then-n-lt100 : goal.returns-then-n-lt100
returns-then-n-lt100 c =
    let n = c.args.n in
    rw (digits_two n c.if-n-lt10.false c.if-n-lt100.true, ← c.digit-d.ensures, ← c.digit-c.ensures) c.put_all.ensures

pub put_all-requires-then-n-lt1000 : goal.put_all-requires-then-n-lt1000
put_all-requires-then-n-lt1000 c =
    let n = c.args.n in
    (omega arith, omega (arith, c.requires, ap length (digits_three n c.if-n-lt100.false c.if-n-lt1000.true)))

pub returns-then-n-lt1000 : goal.returns-then-n-lt1000
returns-then-n-lt1000 c =
    let n = c.args.n in
    rw (digits_three n c.if-n-lt100.false c.if-n-lt1000.true, ← c.digit-d.ensures, ← c.digit-c.ensures, ← c.digit-b.ensures)
    c.put_all-then-n-lt1000.ensures

pub put_all-requires-then-n-lt10000 : goal.put_all-requires-then-n-lt10000
put_all-requires-then-n-lt10000 c =
    let n = c.args.n in
    (omega arith, omega (arith, c.requires, ap length (digits_four n c.if-n-lt1000.false c.if-n-lt10000.true)))

pub returns-then-n-lt10000 : goal.returns-then-n-lt10000
returns-then-n-lt10000 c =
    let n = c.args.n in
    rw (digits_four n c.if-n-lt1000.false c.if-n-lt10000.true, ← c.digit-d.ensures, ← c.digit-c.ensures, ← c.digit-b.ensures, ← c.digit-a.ensures)
    c.put_all-then-n-lt10000.ensures

pub put_all-requires-2 : goal.put_all-requires-2
put_all-requires-2 c =
    let n = c.args.n in
    (omega arith, omega (arith, c.requires, ap length (digits_five n c.if-n-lt10000.false)))

pub returns : goal.returns
returns c =
    let n = c.args.n in
    rw (
      digits_five n c.if-n-lt10000.false,
      ← c.digit-d.ensures,
      ← c.digit-c.ensures,
      ← c.digit-b.ensures,
      ← c.digit-a.ensures,
      ← c.digit-first.ensures,
    )
    c.put_all-2.ensures
