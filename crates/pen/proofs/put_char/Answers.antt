-- `pen::put_char` meets its contract: one byte to four, by the code's size.
use mathlib.Core.Path.{ap}
use native.Mathlib.Omega.{arith}
use lib.ListN.{length}
use Rattle.pen.specs.PenLaws.{encode_one, encode_two, encode_three, encode_four}
use Rattle.pen.proofs.put_char.Goals as goal

pub put_byte-requires : goal.put_byte-requires
put_byte-requires c =
    omega (arith, c.requires.0, ap length (encode_one c.args.code c.if-code-lt128.true))

pub returns-then-code-lt128 : goal.returns-then-code-lt128
returns-then-code-lt128 c = rw (encode_one c.args.code c.if-code-lt128.true) c.put_byte.ensures

pub put_all-requires : goal.put_all-requires
put_all-requires c =
    (omega arith, omega (arith, c.requires.0, ap length (encode_two c.args.code c.if-code-lt128.false c.if-code-lt2048.true)))

pub returns-then-code-lt2048 : goal.returns-then-code-lt2048
returns-then-code-lt2048 c =
    rw (encode_two c.args.code c.if-code-lt128.false c.if-code-lt2048.true, ← c.later-d.ensures) c.put_all.ensures

pub put_all-requires-then-code-lt65536 : goal.put_all-requires-then-code-lt65536
put_all-requires-then-code-lt65536 c =
    (omega arith, omega (arith, c.requires.0, ap length (encode_three c.args.code c.if-code-lt2048.false c.if-code-lt65536.true)))

pub returns-then-code-lt65536 : goal.returns-then-code-lt65536
returns-then-code-lt65536 c =
    rw (encode_three c.args.code c.if-code-lt2048.false c.if-code-lt65536.true, ← c.later-d.ensures, ← c.later-c.ensures)
    c.put_all-then-code-lt65536.ensures

pub put_all-requires-2 : goal.put_all-requires-2
put_all-requires-2 c =
    (omega arith, omega (arith, c.requires.0, ap length (encode_four c.args.code c.if-code-lt65536.false)))

pub returns : goal.returns
returns c =
    rw (encode_four c.args.code c.if-code-lt65536.false, ← c.later-d.ensures, ← c.later-c.ensures, ← c.later-b.ensures)
    c.put_all-2.ensures
