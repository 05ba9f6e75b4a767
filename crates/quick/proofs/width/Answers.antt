-- `quick::width` meets its contract: a count, a word with `$`, or nothing where a word stands that is left.
use mathlib.Core.Path.{sym, ◌∙◌, ap}
use native.Mathlib.Omega.{arith}
use Rattle.std.proofs.lemmas.Option.{IfSome_then}
use Rattle.scan.specs.Words.{is_digit}
use Rattle.quick.proofs.Bytes.{room_word}
use Rattle.quick.proofs.Parts.{width_count, width_name, width_none}
use Rattle.quick.proofs.width.Goals.{else-at-word-via-then-at-word+else-byte-eq36, else-at-word-via-else-at-word}
use Rattle.quick.proofs.width.Goals as goal

pub count-requires : goal.count-requires
count-requires c =
    (c.requires.0, ap is_digit (sym c.byte-b.ensures) ∙ sym c.is_digit.ensures ∙ c.if-is_digit.true)

pub returns-then-is_digit : goal.returns-then-is_digit
returns-then-is_digit c = IfSome_then _ c.count.ensures (λ _ p. width_count p)

pub overflow_add-result : goal.overflow_add-result
overflow_add-result c =
    let p = c.requires in
    let r = room_word p.0 p.1 in omega (arith, r.within, r.small)

pub returns-then-byte-eq36 : goal.returns-then-byte-eq36
returns-then-byte-eq36 c =
    let e = c.byte-b.ensures in
    rw (c.is_blank-blank.ensures, e)
    (width_name (ap is_digit (sym e) ∙ sym c.is_digit.ensures ∙ c.if-is_digit.false) c.requires.1 c.if-at-word.true
    (sym c.byte.ensures ∙ c.if-byte-eq36.true))

pub returns : goal.returns
returns c =
    let e = c.byte-b.ensures in
    let p = c.requires in
    rw (c.is_blank-blank.ensures, e)
    (width_none (ap is_digit (sym e) ∙ sym c.is_digit.ensures ∙ c.if-is_digit.false) p.1
    (elim c.else-at-word.branch [
      | else-at-word-via-then-at-word+else-byte-eq36 w ↦ λ _ b. w.if-byte-eq36.false (w.byte.ensures ∙ b)
      | else-at-word-via-else-at-word w ↦ λ l _. omega (arith, w.if-at-word.false)
    ])
    p.0.within)
