-- `scan::integer` meets its contract. The invariant: what is kept is some number n as it is noted, and the digits from `i` after n make
-- what the digits from `at` make. The measure is what is left of the text.
use Rattle.std.proofs.Common.{◌≡◌, true, sym, refl, ◌∙◌, arith}
use Rattle.utf8.specs.Choice.{within}
use Rattle.utf8.specs.ChoiceLaws.{within_low, within_high}
use Rattle.utf8.specs.CharLaws.{Peeked, peeked}
use Rattle.scan.specs.Words.{is_digit}
use Rattle.scan.specs.Wrapping.{noted}
use Rattle.scan.proofs.Numbers.{rest_all, rest_more, rest_stop, rest_end}
use Rattle.scan.proofs.integer.Goals.{After-is_digit, Else-not-is_digit}
use Rattle.scan.proofs.integer.Goals as goal

pub loop-seen-init : goal.loop-seen-init
unfolding noted
loop-seen-init c = (0, refl, rest_all _ _)

-- the character at `i`
seen : (c : After-is_digit) →
    Peeked c.args.text.now c.loop-seen.i
    c.in-Some.seen.code c.in-Some.seen.width
seen c = peeked _ _ (sym c.peek.ensures ∙ c.in-Some.is)

-- it is a digit
digit : (c : Else-not-is_digit) → within c.in-Some.seen.code 0x30 0x39 ≡ true
unfolding is_digit
digit c = sym c.is_digit.ensures ∙ c.if-not-is_digit.false

pub overflow_sub-seen : goal.overflow_sub-seen
overflow_sub-seen c = within_low 0x30 0x39 (digit (goal.at.overflow_sub-seen c).Else-not-is_digit)

pub overflow_cast-seen : goal.overflow_cast-seen
overflow_cast-seen c = omega (arith, within_high 0x30 0x39 (digit (goal.at.overflow_cast-seen c).Else-not-is_digit))

pub then_digit-kept-requires : goal.then_digit-kept-requires
then_digit-kept-requires c = omega (arith, within_high 0x30 0x39 (digit (goal.at.then_digit-kept-requires c).Else-not-is_digit))

pub overflow_add-i : goal.overflow_add-i
overflow_add-i c = let p = seen (goal.at.overflow_add-i c).After-is_digit in omega arith

pub loop-seen-smaller : goal.loop-seen-smaller
loop-seen-smaller c = let p = seen (goal.at.loop-seen-smaller c).After-is_digit in omega arith

pub loop-seen-preserved : goal.loop-seen-preserved
loop-seen-preserved c =
    let (n, e, r) = c.loop-seen.invariant in
    (_, c.then_digit-kept.ensures n e, rest_more n _ (seen (goal.at.loop-seen-preserved c).After-is_digit) (sym c.is_digit.ensures ∙ c.if-not-is_digit.false) ∙ r)

pub returns-then-not-is_digit : goal.returns-then-not-is_digit
returns-then-not-is_digit c =
    let (n, e, r) = c.loop-seen.invariant in
    c.number_of.ensures ∙ rest_stop n _ e (seen (goal.at.returns-then-not-is_digit c).After-is_digit) (sym c.is_digit.ensures ∙ c.if-not-is_digit.true) ∙ r

pub returns : goal.returns
returns c =
    let (n, e, r) = c.loop-seen.invariant in
    c.number_of-2.ensures ∙ rest_end _ _ n _ e (sym c.peek.ensures ∙ c.in_default.is) ∙ r
