-- `quick::given_back` meets its contract: nothing of a word that is a width, and of another each character.
use mathlib.Core.Path.{sym, ◌∙◌}
use native.Mathlib.Omega.{arith}
use Rattle.utf8.specs.Choice.{pick}
use Rattle.quick.specs.Tellings.{back_of}
use Rattle.quick.proofs.given_back.Goals as goal

pub returns-then-not-is_nothing : goal.returns-then-not-is_nothing
unfolding back_of pick
returns-then-not-is_nothing c = rw (sym c.is_nothing.ensures ∙ c.if-not-is_nothing.true)

pub returns-then-word : goal.returns-then-word
unfolding back_of pick
returns-then-word c =
    rw (sym c.is_nothing.ensures ∙ c.if-not-is_nothing.false) (omega (arith, c.requires.chars c.if-word.true, c.requires.on))

pub returns : goal.returns
unfolding back_of pick
returns c = rw (sym c.is_nothing.ensures ∙ c.if-not-is_nothing.false) (rw c.whole.ensures at c.chars_between.ensures.0)
