-- `flawless::short::short_spec` meets its contract: a letter begins a word, anything else counts.
use mathlib.Core.Path.{sym, ◌∙◌}
use Rattle.flawless.proofs.short.short_spec.Goals as goal

pub word_alone-requires : goal.word_alone-requires
word_alone-requires c = (c.requires, c.byte-b.ensures, sym c.ascii_start.ensures ∙ c.if-ascii_start.true)
