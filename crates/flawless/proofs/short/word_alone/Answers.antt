-- `flawless::short::word_alone` meets its contract: a word that begins with none of `x`, `X` and `_`, up to the closing brace.
use mathlib.Core.Path.{sym, ◌∙◌}
use Rattle.flawless.proofs.Shortening.{word_closed}
use Rattle.flawless.proofs.short.word_alone.Goals as goal

pub returns : goal.returns
returns c =
    let p = c.requires in
    word_closed _ p.0 p.1 p.2 c.word_at-word.ensures (sym c.is_type_sign.ensures ∙ c.if-is_type_sign.false) c.if-b-eq95.false
    (rw c.no_count-3.ensures at c.given_back.ensures) c.no_count.ensures c.no_count-2.ensures c.word_type.ensures c.short_of.ensures
