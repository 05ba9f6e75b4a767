-- `utf8::check` meets its contract: the check from place 0 on. Assumes nothing.
use mathlib.Core.Path.{◌∙◌, ap}
use Prim.Native.Nat.{ℕ}
use lib.ListN.{length}
use Rattle.utf8.specs.Chars.{chars_of}
use Rattle.utf8.specs.Utf8Laws.{valid_all}
use Rattle.utf8.proofs.check.Goals as goal

pub returns : goal.returns
returns c =
    let t = c.args.text.now in
    let e = c.check_from.ensures in
    (e.0 ∙ valid_all t, e.1 ∙ ap (λ (k : ℕ). length (chars_of t 0 k)) (valid_all t))
