-- With so many texts left each total has room for them; the next one's length is one of two bytes.
use Rattle.std.specs.Prelude.{◌≤◌, IfSome}
use Rattle.season.proofs.Growth.{Ready}
use Rattle.season.proofs.every_text.Given as goal

abbrev pub invariant-loop-left : goal.invariant-loop-left
invariant-loop-left g l = Ready l.totals l.left × IfSome l.next (λ n. n ≤ 65535)
