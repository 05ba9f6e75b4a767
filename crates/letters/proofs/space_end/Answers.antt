-- `letters::space_end` meets its contract: an ASCII character above the space is no whitespace; else the run is asked. Assumes nothing.
use Rattle.std.proofs.Common.{sym, arith, rules}
use Rattle.letters.specs.AsciiLaws.{above_space}
use Rattle.letters.specs.Questions.{is_space}
use Rattle.letters.proofs.Stops.{stop_at}
use Rattle.letters.proofs.space_end.Goals as goal

pub returns-then-matches : goal.returns-then-matches
returns-then-matches c = sym (stop_at is_space c.args.text.now c.args.at (omega arith) (λ h. above_space _ (omega arith) (omega arith)))

pub returns : goal.returns
returns c = c.run_end.ensures is_space (λ x b _ k. search rules)
