-- `answer::decide::admitted` meets its contract: the frame and the mode are the definitions'.
use mathlib.Core.Path.{refl}
use Rattle.reading.specs.Answers.{frame_for}
use Rattle.answer.proofs.decide.admitted.Goals as goal

pub returns : goal.returns
unfolding frame_for
returns c = rw (c.mode_of.ensures, c.frame_of.ensures, c.style_of-style.ensures) (record { frame = refl; mode = refl; chars = refl })
