-- `words::put_zeros` meets its contract: four at a time.
use Rattle.words.proofs.Wholes.{zeros_laid}
use Rattle.words.proofs.put_zeros.Goals as goal

pub returns : goal.returns
returns c =
    zeros_laid c.args.out.now c.args.k c.requires
    c.put4.ensures
    c.put4-2.ensures
    c.put4-3.ensures
    c.put4-4.ensures
    c.put4-5.ensures
    c.put4-6.ensures
