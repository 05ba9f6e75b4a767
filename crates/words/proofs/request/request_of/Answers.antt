-- `words::request::request_of` meets its contract: the style is the definition's, and any mark but 0 is a yes.
use Rattle.words.specs.Calls.{request_of}
use Rattle.words.proofs.Marks.{yes}
use Rattle.words.proofs.request.request_of.Goals as goal

pub returns : goal.returns
unfolding request_of
returns c =
    let a = c.args in
    rw (c.style_of.ensures, yes a.given, yes a.newline)
