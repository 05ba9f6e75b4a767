-- `upload::asked_of` meets its contract: each field is what it says. Assumes nothing.
use mathlib.Core.Path.{ap}
use mathlib.Core.Bool.{Bool, true}
use Rattle.upload.proofs.asked_of.Goals as goal

pub returns : goal.returns
returns c =
    let a = c.args in
    ap (λ (x : Bool). record { request = a.request; unfit = x; over = a.state.over; checked = true; valid = a.state.valid }) c.is_unfit-unfit.ensures
