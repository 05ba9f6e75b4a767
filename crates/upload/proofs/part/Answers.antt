-- `upload::part` meets its contract: refused where the state does not fit, left out where it is past the limit, else laid after those before it and
-- checked from where the check stood. What each comes to is `proofs/Parting.antt`'s. Assumes nothing.
use mathlib.Core.Path.{◌≡◌, sym, ◌∙◌, ap}
use mathlib.Core.Bool.{false}
use native.Mathlib.Omega.{arith}
use lib.ListN.{length}
use lib.Seq.{length-take-le}
use Rattle.utf8.specs.Choice.{either}
use Rattle.uploads.specs.Parts.{is_unfit, is_too_much}
use Prim.Native.Nat.{◌≤◌}
use Rattle.upload.proofs.Parting.{whole, refused, left_out, short, room, took}
use Rattle.upload.proofs.part.Goals.{After-put_range-end, Else-is_past}
use Rattle.upload.proofs.part.Goals as goal

pub returns-then-is_unfit : goal.returns-then-is_unfit
returns-then-is_unfit c = refused _ _ _ (sym c.is_unfit.ensures ∙ c.if-is_unfit.true)

pub returns-then-is_past : goal.returns-then-is_past
returns-then-is_past c = left_out _ _ _ (sym c.is_unfit.ensures ∙ c.if-is_unfit.false) (sym c.is_past.ensures ∙ c.if-is_past.true)

-- the two tests of a part that is taken
fits : (c : Else-is_past) → is_unfit c.args.state c.args.buffer.now ≡ false
fits c = sym c.is_unfit.ensures ∙ c.if-is_unfit.false

goes : (c : Else-is_past) → either c.args.state.over (is_too_much c.args.state c.args.bytes.now) ≡ false
goes c = sym c.is_past.ensures ∙ c.if-is_past.false

pub put_range-end-requires : goal.put_range-end-requires
put_range-end-requires c = let h = short _ _ _ (fits (goal.at.put_range-end-requires c).Else-is_past) (goes (goal.at.put_range-end-requires c).Else-is_past) in omega (arith, h, ap length (whole c.args.bytes.now))

fits_within : (c : After-put_range-end) → is_unfit c.args.state c.args.buffer.now ≡ false
fits_within c = sym c.is_unfit.ensures ∙ c.if-is_unfit.false

goes_within : (c : After-put_range-end) → either c.args.state.over (is_too_much c.args.state c.args.bytes.now) ≡ false
goes_within c = sym c.is_past.ensures ∙ c.if-is_past.false

within : (c : After-put_range-end) → c.put_range-end.result ≤ length c.put_range-end.new.out
within c = room _ _ _ (fits_within c) (goes_within c) c.put_range-end.ensures

pub slice_bounds-check_from-end : goal.slice_bounds-check_from-end
slice_bounds-check_from-end c = within (goal.at.slice_bounds-check_from-end c).After-put_range-end

pub slice_bounds-check_from-end-2 : goal.slice_bounds-check_from-end-2
slice_bounds-check_from-end-2 c = sym (length-take-le _ _ (within (goal.at.slice_bounds-check_from-end-2 c).After-put_range-end))

pub returns : goal.returns
returns c = took _ _ _ (fits (goal.at.returns c).Else-is_past) (goes (goal.at.returns c).Else-is_past) c.put_range-end.ensures c.check_from-checked.ensures.0
