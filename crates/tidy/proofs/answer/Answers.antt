-- What is written fits the output.
use Rattle.tidiness.proofs.TidyLaws.{done_fits, done_taken}
use Rattle.tidy.proofs.answer.Goals as goal

pub slice_bounds-write_all-end : goal.slice_bounds-write_all-end
slice_bounds-write_all-end g c = done_fits c.tidy-told.ensures c.if-told-ne0.false

pub slice_bounds-write_all-end-2 : goal.slice_bounds-write_all-end-2
slice_bounds-write_all-end-2 g c = done_taken c.tidy-told.ensures c.if-told-ne0.false
