-- What is written fits its output.
use Rattle.tidiness.proofs.TidyLaws.{done_fits, done_taken}
use Rattle.alike.proofs.compare.Goals as goal

pub slice_bounds-put_likeness-end : goal.slice_bounds-put_likeness-end
slice_bounds-put_likeness-end g c = done_fits c.tidy-told.ensures c.if-told-ne0.false

pub slice_bounds-put_likeness-end-2 : goal.slice_bounds-put_likeness-end-2
slice_bounds-put_likeness-end-2 g c = done_taken c.tidy-told.ensures c.if-told-ne0.false

pub slice_bounds-put_likeness-end-3 : goal.slice_bounds-put_likeness-end-3
slice_bounds-put_likeness-end-3 g c = done_fits c.tidy-other.ensures c.if-other-ne0.false

pub slice_bounds-put_likeness-end-4 : goal.slice_bounds-put_likeness-end-4
slice_bounds-put_likeness-end-4 g c = done_taken c.tidy-other.ensures c.if-other-ne0.false
