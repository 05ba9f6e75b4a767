-- What the finish asks: the request, with what was carried. Rests on `uploads`' Parts and on `answer`'s Asking.
use Rattle.std.specs.Prelude.{ℕ, true, List}
use Rattle.reading.specs.declared.Request.{Request}
use Rattle.answer.specs.declared.Asked.{Asked}
use Rattle.uploads.specs.Parts.{is_unfit}
use Rattle.uploads.specs.declared.Upload.{Upload}

-- (R16.6)
abbrev pub asked_of : Upload → List ℕ → Request → Asked
asked_of u b q = record { request = q; unfit = is_unfit u b; over = u.over; checked = true; valid = u.valid }
