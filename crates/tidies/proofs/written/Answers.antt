-- `tidies::written` meets its contract: what the scribe lays is the plain form, and there is room for it.
use mathlib.Core.Path.{refl}
use Rattle.tidies.proofs.PlacedLaws.{ready_asked, with_room}
use Rattle.tidies.proofs.written.Goals as goal

pub put_text-bytes-requires : goal.put_text-bytes-requires
put_text-bytes-requires c = ready_asked c.requires.0

pub returns : goal.returns
returns c = with_room c.requires.1 c.put_text-bytes.ensures refl
