-- `member::sorts_at` meets its contract: by the place; a name is compared with both, byte for byte.
use Rattle.member.proofs.sorts_at.Goals as goal

pub returns-in-Next : goal.returns-in-Next
returns-in-Next c = rw c.in-Next.is

pub returns-in-At : goal.returns-in-At
returns-in-At c = rw c.in-At.is

pub returns-in-Named : goal.returns-in-Named
returns-in-Named c = rw (c.in-Named.is, ← c.literal_text-name.ensures, ← c.is_number.ensures, ← c.is_date.ensures)
