-- THE PAGE OF MEMBER TEMPLATES: what the verdict on a call says, "exactly". The words' definitions are Members; the work is in VerdictLaws.
use Rattle.std.specs.Prelude.{◌≡◌, ◌↔◌, List, ℕ, ◌<◌, eqb}
use Rattle.std.proofs.Common.{eq-eqb, ne_eqb}
use Rattle.utf8.specs.Choice.{pick}
use Rattle.utf8.specs.Utf8.{valid_prefix}
use Rattle.frame.specs.declared.Frame.{Frame}
use Rattle.reading.specs.Answers.{frame_for}
use Rattle.reading.specs.declared.Request.{Request}
use Rattle.membership.specs.Members.{number, date, is_called, Is, format_pieces, Member, FirstBroken}
use Rattle.membership.specs.Verdicts.{refused_as, judged_of}
use Rattle.membership.proofs.VerdictLaws.{is_yes_lem, is_broken_lem}
use Rattle.membership.specs.declared.Verdict.{Verdict}

-- A CALL THAT IS NOT REFUSED
module _ (t s : List ℕ) (q : Request) (allowed : refused_as t s q ≡ 0) where
  -- "The check says yes exactly for these."
  pub yes_exactly : (judged_of t s q ≡ Verdict.Yes) ↔ Member t (frame_for t s q)
  unfolding judged_of pick
  yes_exactly = rw (eq-eqb _ _ allowed) (is_yes_lem t (frame_for t s q))

  -- "Otherwise it gives the first broken rule in the order just written and the first piece that breaks it", and nothing else
  pub first_broken : (k p : ℕ) → (judged_of t s q ≡ Verdict.Broken k p) ↔ FirstBroken t (frame_for t s q) k p
  unfolding judged_of pick
  first_broken k p = rw (eq-eqb _ _ allowed) (is_broken_lem t (frame_for t s q) k p)

-- A CALL THAT IS: its number, and the valid prefix for 4
pub refused : (t s : List ℕ) (q : Request) → ¬ (refused_as t s q ≡ 0) →
    judged_of t s q ≡ Verdict.Refused (refused_as t s q) (pick (eqb (refused_as t s q) 4) (valid_prefix t) 0)
unfolding judged_of pick
refused t s q h = rw (ne_eqb _ _ h)

-- SAFE: "I want the date mistake made impossible". In a member template every "date" has a "number" before it.
pub safe : (t : List ℕ) (f : Frame) → Member t f → (i : ℕ) → Is (is_called t date) (format_pieces t f) i →
    (j : ℕ) × (j < i) × Is (is_called t number) (format_pieces t f) j
safe t f m i d = (m.once.0, m.after i m.once.0 d m.once.1, m.once.1)
