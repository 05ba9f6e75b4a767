-- What a done call's contract says: the text is UTF-8, each count is its list's length, and the first records of each list at exit are the
-- definition's. Rests on Answers, Exits and Calls.
use Rattle.std.specs.Prelude.{◌≡◌, ◌↔◌, List, [], ℕ, ◌*◌, length, take, drop}
use Rattle.std.proofs.Math.Path.{ap, sym}
use Rattle.std.proofs.Common.{◌∙◌}
use Rattle.std.proofs.Math.Seq.{take-append_seam}
use Rattle.utf8.specs.Choice.{pick}
use Rattle.utf8.specs.Table37.{WellFormed}
use Rattle.reading.specs.Lists.{pieces, errors, places, lines, counts_of}
use Rattle.reading.specs.declared.Piece.{Piece}
use Rattle.reading.specs.declared.ErrorRecord.{ErrorRecord}
use Rattle.reading.specs.declared.Counts.{Counts}
use Rattle.reading.specs.Answers.{frame_for, mode_for}
use Rattle.reading.specs.Wants.{wants}
use Rattle.laws.specs.Deciding.{Passed, answer_passed}
use Rattle.laws.specs.BrokenLaws.{broken_exactly}
use Rattle.laws.specs.ListLaws.{no_length, pairs_length}
use Rattle.reading.specs.Written.{over, pairs}
use Rattle.reading.specs.Exits.{at_exit}
use Rattle.reading.specs.declared.Request.{Request}
use Rattle.reading.specs.declared.Answer.{Answer}
use Rattle.reading.specs.Calls.{rooms_of, Read}

-- A LIST AT EXIT of a done call: its first records are the new ones
first_held : {A : Type 0} {number count : ℕ} {held : List A} (new old : List A) →
    number ≡ 0 → count ≡ length new → held ≡ at_exit number new old → take count held ≡ new
unfolding at_exit over pick
first_held new old z c e = rw (e, c, z) (take-append_seam new (drop (length new) old))

-- A DONE CALL
module _ {t s : List ℕ} {q : Request} {ps ps' : List Piece} {es es' : List ErrorRecord} {ls ls' ns ns' : List ℕ} {r : Answer}
    (x : Read t s q ps ps' es es' ls ls' ns ns' r) (z : r.number ≡ 0) where
  passed : Passed t s q (rooms_of ps es ls ns)
  passed = answer_passed t s q (rooms_of ps es ls ns) (ap (λ (a : Answer). a.number) (sym x.answer) ∙ z)

  pub is_utf8 : WellFormed t
  is_utf8 = (broken_exactly t).0 passed.whole

  pub counts_are : r.counts ≡ counts_of t (frame_for t s q) (mode_for q)
  counts_are = ap (λ (a : Answer). a.counts) x.answer ∙ passed.counts

  pub arguments_are : r.arguments ≡ wants (pieces t (frame_for t s q) (mode_for q))
  arguments_are = ap (λ (a : Answer). a.arguments) x.answer ∙ passed.arguments

  -- each count is the length of its list, and a span of it takes two numbers at exit
  count_pieces : r.counts.pieces ≡ length (pieces t (frame_for t s q) (mode_for q))
  unfolding counts_of
  count_pieces = ap (λ (c : Counts). c.pieces) counts_are

  count_errors : r.counts.errors ≡ length (errors t (frame_for t s q) (mode_for q))
  unfolding counts_of
  count_errors = ap (λ (c : Counts). c.errors) counts_are

  count_places : 2 * r.counts.places ≡ length (pairs (places t (frame_for t s q) (mode_for q)))
  unfolding counts_of
  count_places = ap (λ (c : Counts). 2 * c.places) counts_are ∙ sym (pairs_length _)

  count_lines : 2 * r.counts.lines ≡ length (pairs (lines t (frame_for t s q) (mode_for q)))
  unfolding counts_of
  count_lines = ap (λ (c : Counts). 2 * c.lines) counts_are ∙ sym (pairs_length _)

  -- no error counted is none recorded
  pub none_counted : (r.counts.errors ≡ 0) ↔ (errors t (frame_for t s q) (mode_for q) ≡ [])
  none_counted = (λ n. no_length _ (sym count_errors ∙ n), λ e. count_errors ∙ ap length e)

  -- AS MANY of a list's first records as are counted are the definition's
  pub held_pieces : take r.counts.pieces ps' ≡ pieces t (frame_for t s q) (mode_for q)
  held_pieces = first_held _ ps z count_pieces x.lists.pieces

  pub held_errors : take r.counts.errors es' ≡ errors t (frame_for t s q) (mode_for q)
  held_errors = first_held _ es z count_errors x.lists.errors

  pub held_places : take (2 * r.counts.places) ls' ≡ pairs (places t (frame_for t s q) (mode_for q))
  held_places = first_held _ ls z count_places x.lists.places

  pub held_lines : take (2 * r.counts.lines) ns' ≡ pairs (lines t (frame_for t s q) (mode_for q))
  held_lines = first_held _ ns z count_lines x.lists.lines
