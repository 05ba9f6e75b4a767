-- The calls for other languages on a text that arrives in parts: the state as three numbers. Rests on `uploads` and on `words`' Calls.
use Rattle.std.specs.Prelude.{ℕ, ◌≡◌, Bool, List, [], ◌∷◌, ltb, length, get_or}
use Rattle.utf8.specs.Choice.{pick, either}
use Rattle.reading.specs.Answers.{frame_for, mode_for}
use Rattle.reading.specs.Exits.{at_exit}
use Rattle.reading.specs.Lists.{places, lines}
use Rattle.reading.specs.Written.{over, pairs}
use Rattle.reading.specs.declared.Request.{Request}
use Rattle.words.specs.Calls.{is_yes, rooms_in, pieces_in, errors_in, answer_words, is_short}
use Rattle.uploads.specs.Parts.{is_unfit, part_number, part_state, part_buffer}
use Rattle.uploads.specs.Finishes.{taken, finish_answer}
use Rattle.uploads.specs.declared.Upload.{Upload}

-- the state that numbers make: any third number but 0 is a yes (R16.8)
unfoldable pub state_of : List ℕ → Upload
state_of k = record { count = get_or k 0 0; valid = get_or k 1 0; over = is_yes (get_or k 2 0) }

-- and its numbers
unfoldable pub state_words : Upload → List ℕ
state_words u = u.count ∷ u.valid ∷ pick u.over 1 0 ∷ []

-- the list of the state has no room for three (R16.8)
unfoldable pub is_bare : List ℕ → Bool
is_bare k = ltb (length k) 3

-- A PART: its number, and the state and the buffer before and after it; refused, neither changes (R16.8)
pub record Sent (k k' b b' p : List ℕ) (r : ℕ) : Type 0 where
  pub number : r ≡ pick (is_bare k) 255 (part_number (state_of k) b)
  pub state : k' ≡ pick (either (is_bare k) (is_unfit (state_of k) b)) k (over (state_words (part_state (state_of k) b p)) k)
  pub buffer : b' ≡ pick (is_bare k) b (part_buffer (state_of k) b p)

-- a list is too short: that of the answer, or that of the state
abbrev pub lacks : List ℕ → List ℕ → Bool
lacks out k = either (is_short out) (is_bare k)

-- A FINISH: its number, and its lists before and after it (R16.8)
pub record Closed (k b s : List ℕ) (q : Request) (ps ps' es es' ls ls' ns ns' out out' : List ℕ) (r : ℕ) : Type 0 where
  pub number : r ≡ pick (lacks out k) 255 (finish_answer (state_of k) b s q (rooms_in ps es ls ns)).number
  pub answer : out' ≡ pick (lacks out k) out (over (answer_words (finish_answer (state_of k) b s q (rooms_in ps es ls ns))) out)
  pub pieces : ps' ≡ at_exit r (pieces_in (taken (state_of k) b) (frame_for (taken (state_of k) b) s q) (mode_for q)) ps
  pub errors : es' ≡ at_exit r (errors_in (taken (state_of k) b) (frame_for (taken (state_of k) b) s q) (mode_for q)) es
  pub places : ls' ≡ at_exit r (pairs (places (taken (state_of k) b) (frame_for (taken (state_of k) b) s q) (mode_for q))) ls
  pub lines : ns' ≡ at_exit r (pairs (lines (taken (state_of k) b) (frame_for (taken (state_of k) b) s q) (mode_for q))) ns
