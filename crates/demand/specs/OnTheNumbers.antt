-- DEMAND 3 ON THE NUMBERS: from lists of numbers that the contract of the call for other languages allows (`Exported` of Calls), of the pieces and
-- errors that are read back from them. The page is grammar's Demand; back's CallBack says that the records come back.
use Rattle.std.specs.Prelude.{◌≡◌, refl, Bool, true, false, List, ◌++◌, ℕ, length, drop, get_or}
use Rattle.std.proofs.Common.{sym, ◌∙◌, arith, le_of_eq}
use Rattle.utf8.specs.Choice.{pick}
use Rattle.utf8.specs.Table37.{WellFormed}
use Rattle.frame.specs.declared.Frame.{Frame}
use Rattle.frame.specs.declared.Mode.{Mode}
use Rattle.reading.specs.Lists.{pieces, errors, counts_of}
use Rattle.reading.specs.Wants.{wants}
use Rattle.reading.specs.Written.{over}
use Rattle.reading.specs.declared.Counts.{Counts}
use Rattle.reading.specs.declared.Piece.{Piece}
use Rattle.reading.specs.declared.ErrorRecord.{ErrorRecord}
use Rattle.reading.specs.Answers.{frame_for, mode_for, answer_of}
use Rattle.reading.specs.Exits.{at_exit}
use Rattle.reading.specs.declared.Answer.{Answer}
use Rattle.reading.specs.declared.Request.{Request}
use Rattle.reading.specs.declared.Rooms.{Rooms}
use Rattle.laws.specs.Deciding.{answer_passed}
use Rattle.laws.specs.BrokenLaws.{broken_exactly}
use Rattle.back.specs.Back.{piece_from, error_from, list_from}
use Rattle.back.proofs.DoneCall.{call_back}
use Rattle.words.specs.Calls.{rooms_in, pieces_in, errors_in, answer_words, is_short, Exported}
use Rattle.grammar.specs.Demand.{Demand}
use Rattle.unique.specs.Demand3 as D
use Rattle.grammar.specs.Numbering.{numbers}
use Rattle.demand.specs.ArgumentLaws.{Below, numbers_below}
use Rattle.demand.specs.OnTheCall.{quote_for, quote_of_style}

-- the pieces and the errors that are read back, as many as the answer's third and fourth number say: 40 numbers a piece, 16 an error
abbrev pub pieces_back : List ℕ → List ℕ → List Piece
pieces_back out ps = list_from 40 piece_from (get_or out 2 0) ps

abbrev pub errors_back : List ℕ → List ℕ → List ErrorRecord
errors_back out es = list_from 16 error_from (get_or out 3 0) es

-- What holds of a done call that left the numbers out, ps and es.
pub record OnTheNumbers (t : List ℕ) (q : Request) (ps es out : List ℕ) : Type 0 where
  pub utf8 : WellFormed t
  pub demand : Demand (mode_for q) (quote_for q) t (pieces_back out ps) (errors_back out es)
  -- the answer's seventh number is how many arguments those pieces want, and no implicit place or star is at or above it
  pub arguments : get_or out 6 0 ≡ wants (pieces_back out ps)
  pub enough : Below (get_or out 6 0) (numbers (pieces_back out ps))

-- AN ANSWER OF 0 is the answer's own number, and the answer is written
record Told (a : Answer) (out out' : List ℕ) : Type 0 where
  done : a.number ≡ 0
  held : out' ≡ over (answer_words a) out

told : (a : Answer) (out out' : List ℕ) (b : Bool) → pick b 255 a.number ≡ 0 → out' ≡ pick b out (over (answer_words a) out) → Told a out out'
unfolding pick
told a out out' true e h = absurd (omega arith)
told a out out' false e h = record { done = e; held = h }

-- the answer's third and fourth number are its counts of pieces and errors
counts_held : (a : Answer) (out out' : List ℕ) (c : Counts) → out' ≡ over (answer_words a) out → a.counts ≡ c →
    (get_or out' 2 0 ≡ c.pieces) × (get_or out' 3 0 ≡ c.errors)
unfolding over answer_words
counts_held a out out' c h e = rw (h, ← e) (refl, refl)

-- the seventh is how many arguments
arguments_held : (a : Answer) (out out' : List ℕ) (w : ℕ) → out' ≡ over (answer_words a) out → a.arguments ≡ w → get_or out' 6 0 ≡ w
unfolding over answer_words
arguments_held a out out' w h e = rw h e

-- a list of numbers of a done call
exit_over : (number : ℕ) (new old held : List ℕ) → number ≡ 0 → held ≡ at_exit number new old → held ≡ new ++ drop (length new) old
unfolding at_exit over pick
exit_over number new old held z e = rw z at e

-- THE THEOREM
pub on_the_numbers : {t s : List ℕ} {q : Request} {ps ps' es es' ls ls' ns ns' out out' : List ℕ} {r : ℕ} →
    Exported t s q ps ps' es es' ls ls' ns ns' out out' r → r ≡ 0 → OnTheNumbers t q ps' es' out'
unfolding pieces_in errors_in counts_of
on_the_numbers {t} {s} {q} {ps} {ps'} {es} {es'} {ls} {ls'} {ns} {ns'} {out} {out'} {r} x z =
    let f : Frame = frame_for t s q in
    let m : Mode = mode_for q in
    let rooms : Rooms = rooms_in ps es ls ns in
    let a : Answer = answer_of t s q rooms in
    let k = told a out out' (is_short out) (sym x.number ∙ z) x.answer in
    let done = answer_passed t s q rooms k.done in
    let v = (broken_exactly t).0 done.whole in
    let back = call_back t s q rooms k.done in
    let n = counts_held a out out' (counts_of t f m) k.held done.counts in
    let ps_back : pieces_back out' ps' ≡ pieces t f m = rw (exit_over r (pieces_in t f m) ps ps' z x.pieces, n.0) (back.pieces _) in
    let es_back : errors_back out' es' ≡ errors t f m = rw (exit_over r (errors_in t f m) es es' z x.errors, n.1) (back.errors _) in
    let w = arguments_held a out out' (wants (pieces t f m)) k.held done.arguments in
    record {
      utf8 = v;
      demand = rw (ps_back, es_back, ← (quote_of_style t s q)) (D.demand t f m v);
      arguments = rw ps_back w;
      enough = rw ps_back (numbers_below (get_or out' 6 0) (pieces t f m) (le_of_eq (sym w)));
    }
