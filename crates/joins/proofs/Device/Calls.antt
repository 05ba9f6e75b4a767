-- What a done call says of its text and lists, and the answer of the call for the joined text. Rests on Texts, and on `laws` of answers.
use Rattle.std.specs.Prelude.{◌≡◌, refl, Bool, true, false, List, [], ◌∷◌, ◌++◌, ℕ, ◌+◌, ◌-◌, ◌≤◌, eqb, ltb, length, take, drop, Option, Some, None}
use Rattle.std.proofs.Math.Path.{ap}
use Rattle.std.proofs.Common.{sym, ◌∙◌, arith, le-ltb, ne_eqb, length-append, get_or-append-add}
use Rattle.std.proofs.lemmas.Bool.{false≢true}
use Rattle.std.proofs.Math.Seq.{take-append_seam}
use Rattle.utf8.specs.Choice.{pick}
use Rattle.utf8.specs.Table37.{WellFormed}
use Rattle.frame.specs.Frames.{frame_of, is_literal}
use Rattle.frame.specs.declared.Mode.{Mode}
use Rattle.reading.specs.Lists.{pieces, errors, places, lines, counts_of}
use Rattle.reading.specs.Moves.{moves}
use Rattle.reading.specs.Wants.{wants}
use Rattle.reading.specs.Answers.{answered, is_styled, is_long, ends_in_newline, lacks_newline, style_of, frame_for, mode_for, answer_of}
use Rattle.reading.specs.Written.{over}
use Rattle.reading.specs.Exits.{at_exit}
use Rattle.reading.specs.Calls.{rooms_of, Read}
use Rattle.reading.specs.declared.Answer.{Answer}
use Rattle.reading.specs.declared.Counts.{Counts}
use Rattle.reading.specs.declared.ErrorRecord.{ErrorRecord}
use Rattle.reading.specs.declared.Piece.{Piece}
use Rattle.reading.specs.declared.Request.{Request}
use Rattle.reading.specs.declared.Rooms.{Rooms}
use Rattle.joins.specs.Joins.{pieces_only}
use Rattle.laws.specs.Deciding.{refused_as, room_for, counted_answer, answer_decided, Passed, answer_passed}
use Rattle.laws.specs.BrokenLaws.{broken_exactly}
use Rattle.laws.specs.ListLaws.{no_length}

-- A LIST AT EXIT of a done call: its first records are the new ones
first_held : {A : Type 0} {number count : ℕ} {held : List A} (new old : List A) →
    number ≡ 0 → count ≡ length new → held ≡ at_exit number new old → take count held ≡ new
unfolding at_exit over pick
first_held new old z c e = rw (e, c, z) (take-append_seam new (drop (length new) old))

-- A DONE CALL
module _ {t s : List ℕ} {q : Request} {ps ps' : List Piece} {es es' : List ErrorRecord} {ls ls' ns ns' : List ℕ} {r : Answer}
    (x : Read t s q ps ps' es es' ls ls' ns ns' r) (z : r.number ≡ 0) where
  pub is_done : (answer_of t s q (rooms_of ps es ls ns)).number ≡ 0
  is_done = ap (λ (a : Answer). a.number) (sym x.answer) ∙ z

  passed : Passed t s q (rooms_of ps es ls ns)
  passed = answer_passed t s q (rooms_of ps es ls ns) is_done

  pub is_utf8 : WellFormed t
  is_utf8 = (broken_exactly t).0 passed.whole

  counts_are : r.counts ≡ counts_of t (frame_for t s q) (mode_for q)
  counts_are = ap (λ (a : Answer). a.counts) x.answer ∙ passed.counts

  -- no error counted is none recorded
  pub no_errors : r.counts.errors ≡ 0 → errors t (frame_for t s q) (mode_for q) ≡ []
  unfolding counts_of
  no_errors n = no_length _ (sym (ap (λ (c : Counts). c.errors) counts_are) ∙ n)

  -- as many of the first pieces as are counted
  count_pieces : r.counts.pieces ≡ length (pieces t (frame_for t s q) (mode_for q))
  unfolding counts_of
  count_pieces = ap (λ (c : Counts). c.pieces) counts_are

  pub held_pieces : take r.counts.pieces ps' ≡ pieces t (frame_for t s q) (mode_for q)
  held_pieces = first_held _ ps z count_pieces x.lists.pieces

  pub held_first : take (length (pieces t (frame_for t s q) (mode_for q))) ps' ≡ pieces t (frame_for t s q) (mode_for q)
  held_first = first_held _ ps z refl x.lists.pieces

-- ONE STYLE has one quote offset
pub one_quote : (t u s w : List ℕ) (q k : Request) → q.style ≡ k.style → (frame_for t s q).quote ≡ (frame_for u w k).quote
unfolding frame_for frame_of
one_quote t u s w q k e = rw e

-- NO SNIPPET: no argument place and no line
unsnipped : (t s : List ℕ) (y : Option ℕ) (given newline : Bool) → given ≡ false → is_literal t y given s newline ≡ false
unfolding is_literal
unsnipped t s None given newline e = refl
unsnipped t s (Some h) given newline e = rw e

module _ (t s : List ℕ) (q : Request) (m : Mode) (e : q.given ≡ false) where
  no_literal : (frame_for t s q).literal ≡ false
  unfolding frame_for frame_of
  no_literal = unsnipped t s (style_of q.style) q.given q.newline e

  no_places : places t (frame_for t s q) m ≡ []
  unfolding places pick
  no_places = rw no_literal

  no_lines : lines t (frame_for t s q) m ≡ []
  unfolding lines pick
  no_lines = rw no_literal

-- so pieces alone are counted
counts_only : (t s : List ℕ) (q : Request) (xs : List Piece) → q.given ≡ false → pieces t (frame_for t s q) (mode_for q) ≡ xs →
    errors t (frame_for t s q) (mode_for q) ≡ [] → counts_of t (frame_for t s q) (mode_for q) ≡ pieces_only (length xs)
unfolding counts_of
counts_only t s q xs e p n = cc (p, n, no_places t s q (mode_for q) e, no_lines t s q (mode_for q) e)

room_only : (n : ℕ) (r : Rooms) → room_for (pieces_only n) r ≡ pick (ltb r.pieces n) 6 0
unfolding room_for pick
room_only n r = rw (le-ltb r.errors 0 (omega arith), le-ltb r.places 0 (omega arith), le-ltb r.lines 0 (omega arith))

-- without room none is said to be wanted
said_room : (short : Bool) (w : ℕ) → pick (eqb (pick short 6 0) 0) w 0 ≡ pick short 0 w
unfolding pick
said_room true w = refl
said_room false w = refl

-- THE TESTS BEFORE A TEXT IS READ: what an answer of 0 says of them
passes : (mode styled long broken lacks : Bool) (prefix : ℕ) (a : Answer) →
    let x =
    pick mode (refused_as 1 0)
    (pick styled
    (pick long (refused_as 3 0) (pick broken (refused_as 4 prefix) (pick lacks (refused_as 5 0) a)))
    (refused_as 2 0))
    in
    x.number ≡ 0 → (mode ≡ false) × (styled ≡ true) × (lacks ≡ false)
unfolding pick
passes true styled long broken lacks prefix a e = absurd (omega arith)
passes false false long broken lacks prefix a e = absurd (omega arith)
passes false true true broken lacks prefix a e = absurd (omega arith)
passes false true false true lacks prefix a e = absurd (omega arith)
passes false true false false true prefix a e = absurd (omega arith)
passes false true false false false prefix a e = (refl, refl, refl)

pub tests : (u s : List ℕ) (q : Request) (r : Rooms) → (answer_of u s q r).number ≡ 0 →
    (ltb 2 q.mode ≡ false) × (is_styled q.style q.given ≡ true) × (lacks_newline u q.newline ≡ false)
tests u s q r e = passes _ _ _ _ _ _ _ (ap (λ (a : Answer). a.number) (sym (answer_decided u s q r)) ∙ e)

-- a newline at the end of the second text is one at the end of both
ends_append : (t u : List ℕ) → ends_in_newline u ≡ true → ends_in_newline (t ++ u) ≡ true
unfolding ends_in_newline pick
ends_append t [] e = absurd (false≢true e)
ends_append t (b ∷ u) e =
    let l = length-append t (b ∷ u) in
    let n : eqb (length (t ++ (b ∷ u))) 0 ≡ false = ne_eqb (length (t ++ (b ∷ u))) 0 (λ k. omega (arith, l, k)) in
    let o : eqb (length (b ∷ u)) 0 ≡ false = ne_eqb (length (b ∷ u)) 0 (λ k. omega (arith, k)) in
    let i : length (t ++ (b ∷ u)) - 1 ≡ length t + (length (b ∷ u) - 1) = omega (arith, l) in
    rw (n, i, get_or-append-add t (b ∷ u) (length (b ∷ u) - 1) 0) (rw o at e)

lacks_append : (t u : List ℕ) (newline : Bool) → lacks_newline u newline ≡ false → lacks_newline (t ++ u) newline ≡ false
unfolding lacks_newline pick
lacks_append t u false e = refl
lacks_append t u true e = rw (ends_append t u (ends (ends_in_newline u) e))
  where
    ends : (b : Bool) → pick b false true ≡ false → b ≡ true
    ends true e = refl
    ends false e = sym e

-- no snippet is too long
not_long : (t s : List ℕ) (given : Bool) → length t ≤ 65535 → given ≡ false → is_long t given s ≡ false
unfolding is_long pick
not_long t s given l e = rw (le-ltb 65535 (length t) l, e)

-- THE ANSWER for the joined text: the pieces are counted, and a list too short for them is all that is refused
pub joined_answer : (t u s w : List ℕ) (q : Request) (r k : Rooms) (xs : List Piece) → WellFormed (t ++ u) → length (t ++ u) ≤ 65535 → q.given ≡ false →
    (answer_of u w q k).number ≡ 0 → pieces (t ++ u) (frame_for (t ++ u) s q) (mode_for q) ≡ xs → errors (t ++ u) (frame_for (t ++ u) s q) (mode_for q) ≡ [] →
    let short = ltb r.pieces (length xs) in
    answer_of (t ++ u) s q r ≡
    answered (pick short 6 0) 0 (pieces_only (length xs)) (pick short 0 (wants xs)) (pick short 0 (moves (t ++ u) (frame_for (t ++ u) s q) (mode_for q)))
unfolding counted_answer pick
joined_answer t u s w q r k xs v l e z p n =
    let x = tests u w q k z in
    let counts = counts_only (t ++ u) s q xs e p n in
    answer_decided (t ++ u) s q r
    ∙ rw (x.0, x.1, not_long (t ++ u) s q.given l e, (broken_exactly (t ++ u)).1 v, lacks_append t u q.newline x.2, counts, room_only (length xs) r, p, said_room (ltb r.pieces (length xs)) (wants xs), said_room (ltb r.pieces (length xs)) (moves (t ++ u) (frame_for (t ++ u) s q) (mode_for q)))
