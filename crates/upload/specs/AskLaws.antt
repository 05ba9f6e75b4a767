-- The answer to what the finish asks is the finish's. Rests on Asks and Finishes.
use Rattle.std.specs.Prelude.{ℕ, ◌≡◌, refl, Bool, true, false, List, eqb, ltb, length}
use Rattle.utf8.specs.Choice.{pick, either}
use Rattle.reading.specs.Answers.{no_counts, answered, is_styled, is_long, lacks_newline}
use Rattle.reading.specs.declared.Answer.{Answer}
use Rattle.reading.specs.declared.Request.{Request}
use Rattle.reading.specs.declared.Rooms.{Rooms}
use Rattle.laws.specs.Deciding.{refused_as, early_number, late_answer, counted_answer}
use Rattle.answer.specs.Asking.{valid_by, open_asked, asked_answer}
use Rattle.uploads.specs.Parts.{is_unfit}
use Rattle.uploads.specs.Finishes.{taken, finish_answer}
use Rattle.uploads.specs.declared.Upload.{Upload}
use Rattle.upload.specs.Asks.{asked_of}

-- the order of the tests, whatever they say
same : (unfit mode styled long broken lacks : Bool) (valid : ℕ) (a : Answer) →
    let early : ℕ = pick mode 1 (pick styled (pick long 3 0) 2) in
    let late : Answer → Answer = λ x. pick broken (refused_as 4 valid) (pick lacks (refused_as 5 0) x) in
    let first : Answer = pick unfit (refused_as 16 0) (pick (eqb early 0) (late (answered 0 0 no_counts 0 0)) (refused_as early 0)) in
    pick (eqb first.number 0) a first ≡ pick unfit (refused_as 16 0) (pick (eqb early 0) (late a) (refused_as early 0))
unfolding pick
same true mode styled long broken lacks valid a = refl
same false true styled long broken lacks valid a = refl
same false false false long broken lacks valid a = refl
same false false true true broken lacks valid a = refl
same false false true false true lacks valid a = refl
same false false true false false true valid a = refl
same false false true false false false valid a = refl

-- THE FINISH'S ANSWER
pub asks_finish : (u : Upload) (b s : List ℕ) (q : Request) (r : Rooms) → asked_answer (asked_of u b q) (taken u b) s r ≡ finish_answer u b s q r
unfolding asked_answer open_asked valid_by finish_answer early_number late_answer pick
asks_finish u b s q r =
    same (is_unfit u b) (ltb 2 q.mode) (is_styled q.style q.given) (either u.over (is_long (taken u b) q.given s)) (ltb u.valid (length (taken u b)))
    (lacks_newline (taken u b) q.newline) u.valid (counted_answer (taken u b) s q r)
