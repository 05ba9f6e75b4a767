-- A BARE CALL: what is decided of it before its text is read, and what it comes to. Rests on Parts, Listing and Calling.
use Prim.Native.Nat.{ℕ, ◌≤◌, ◌<◌}
use mathlib.Core.Path.{◌≡◌, refl, sym, ap}
use mathlib.Core.Bool.{Bool, false}
use mathlib.Core.List.{List}
use Rattle.std.specs.Prelude.{Ok, Err}
use native.Mathlib.Omega.{arith}
use borrow.Author.Tests.{lt-ltb, le-ltb}
use lib.Dec.{ltb}
use lib.ListN.{length}
use Rattle.utf8.specs.Choice.{pick}
use Rattle.utf8.specs.Chars.{chars_from}
use Rattle.utf8.specs.Utf8.{valid_prefix}
use Rattle.frame.specs.Places.{snippet}
use Rattle.frame.specs.Frames.{body, is_literal, end_of, frame_of}
use Rattle.frame.specs.declared.Frame.{Frame}
use Rattle.frame.specs.declared.Mode.{Mode}
use Rattle.reading.specs.Answers.{no_counts, answered, is_long, lacks_newline, mode_of, frame_for, mode_for}
use Rattle.reading.specs.Written.{over}
use Rattle.reading.specs.declared.Answer.{Answer}
use Rattle.laws.specs.Deciding.{refused_as, early_number, late_answer}
use Rattle.answer.specs.Asking.{freshly, valid_by, open_asked, OpenedBy}
use Rattle.answer.specs.declared.Readable.{Readable}
use Rattle.answer.specs.declared.Refusal.{Refusal}
use Rattle.words.specs.Calls.{is_yes, style_of, request_of, rooms_in, answer_words, Exported}
use Rattle.export.specs.Parts.{Roomy, Ample, Filled, Enough, bare_request, Bare, ReadBare}
use Rattle.export.proofs.Listing.{roomy_by}
use Rattle.export.proofs.Calling.{read_refused, read_on, whole_call}

-- the frame of no style and no snippet
abbrev pub bare_frame : List ℕ → Frame
bare_frame t = record { quote = 1; end = snippet (length t); literal = false }

-- a text that is read by it
abbrev bare_readable : List ℕ → Readable
bare_readable t = record { frame = bare_frame t; mode = Mode.Format; chars = length (chars_from t 0) }

-- it is the frame of the request
frame_is : (t s : List ℕ) → bare_frame t ≡ frame_for t s bare_request
unfolding request_of style_of is_yes frame_for frame_of end_of is_literal body pick
frame_is t s = refl

-- and Format is its mode
mode_is : Mode.Format ≡ mode_for bare_request
unfolding request_of mode_of pick
mode_is = refl

module _ (t s : List ℕ) (short : length t ≤ 65535) where
  -- of a text within the limit only refusal 4 is left
  only_broken : open_asked (freshly bare_request) t s ≡ pick (ltb (valid_prefix t) (length t)) (refused_as 4 (valid_prefix t)) (answered 0 0 no_counts 0 0)
  unfolding request_of style_of is_yes open_asked valid_by early_number late_answer is_long lacks_newline pick
  only_broken = rw (le-ltb 65535 (length t) short)

  -- and where it is not one the text is read
  opened : answered 0 0 no_counts 0 0 ≡ open_asked (freshly bare_request) t s → OpenedBy t s (freshly bare_request) (Ok (bare_readable t))
  opened e = record { answer = e; readable = record { frame = frame_is t s; mode = mode_is; chars = refl }; short = short }

module _ (t ps es : List ℕ) (x : Enough (length t) (length ps) (length es)) where
  -- a text that is not UTF-8 is refused, and no list is touched
  pub bare_broken : {v : ℕ} {a : Answer} → v ≡ valid_prefix t → v < length t → a ≡ refused_as 4 v → ReadBare t ps ps es es a
  unfolding pick
  bare_broken {v} {a} e h g =
      record {
        read =
            λ s ls ns.
            let o : refused_as 4 v ≡ open_asked (freshly bare_request) t s = rw (only_broken t s x.text, ← e, lt-ltb v (length t) h) refl in
            let y : OpenedBy t s (freshly bare_request) (Err (Refusal.NotUtf8 v)) = record { answer = o; readable = tt; short = tt } in
            read_refused t s (freshly bare_request) ps es ls ns y g;
      }

  -- any other has ample lists
  pub bare_ample : Ample t (bare_frame t) ps es
  bare_ample = record { small = record { text = x.text; quote = omega arith }; literal = refl; pieces = x.pieces; errors = x.errors }

  -- and its call is what reading it at once comes to
  pub bare_filled : {v : ℕ} {ps' es' : List ℕ} {a : Answer} → v ≡ valid_prefix t → length t ≤ v → Filled t (bare_frame t) Mode.Format ps ps' es es' a → ReadBare t ps ps' es es' a
  unfolding pick rooms_in
  bare_filled {v} e h y =
      record {
        read =
            λ s ls ns.
            let o : answered 0 0 no_counts 0 0 ≡ open_asked (freshly bare_request) t s = rw (only_broken t s x.text, ← e, le-ltb v (length t) h) refl in
            let room : Roomy (length t) (bare_frame t) (rooms_in ps es ls ns) = record { literal = refl; pieces = omega (arith, x.pieces); errors = omega (arith, x.errors) } in
            read_on t s (freshly bare_request) ps es ls ns (opened t s x.text o) (roomy_by t (bare_frame t) Mode.Format ps es ls ns refl room y);
      }

-- the whole call: its numbers make the bare request
pub bare_call : (t s ps es ls ns out : List ℕ) {b : Bool} {mode style given newline : ℕ} (hashes : ℕ) {ps' es' out' : List ℕ} {a : Answer} → 8 ≤ length out →
    Bare b mode style given newline → ReadBare t ps ps' es es' a → out' ≡ over (answer_words a) out →
    Exported t s (request_of mode style hashes given newline) ps ps' es es' ls ls ns ns out out' a.number
bare_call t s ps es ls ns out hashes h b y e = whole_call t s _ ps es ls ns out h (ap freshly (sym (b.request hashes))) (y.read s ls ns) e
