-- Worked examples of the frame, each computed. Rests on Frames and Spans.
use Rattle.std.specs.Prelude.{ℕ, ◌≡◌, refl, Bool, true, false, List, [], ◌∷◌, Some, None}
use Rattle.utf8.specs.Choice.{pick}
use Rattle.frame.specs.declared.Frame.{Frame}
use Rattle.frame.specs.Places.{place, snippet, span_of}
use Rattle.frame.specs.Frames.{body, hash_marks, opening, closing, raw_literal, same, is_literal, end_of, frame_of}
use Rattle.frame.specs.Spans.{to_snippet, start_of, span_between}

-- a frame by its quote offset, its "end", and whether it is a source literal
abbrev framed : ℕ → ℕ → Bool → Frame
framed quote end literal = record { quote = quote; end = snippet end; literal = literal }

-- B15's text: a, newline, space, b
abbrev lines : List ℕ
lines = 97 ∷ 10 ∷ 32 ∷ 98 ∷ []

-- B15's snippet: r, quote, B15's text, quote
abbrev matching : List ℕ
matching = 114 ∷ 34 ∷ 97 ∷ 10 ∷ 32 ∷ 98 ∷ 34 ∷ []

-- B15: the snippet matches; its quote stands at 6
pub matches : frame_of lines (Some 0) true matching false ≡ framed 2 6 true
unfolding pick body hash_marks opening closing raw_literal same is_literal end_of frame_of
matches = refl

-- a newline appended to the text is not in the snippet
pub matches_without_newline : frame_of (97 ∷ 10 ∷ []) (Some 0) true (114 ∷ 34 ∷ 97 ∷ 34 ∷ []) true ≡ framed 2 3 true
unfolding pick body hash_marks opening closing raw_literal same is_literal end_of frame_of
matches_without_newline = refl

-- one hash, and it stands on both sides: `r#"a"#`
pub one_hash : frame_of (97 ∷ []) (Some 1) true (114 ∷ 35 ∷ 34 ∷ 97 ∷ 34 ∷ 35 ∷ []) false ≡ framed 3 4 true
unfolding pick body hash_marks opening closing raw_literal same is_literal end_of frame_of
one_hash = refl

-- the last hash is missing, `r#"a"`: no source literal, the whole snippet
pub one_hash_short : frame_of (97 ∷ []) (Some 1) true (114 ∷ 35 ∷ 34 ∷ 97 ∷ 34 ∷ []) false ≡ framed 3 5 false
unfolding pick body hash_marks opening closing raw_literal same is_literal end_of frame_of
one_hash_short = refl

-- a snippet too short for its quotes, `r`: the last case
pub too_short : frame_of [] (Some 0) true (114 ∷ []) false ≡ framed 2 1 false
unfolding pick body hash_marks opening closing raw_literal same is_literal end_of frame_of
too_short = refl

-- no snippet, and a newline marked: the text's length less 1
pub newline_marked : frame_of (97 ∷ 10 ∷ []) None false [] true ≡ framed 1 1 false
unfolding pick body hash_marks opening closing raw_literal same is_literal end_of frame_of
newline_marked = refl

-- the empty text and the empty raw string, `r""`
pub empty_literal : frame_of [] (Some 0) true (114 ∷ 34 ∷ 34 ∷ []) false ≡ framed 2 2 true
unfolding pick body hash_marks opening closing raw_literal same is_literal end_of frame_of
empty_literal = refl

-- the empty text has no newline to leave out
pub empty_text : frame_of [] None false [] true ≡ framed 1 0 false
unfolding pick body hash_marks opening closing raw_literal same is_literal end_of frame_of
empty_text = refl

-- without a snippet "end" lacks q: in `ab`, style 0, the span from the b to the end comes out reversed, 3..2
pub reversed : span_between (97 ∷ 98 ∷ []) (frame_of (97 ∷ 98 ∷ []) (Some 0) false [] false) (place 1) (place 2) ≡
    span_of (snippet 3) (snippet 2)
unfolding pick body is_literal end_of frame_of to_snippet start_of span_between
reversed = refl
