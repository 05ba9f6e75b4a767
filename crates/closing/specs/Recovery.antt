-- Where a closing brace is missing: kinds 2 and 3, and the suggestions, kinds 8 to 15, which "follow 2 .. only when two characters remain".
use Rattle.std.specs.Prelude.{ℕ, Bool, List, eqb, ltb, length, Option, Some, None}
use Prim.Native.Char.{code}
use Rattle.utf8.specs.Choice.{pick, both}
use Rattle.frame.specs.Places.{range_of}
use Rattle.frame.specs.declared.TextPlace.{TextPlace}
use Rattle.frame.specs.declared.TextRange.{TextRange}
use Rattle.frame.specs.declared.Frame.{Frame}
use Rattle.scan.specs.Characters.{is_at, past_at, consumed}
use Rattle.scan.specs.Words.{word_read}
use Rattle.scan.specs.declared.Consumed.{Consumed}
use Rattle.scan.specs.declared.Flaw.{Flaw}
use Rattle.scan.specs.declared.WordRead.{WordRead}
use Rattle.placeholder.specs.Parts.{is_align}
use Rattle.placeholder.specs.Arguments.{argument_read}
use Rattle.placeholder.specs.declared.ArgumentFlaws.{ArgumentFlaws}
use Rattle.placeholder.specs.declared.Fill.{Fill}
use Rattle.frame.specs.declared.Mode.{Mode}
use Rattle.placeholder.specs.declared.Place.{Place}
use Rattle.placeholder.specs.declared.between.ArgumentRead.{ArgumentRead}
use Rattle.closing.specs.declared.recover.Gap.{Gap}
use Rattle.closing.specs.declared.recover.Hint.{Hint}
use Rattle.closing.specs.declared.recover.Recovery.{Recovery}

-- what says why: "the fill if it is `}`, else the last opening brace" (K2, K3)
abbrev pub because : Option Fill → TextPlace → TextPlace → TextPlace
because None from brace = brace
because (Some f) from brace = pick (eqb f.code (code "}")) from brace

-- "2 expected `}`, found a character; 3 the same at the end" (R8.1)
unfoldable pub gap_at : List ℕ → TextPlace → TextPlace → Gap
gap_at t at why = pick (ltb at.0 (length t)) (Gap.Before at why) (Gap.AtEnd why)

-- nothing is wrong
abbrev pub clean_flaws : ArgumentFlaws
clean_flaws =
    record {
      place = Flaw.Clean;
      raw = Flaw.Clean;
      width = Flaw.Clean;
      precision = Flaw.Clean;
      typetext = Flaw.Clean;
    }

abbrev pub recovered : TextPlace → ℕ → Flaw → ArgumentFlaws → Hint → TextRange → ℕ → Recovery
recovered at n word field hint text given =
    record {
      at = at;
      next = n;
      word = word;
      field = field;
      hint = hint;
      text = text;
      given = given;
    }

-- reading goes on at a place, with no word and no field read
abbrev pub passed_to : TextPlace → ℕ → Hint → Recovery
passed_to at n hint = recovered at n Flaw.Clean clean_flaws hint (range_of at at) 0

-- the literal text that a spec's type is: in Diagnostic mode the type, in the others none (R6.10)
abbrev pub text_taken : Mode → TextRange → TextRange
text_taken Mode.Format typetext = range_of typetext.end typetext.end
text_taken Mode.InlineAsm typetext = range_of typetext.end typetext.end
text_taken Mode.Diagnostic typetext = typetext

-- kind 8, with the word after `?:` (K8)
abbrev pub debug_first : TextPlace → ℕ → WordRead → Recovery
debug_first at n w =
    recovered w.word.end n w.flaw clean_flaws (Hint.DebugFirst at w.word) (range_of w.word.end w.word.end) 0

-- "13 field access; 14 tuple index"; a nameless field is passed and nothing is said (K13, K14)
abbrev pub field_hint : Place → TextPlace → TextPlace → Hint
field_hint (Place.Next n) from to = Hint.Silent
field_hint (Place.At k) from to = Hint.TupleIndex from to
field_hint (Place.Named r) from to = Hint.Field from to

-- the field that was read, and its closing brace if it has one (R8.4)
abbrev pub field_after : Mode → TextPlace → ArgumentRead → Consumed → Recovery
field_after m from field close =
    recovered close.at field.next Flaw.Clean field.flaws
    (pick close.ate (field_hint field.place from field.to) Hint.Silent)
    (text_taken m field.spec.typetext)
    field.given

-- after a name: `.` and a field, which is an argument too and takes its numbers (R8.4, R8.5)
unfoldable pub field_read : List ℕ → Frame → Mode → TextPlace → TextPlace → ℕ → Recovery
field_read t f m from at n =
    let dot = consumed t at (code ".") in
    let field = argument_read t f m dot.at n in
    pick dot.ate (field_after m from field (consumed t field.at (code "}"))) (passed_to at n Hint.Silent)

-- WHAT IS SAID AND PASSED, by the character where a closing brace is missing and the one after it; only when two characters remain (R8.2)
unfoldable pub recover_read : List ℕ → Frame → Mode → TextPlace → Bool → TextPlace → ℕ → Recovery
recover_read t f m from identifier at n =
    let past = past_at t at in
    let here = is_at t at in
    let then = is_at t past in
    let stays = passed_to at n Hint.Silent in
    pick (ltb past.0 (length t))
    (pick (both (here (code "?")) (then (code "}"))) (passed_to past n (Hint.NoColon at))
    (pick (both (here (code "?")) (then (code ":"))) (debug_first at n (word_read t (consumed t past (code ":")).at))
    (pick (here (code "?")) (passed_to past n Hint.Silent)
    (pick (is_align t at) (passed_to past n (Hint.Misplaced at))
    (pick (here (code ",")) (passed_to past n (Hint.Comma at))
    (pick (here (code "+")) (passed_to past n (Hint.PlusFirst at))
    (pick (both (here (code "=")) (then (code "}"))) (passed_to past n (Hint.Equals at))
    (pick (both identifier (here (code "."))) (field_read t f m from at n)
    stays))))))))
    stays
