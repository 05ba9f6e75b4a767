-- Every place that a fault of a placeholder names stands between the placeholder's brace, or any byte before its place, and the end of the text: part by part up to
-- a whole placeholder, then slot by slot; so every fault of a reading is within the text.
-- Rests on the definitions of `scan`, `placeholder` and `closing`, and on the laws of where their parts stop.
use Rattle.std.specs.Prelude.{ℕ, ◌≤◌, Bool, ◌≡◌, List, length, Option, Some, None}
use Rattle.std.proofs.Common.{sym, ap, ◌∙◌, le_trans}
use Rattle.std.proofs.Math.Path.{subst}
use native.Mathlib.Omega.{arith}
use Rattle.utf8.specs.ChoiceLaws.{pick_elim}
use Rattle.utf8.specs.Chars.{run_end}
use Rattle.utf8.specs.CharLaws.{peeked}
use Rattle.frame.specs.Places.{place, range_of}
use Rattle.frame.specs.declared.TextPlace.{TextPlace}
use Rattle.frame.specs.declared.TextRange.{TextRange}
use Rattle.frame.specs.declared.Frame.{Frame}
use Rattle.frame.specs.declared.Mode.{Mode}
use Rattle.scan.specs.Characters.{past_at, consumed, spaces_past}
use Rattle.scan.specs.Words.{word_end, word_read, is_digit, decimal, numeral, too_large, digits_at, number_from, number_read}
use Rattle.scan.specs.Counts.{number_count, name_count, count_after, count_read}
use Rattle.scan.specs.ScanLaws.{seen_elim, run_on, run_in, consumed_on, consumed_in, past_on, past_in, spaces_on, spaces_in, word_on, word_in, number_on, number_in, count_on, count_in}
use Rattle.scan.specs.declared.CountRead.{CountRead}
use Rattle.scan.specs.declared.Flaw.{Flaw}
use Rattle.scan.specs.declared.NumberRead.{NumberRead}
use Rattle.scan.specs.declared.Numeral.{Numeral}
use Rattle.placeholder.specs.Places.{raw_place, word_place, place_after, place_read}
use Rattle.placeholder.specs.Parts.{fill_seen, fill_read, align_read, sign_read, plain_width, width_read, after_dot, precision_read}
use Rattle.placeholder.specs.Types.{hex_type, debug_type, word_type, type_read}
use Rattle.placeholder.specs.Format.{format_read}
use Rattle.placeholder.specs.Specs.{diagnostic_type, after_colon, spec_read}
use Rattle.placeholder.specs.Arguments.{argument_read}
use Rattle.placeholder.specs.declared.ArgumentFlaws.{ArgumentFlaws}
use Rattle.placeholder.specs.declared.Hex.{Hex}
use Rattle.placeholder.specs.declared.Place.{Place}
use Rattle.placeholder.specs.declared.position.PlaceRead.{PlaceRead}
use Rattle.placeholder.specs.declared.format.FillRead.{FillRead}
use Rattle.placeholder.specs.declared.format.AlignRead.{AlignRead}
use Rattle.placeholder.specs.declared.format.SignRead.{SignRead}
use Rattle.placeholder.specs.declared.format.WidthRead.{WidthRead}
use Rattle.placeholder.specs.declared.format.PrecisionRead.{PrecisionRead}
use Rattle.placeholder.specs.declared.format.TypeRead.{TypeRead}
use Rattle.placeholder.specs.declared.format.SpecRead.{SpecRead}
use Rattle.closing.specs.OnwardLaws.{argument_on, argument_in}
use Rattle.closing.specs.Recovery.{gap_at, clean_flaws, passed_to, field_hint, field_read, recover_read}
use Rattle.closing.specs.Recovering.{after_question, sign_hint, recovering, recover_table}
use Rattle.closing.specs.Wholes.{missing_read, placeholder_read}
use Rattle.closing.specs.declared.recover.Gap.{Gap}
use Rattle.closing.specs.declared.recover.Hint.{Hint}
use Rattle.closing.specs.declared.recover.Recovery.{Recovery}
use Rattle.closing.specs.declared.whole.Closing.{Closing}
use Rattle.closing.specs.declared.whole.PlaceholderRead.{PlaceholderRead}
use Rattle.reading.specs.Steps.{after_open, after_close, step_at, onward, reading}
use Rattle.reading.specs.Faults.{flaw_fault, gap_fault, hint_fault, argument_slots, missing_slots, closing_slots, step_slots, faults_of, Finding}
use Rattle.reading.specs.Lists.{gather, found}
use Rattle.reading.specs.declared.Fault.{Fault}
use Rattle.reading.specs.declared.State.{State}
use Rattle.reading.specs.declared.Step.{Step}
use Rattle.laws.specs.StepLaws.{step_later, Run, reading_run}
use Rattle.laws.specs.ListLaws.{gather_more, gather_one, found_faults}
use Rattle.scrolls.specs.AmongLaws.{Among, Every, every_none, every_more, every_append, among_wrong, among_fault}
use Rattle.utf8.specs.declared.Char.{Char}

module _ (t : List ℕ) (low : ℕ) where
  -- a place, and bytes, from the byte `low` on and within the text
  abbrev pub Between : TextPlace → Type 0
  Between at = (low ≤ at.0) × (at.0 ≤ length t)

  abbrev pub RangeBetween : TextRange → Type 0
  RangeBetween r = Between r.start × Between r.end

  -- the places of a fault, but those that say why
  abbrev pub FaultBetween : Fault → Type 0
  FaultBetween Fault.Clean = Unit {0}
  FaultBetween (Fault.Unmatched p) = Between p
  FaultBetween (Fault.Expected p why) = Between p
  FaultBetween (Fault.Unclosed why) = Unit {0}
  FaultBetween (Fault.RawName r) = RangeBetween r
  FaultBetween (Fault.AfterDebug p) = Between p
  FaultBetween (Fault.Underscore r) = RangeBetween r
  FaultBetween (Fault.TooLarge r) = RangeBetween r
  FaultBetween (Fault.DebugFirst p r) = Between p × RangeBetween r
  FaultBetween (Fault.NoColon p) = Between p
  FaultBetween (Fault.Equals p brace) = Between p
  FaultBetween (Fault.Misplaced p) = Between p
  FaultBetween (Fault.PlusFirst p) = Between p
  FaultBetween (Fault.Field a b) = Between a × Between b
  FaultBetween (Fault.TupleIndex a b) = Between a × Between b
  FaultBetween (Fault.Comma p brace) = Between p

  abbrev FlawBetween : Flaw → Type 0
  FlawBetween x = FaultBetween (flaw_fault x)

  abbrev HintBetween : Hint → Type 0
  HintBetween x = (brace : TextPlace) → FaultBetween (hint_fault brace x)

  -- a part that stops at a place, with its flaw
  abbrev PartBetween : TextPlace → Flaw → Type 0
  PartBetween at x = Between at × FlawBetween x

  record PlaceBetween (r : PlaceRead) : Type 0 where
    at : Between r.at
    flaw : FlawBetween r.flaw
    raw : FlawBetween r.raw

  record SpecBetween (r : SpecRead) : Type 0 where
    width : FlawBetween r.width
    precision : FlawBetween r.precision
    typetext : FlawBetween r.typetext

  -- an argument's five
  record FlawsBetween (x : ArgumentFlaws) : Type 0 where
    place : FlawBetween x.place
    raw : FlawBetween x.raw
    width : FlawBetween x.width
    precision : FlawBetween x.precision
    typetext : FlawBetween x.typetext

  -- where a closing brace is missing
  record RecoveryBetween (r : Recovery) : Type 0 where
    word : FlawBetween r.word
    field : FlawsBetween r.field
    hint : HintBetween r.hint

  abbrev ClosingBetween : Closing → Type 0
  ClosingBetween (Closing.Closed p) = Unit {0}
  ClosingBetween (Closing.Missing gap on) = FaultBetween (gap_fault gap) × RecoveryBetween on

  module _ (at : TextPlace) (h : Between at) where
    -- over an ASCII character, any character, whitespace, a word
    one : (c : ℕ) → Between (consumed t at c).at
    one c = (le_trans h.0 (consumed_on t at c), consumed_in t at c h.1)

    any : Between (past_at t at)
    any = (le_trans h.0 (past_on t at), past_in t at h.1)

    spaces : Between (spaces_past t at)
    spaces = (le_trans h.0 (spaces_on t at), spaces_in t at h.1)

    word : Between (word_end t at)
    word = (le_trans h.0 (word_on t at), word_in t at h.1)

    -- the flaw of a word, and of a number
    word_flaw : FlawBetween (word_read t at).flaw
    unfolding word_read
    word_flaw = pick_elim FlawBetween _ (λ _. (h, word)) (λ _. tt)

    number_flaw : FlawBetween (number_read t at).flaw
    unfolding number_read number_from
    number_flaw =
        pick_elim (λ (r : NumberRead). FlawBetween r.flaw) _ (λ _. tt) (λ _. go (numeral (decimal 0 (digits_at t at))))
      where
        go : (n : Numeral) → FlawBetween (too_large n (range_of at (place (run_end is_digit t at.0))))
        go (Numeral.Within n) = tt
        go Numeral.Over = (h, (le_trans h.0 (run_on is_digit t at.0), run_in is_digit t at.0 h.1))

    -- a count
    count_between : (f : Frame) → PartBetween (count_read t f at).at (count_read t f at).flaw
    unfolding count_read number_count name_count
    count_between f = ((le_trans h.0 (count_on t f at), count_in t f at h.1), go (number_read t at).number)
      where
        go : (n : Option Numeral) → FlawBetween (count_after t f at (number_read t at) n).flaw
        go (Some n) = pick_elim (λ (r : CountRead). FlawBetween r.flaw) _ (λ _. number_flaw) (λ _. number_flaw)
        go None =
            let P : CountRead → Type 0 = λ r. FlawBetween r.flaw in
            pick_elim P _ (λ _. word_flaw) (λ _. pick_elim P _ (λ _. word_flaw) (λ _. word_flaw))

  -- what follows the word `r`
  raw_place_between : (name : TextRange) → RangeBetween name → PlaceBetween (raw_place t name)
  unfolding raw_place word_read
  raw_place_between name h =
      let hash = (consumed t name.end 0x23).at in
      let inside = one name.end h.1 0x23 in
      let P = PlaceBetween in
      let inner = word_flaw hash inside in
      pick_elim P _
      (λ _.
      pick_elim P _ (λ _. record { at = h.1; flaw = tt; raw = tt })
      (λ _. record { at = word hash inside; flaw = inner; raw = (h.0, word hash inside) }))
      (λ _. record { at = h.1; flaw = tt; raw = tt })

  module _ (at : TextPlace) (h : Between at) where
    -- a place that is a word, or nothing
    word_place_between : PlaceBetween (word_place t at)
    unfolding word_place word_read
    word_place_between =
        let P = PlaceBetween in
        let own = word_flaw at h in
        pick_elim P _ (λ _. record { at = h; flaw = tt; raw = tt })
        (λ _. pick_elim P _ (λ _. raw_place_between _ (h, word at h)) (λ _. record { at = word at h; flaw = own; raw = tt }))

    -- the place of an argument
    place_between : PlaceBetween (place_read t at)
    unfolding place_read
    place_between = go (number_read t at).number
      where
        go : (n : Option Numeral) → PlaceBetween (place_after t at (number_read t at) n)
        go (Some n) = record { at = (le_trans h.0 (number_on t at), number_in t at h.1); flaw = number_flaw at h; raw = tt }
        go None = word_place_between

    -- an align, and a sign
    align_between : Between (align_read t at).at
    unfolding align_read
    align_between =
        let P : AlignRead → Type 0 = λ r. Between r.at in
        pick_elim P _ (λ _. one at h 0x3C) (λ _. pick_elim P _ (λ _. one at h 0x3E) (λ _. pick_elim P _ (λ _. one at h 0x5E) (λ _. h)))

    sign_between : Between (sign_read t at).at
    unfolding sign_read
    sign_between =
        let P : SignRead → Type 0 = λ r. Between r.at in
        pick_elim P _ (λ _. one at h 0x2B) (λ _. pick_elim P _ (λ _. one at h 0x2D) (λ _. h))

    -- what follows an `x` or an `X`
    hex_between : (x : Hex) (from : TextPlace) → FlawBetween (hex_type t x from at).flaw
    unfolding hex_type
    hex_between x from = pick_elim (λ (r : TypeRead). FlawBetween r.flaw) _ (λ _. tt) (λ _. tt)

    -- what follows a `?` that stands at a place
    debug_between : (to : TextPlace) → FlawBetween (debug_type t at to).flaw
    unfolding debug_type
    debug_between to = pick_elim FlawBetween _ (λ _. h) (λ _. tt)

    module _ (f : Frame) where
      -- a fill
      fill_between : Between (fill_read t f at).at
      unfolding fill_read
      fill_between =
          seen_elim (λ (n : Option Char). Between (fill_seen t f at n).at) t at.0 (λ _. h)
          (λ c w e. pick_elim (λ (r : FillRead). Between r.at) _ (λ _. (omega arith, (peeked t at.0 e).room)) (λ _. h))

      -- a width without the `0` flag
      plain_width_between : (zero : Bool) → PartBetween (plain_width t f zero at).at (plain_width t f zero at).flaw
      unfolding plain_width
      plain_width_between zero = count_between at h f

      -- what follows a dot
      after_dot_between : (dot : TextPlace) (n : ℕ) → PartBetween (after_dot t f dot at n).at (after_dot t f dot at n).flaw
      unfolding after_dot
      after_dot_between dot n =
          pick_elim (λ (r : PrecisionRead). PartBetween r.at r.flaw) _ (λ _. (one at h 0x2A, tt)) (λ _. count_between at h f)

      -- a type that is a word, or nothing
      word_type_between : FlawBetween (word_type t f at).flaw
      unfolding word_type
      word_type_between = word_flaw at h

  module _ (f : Frame) where
    module _ (at : TextPlace) (h : Between at) where
      -- a width, with the `0` flag before it
      pub width_between : PartBetween (width_read t f at).at (width_read t f at).flaw
      unfolding width_read
      width_between =
          let P : WidthRead → Type 0 = λ r. PartBetween r.at r.flaw in
          let zero = one at h 0x30 in
          pick_elim P _ (λ _. pick_elim P _ (λ _. (one _ zero 0x24, tt)) (λ _. plain_width_between _ zero f _)) (λ _. plain_width_between at h f _)

      -- a precision
      pub precision_between : (n : ℕ) → PartBetween (precision_read t f at n).at (precision_read t f at n).flaw
      unfolding precision_read
      precision_between n =
          pick_elim (λ (r : PrecisionRead). PartBetween r.at r.flaw) _ (λ _. after_dot_between _ (one at h 0x2E) f at n) (λ _. (h, tt))

      -- a type
      type_between : FlawBetween (type_read t f at).flaw
      unfolding type_read
      type_between =
          let P : TypeRead → Type 0 = λ r. FlawBetween r.flaw in
          pick_elim P _ (λ _. hex_between _ (one at h 0x78) Hex.Lower at)
          (λ _.
          pick_elim P _ (λ _. hex_between _ (one at h 0x58) Hex.Upper at)
          (λ _. pick_elim P _ (λ _. debug_between at h _) (λ _. word_type_between at h f)))

    -- all that stands before a width: fill, align, sign and `#`
    pub lead_between : (at : TextPlace) → Between at → Between (consumed t (sign_read t (align_read t (fill_read t f at).at).at).at 0x23).at
    lead_between at h = one _ (sign_between _ (align_between _ (fill_between at h f))) 0x23

    -- a Format spec, a part at a time
    format_between : (at : TextPlace) → Between at → (n : ℕ) → SpecBetween (format_read t f at n)
    unfolding format_read
    format_between at h n =
        let wi = width_between _ (lead_between at h) in
        let pr = precision_between _ wi.0 n in
        record { width = wi.1; precision = pr.1; typetext = type_between _ pr.0 }

    module _ (m : Mode) (at : TextPlace) (h : Between at) (n : ℕ) where
      -- a spec with its colon, or nothing
      spec_between : SpecBetween (spec_read t f m at n)
      unfolding spec_read diagnostic_type
      spec_between = pick_elim SpecBetween _ (λ _. go m _ (one at h 0x3A)) (λ _. record { width = tt; precision = tt; typetext = tt })
        where
          go : (m : Mode) (to : TextPlace) → Between to → SpecBetween (after_colon t f m at to n)
          go Mode.Format to l = format_between to l n
          go Mode.InlineAsm to l = record { width = tt; precision = tt; typetext = word_type_between to l f }
          go Mode.Diagnostic to l = record { width = tt; precision = tt; typetext = tt }

    module _ (m : Mode) (at : TextPlace) (h : Between at) (n : ℕ) where
      -- all that stands between the braces: what is wrong, where the place starts and ends, where all ends
      argument_between : FlawsBetween (argument_read t f m at n).flaws
      unfolding argument_read
      argument_between =
          let po = place_between at h in
          let sp = spec_between m _ (spaces _ po.at) n in
          record {
            place = po.flaw;
            raw = po.raw;
            width = sp.width;
            precision = sp.precision;
            typetext = sp.typetext;
          }

      argument_from_lem : Between (argument_read t f m at n).from
      unfolding argument_read
      argument_from_lem = h

      pub argument_to : Between (argument_read t f m at n).to
      unfolding argument_read
      argument_to = spaces _ (place_between at h).at

      argument_at_lem : Between (argument_read t f m at n).at
      argument_at_lem = (le_trans h.0 (argument_on t f m at n), argument_in t f m at n h.1)

  -- nothing is wrong
  clean_between : FlawsBetween clean_flaws
  clean_between =
      record {
        place = tt;
        raw = tt;
        width = tt;
        precision = tt;
        typetext = tt;
      }

  -- where no word and no field is read there is what is said
  passed_between : (at : TextPlace) (n : ℕ) (hint : Hint) → HintBetween hint → RecoveryBetween (passed_to at n hint)
  passed_between at n hint h = record { word = tt; field = clean_between; hint = h }

  -- what is said of a field
  hint_between : (p : Place) (from to : TextPlace) → Between from → Between to → HintBetween (field_hint p from to)
  hint_between (Place.Next n) from to a b brace = tt
  hint_between (Place.At k) from to a b brace = (a, b)
  hint_between (Place.Named r) from to a b brace = (a, b)

  module _ (at : TextPlace) (h : Between at) where
    -- what follows a `?` where a closing brace is missing
    question_between : (past : TextPlace) → Between past → (n : ℕ) → RecoveryBetween (after_question t at past n)
    unfolding after_question word_read
    question_between past l n =
        let P = RecoveryBetween in
        let colon = one past l 0x3A in
        let own = word_flaw _ colon in
        pick_elim P _ (λ _. passed_between past n (Hint.NoColon at) (λ _. h))
        (λ _.
        pick_elim P _ (λ _. record { word = own; field = clean_between; hint = λ _. (h, (colon, word _ colon)) })
        (λ _. passed_between past n Hint.Silent (λ _. tt)))

    -- a sign that is passed
    signed_between : (past : TextPlace) → HintBetween (sign_hint t at past)
    unfolding sign_hint
    signed_between past =
        let P = HintBetween in
        pick_elim P _ (λ _ _. h) (λ _. pick_elim P _ (λ _ _. h) (λ _. pick_elim P _ (λ _ _. h) (λ _. pick_elim P _ (λ _ _. h) (λ _ _. tt))))

    -- a closing brace that is missing
    gap_between : (why : TextPlace) → FaultBetween (gap_fault (gap_at t at why))
    unfolding gap_at
    gap_between why = pick_elim (λ (g : Gap). FaultBetween (gap_fault g)) _ (λ _. h) (λ _. tt)

  module _ (f : Frame) (m : Mode) (from : TextPlace) (l : Between from) where
    module _ (at : TextPlace) (h : Between at) (n : ℕ) where
      -- a dot and a field
      field_between : RecoveryBetween (field_read t f m from at n)
      unfolding field_read
      field_between =
          let dot = (consumed t at 0x2E).at in
          let inside = one at h 0x2E in
          pick_elim RecoveryBetween _
          (λ _.
          record {
            word = tt;
            field = argument_between f m dot inside n;
            hint = pick_elim HintBetween _ (λ _. hint_between (argument_read t f m dot n).place from _ l (argument_to f m dot inside n)) (λ _ _. tt);
          })
          (λ _. passed_between at n Hint.Silent (λ _. tt))

      -- what is passed where a closing brace is missing
      recover_between : (i : Bool) → RecoveryBetween (recover_read t f m from i at n)
      unfolding recovering
      recover_between i =
          let past = past_at t at in
          let P = RecoveryBetween in
          let none = passed_between at n Hint.Silent (λ _. tt) in
          rw (recover_table t f m from i at n)
          (pick_elim P _
          (λ _.
          pick_elim P _ (λ _. question_between at h past (any at h) n)
          (λ _.
          pick_elim P _ (λ _. pick_elim P _ (λ _. field_between) (λ _. none))
          (λ _. passed_between past n (sign_hint t at past) (signed_between at h past))))
          (λ _. none))

  -- THE SLOTS, one by one
  argument_slots_lem : (a : ArgumentFlaws) → FlawsBetween a → Every FaultBetween (argument_slots a)
  unfolding argument_slots
  argument_slots_lem a h =
      let P = FaultBetween in
      every_more P h.place
      (every_more P h.raw (every_more P h.width (every_more P h.precision (every_more P h.typetext (every_none P)))))

  closing_slots_lem : (brace : TextPlace) (c : Closing) → ClosingBetween c → Every FaultBetween (closing_slots brace c)
  unfolding closing_slots missing_slots
  closing_slots_lem brace (Closing.Closed p) h = every_none FaultBetween
  closing_slots_lem brace (Closing.Missing gap on) h =
      let P = FaultBetween in
      every_more P h.0
      (every_more P h.1.word
      (every_append P (argument_slots on.field) (argument_slots_lem on.field h.1.field) (every_more P (h.1.hint brace) (every_none P))))

  -- A WHOLE PLACEHOLDER, whose place stands after its brace
  module _ (f : Frame) (m : Mode) (brace at : TextPlace) (h : Between at) (n : ℕ) where
    closing_between : ClosingBetween (placeholder_read t f m brace at n).closing
    unfolding placeholder_read missing_read
    closing_between =
        let end = spaces _ (argument_at_lem f m at h n) in
        pick_elim (λ (p : PlaceholderRead). ClosingBetween p.closing) _ (λ _. tt)
        (λ _. (gap_between _ end _, recover_between f m _ (argument_from_lem f m at h n) _ end _ _))

    flaws_between : FlawsBetween (placeholder_read t f m brace at n).flaws
    unfolding placeholder_read missing_read
    flaws_between =
        let own = argument_between f m at h n in
        pick_elim (λ (p : PlaceholderRead). FlawsBetween p.flaws) _ (λ _. own) (λ _. own)

    pub placeholder_between : Every FaultBetween (step_slots (Step.Placeholder (placeholder_read t f m brace at n)))
    unfolding step_slots
    placeholder_between =
        let p = placeholder_read t f m brace at n in
        every_append FaultBetween (argument_slots p.flaws) (argument_slots_lem p.flaws flaws_between)
        (closing_slots_lem p.argument.range.start p.closing closing_between)

module _ (t : List ℕ) (f : Frame) (m : Mode) where
  -- THE FAULTS OF A READING: those of a step within the text
  step_in : (s : State) → s.at.0 ≤ length t → Every (FaultBetween t 0) (step_slots (step_at t f m s))
  unfolding step_at after_open after_close step_slots
  step_in s h =
      let P : Step → Type 0 = λ x. Every (FaultBetween t 0) (step_slots x) in
      let none = every_none (FaultBetween t 0) in
      let opened : Between t 0 (consumed t s.at 0x7B).at = (omega arith, consumed_in t s.at 0x7B h) in
      pick_elim P _
      (λ _.
      pick_elim P _ (λ _. pick_elim P _ (λ _. none) (λ _. placeholder_between t 0 f m s.at _ opened s.next))
      (λ _. pick_elim P _ (λ _. pick_elim P _ (λ _. none) (λ _. every_more (FaultBetween t 0) (omega arith, h) none)) (λ _. none)))
      (λ _. none)

  faults_in_lem : (s : State) {x : Step} → s.at.0 ≤ length t → x ≡ step_at t f m s → Every (FaultBetween t 0) (faults_of x)
  unfolding faults_of
  faults_in_lem s h e a among = subst (λ (x : Step). Every (FaultBetween t 0) (step_slots x)) (sym e) (step_in s h) a (among_wrong _ among)

  -- of a run
  run_in_text : {s : State} {xs : List Step} → s.at.0 ≤ length t → Run t f m s xs → Every (FaultBetween t 0) (gather faults_of xs)
  run_in_text {s} h (Run.last {x = x} e o) = rw (gather_one faults_of x) (faults_in_lem s h e)
  run_in_text {s} h (Run.more {x = x} {xs = xs} e o r) =
      let later = step_later t f m s (ap (onward s) (sym e) ∙ o) in
      rw (gather_more faults_of x xs) (every_append (FaultBetween t 0) (faults_of x) (faults_in_lem s h e) (run_in_text later.inside r))

  -- so of each finding
  pub found_in : (x : Finding) → Among x (found t f m) → FaultBetween t 0 x.fault
  unfolding found
  found_in x among = run_in_text (omega arith) (reading_run t f m) x.fault (rw (found_faults 0 (reading t f m)) at (among_fault among))
