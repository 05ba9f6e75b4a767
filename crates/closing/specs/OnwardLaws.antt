-- Reading goes forward over whole characters and stays within the text, part by part up to a whole placeholder, and how far the next argument's
-- number moves. Rests on the definitions of this crate, BoundLaws, and `scan`'s laws of where its leaves stop.
use Rattle.std.specs.Prelude.{ℕ, ◌+◌, ◌*◌, ◌≤◌, ◌<◌, Bool, List, Option, Some, None}
use Rattle.std.proofs.Common.{le_refl, le_trans, arith}
use Rattle.std.proofs.Math.ListN.{length}
use Rattle.utf8.specs.ChoiceLaws.{pick_elim}
use Rattle.utf8.specs.CharLaws.{peeked}
use Rattle.frame.specs.declared.TextPlace.{TextPlace}
use Rattle.frame.specs.declared.TextRange.{TextRange}
use Rattle.frame.specs.declared.Frame.{Frame}
use Rattle.scan.specs.Characters.{past_at, consumed, spaces_past, text_end}
use Rattle.scan.specs.Words.{word_read, number_read}
use Rattle.scan.specs.Counts.{count_read}
use Rattle.scan.specs.ScanLaws.{seen_elim, consumed_on, consumed_in, past_on, past_in, spaces_on, spaces_in, text_on, text_in, word_on, word_in, number_on, number_in, count_on, count_in}
use Rattle.scan.specs.ReachLaws.{Reached, reached_none, reached_then, reached_char, reached_consumed, reached_past, reached_spaces, reached_text, reached_word, reached_number, reached_count}
use Rattle.placeholder.specs.Places.{raw_place, word_place, place_after, place_read}
use Rattle.placeholder.specs.Parts.{fill_seen, fill_read, align_read, sign_read, plain_width, width_read, after_dot, precision_read}
use Rattle.placeholder.specs.Types.{hex_type, debug_type, word_type, type_read}
use Rattle.placeholder.specs.Format.{format_read}
use Rattle.placeholder.specs.Specs.{diagnostic_type, after_colon, spec_read}
use Rattle.placeholder.specs.Arguments.{argument_read}
use Rattle.placeholder.specs.BoundLaws.{argument_next, argument_given}
use Rattle.closing.specs.Defaults.{is_identifier}
use Rattle.closing.specs.Recovery.{field_read, recover_read}
use Rattle.closing.specs.Recovering.{after_question, recovering, recover_table}
use Rattle.closing.specs.Wholes.{missing_read, placeholder_read}
use Rattle.placeholder.specs.declared.Hex.{Hex}
use Rattle.frame.specs.declared.Mode.{Mode}
use Rattle.placeholder.specs.declared.position.PlaceRead.{PlaceRead}
use Rattle.placeholder.specs.declared.format.FillRead.{FillRead}
use Rattle.placeholder.specs.declared.format.AlignRead.{AlignRead}
use Rattle.placeholder.specs.declared.format.SignRead.{SignRead}
use Rattle.placeholder.specs.declared.format.WidthRead.{WidthRead}
use Rattle.placeholder.specs.declared.format.PrecisionRead.{PrecisionRead}
use Rattle.placeholder.specs.declared.format.TypeRead.{TypeRead}
use Rattle.placeholder.specs.declared.format.SpecRead.{SpecRead}
use Rattle.placeholder.specs.declared.between.ArgumentRead.{ArgumentRead}
use Rattle.closing.specs.declared.recover.Recovery.{Recovery}
use Rattle.closing.specs.declared.whole.PlaceholderRead.{PlaceholderRead}
use Rattle.scan.specs.declared.Numeral.{Numeral}
use Rattle.utf8.specs.declared.Char.{Char}

-- reading goes from one place of a text to another: over whole characters, no further back, and not out of the text
pub record Onward (t : List ℕ) (from to : TextPlace) : Type 0 where
  pub reached : Reached t from.0 to.0
  pub on : from.0 ≤ to.0
  pub inside : from.0 ≤ length t → to.0 ≤ length t

module _ (t : List ℕ) where
  -- reading may stand where it stood
  stay : (p : TextPlace) → Onward t p p
  stay p = record { reached = reached_none p.0; on = le_refl p.0; inside = λ h. h }

  -- and it goes onward by stages
  then : {p q r : TextPlace} → Onward t p q → Onward t q r → Onward t p r
  then a b = record { reached = reached_then a.reached b.reached; on = le_trans a.on b.on; inside = λ h. b.inside (a.inside h) }

  module _ (at : TextPlace) where
    -- over an ASCII character, if it stands there
    consumes : (c : ℕ) → c < 0x80 → Onward t at (consumed t at c).at
    consumes c h = record { reached = reached_consumed t at c h; on = consumed_on t at c; inside = consumed_in t at c }

    -- over any character
    passes : Onward t at (past_at t at)
    passes = record { reached = reached_past t at; on = past_on t at; inside = past_in t at }

    -- over whitespace
    spaces : Onward t at (spaces_past t at)
    spaces = record { reached = reached_spaces t at; on = spaces_on t at; inside = spaces_in t at }

    -- over literal text
    literal : Onward t at (text_end t at)
    literal = record { reached = reached_text t at; on = text_on t at; inside = text_in t at }

    -- over a word
    word : Onward t at (word_read t at).word.end
    unfolding word_read
    word = record { reached = reached_word t at; on = word_on t at; inside = word_in t at }

    -- over a number
    number : Onward t at (number_read t at).digits.end
    number = record { reached = reached_number t at; on = number_on t at; inside = number_in t at }

    -- over a count
    count : (f : Frame) → Onward t at (count_read t f at).at
    count f = record { reached = reached_count t f at; on = count_on t f at; inside = count_in t f at }

  -- over what follows the word `r`
  raw_place_lem : (name : TextRange) → Onward t name.end (raw_place t name).at
  unfolding raw_place
  raw_place_lem name =
      let end = name.end in
      let P : PlaceRead → Type 0 = λ r. Onward t end r.at in
      pick_elim P _ (λ _. pick_elim P _ (λ _. stay end) (λ _. then (consumes end 0x23 (omega arith)) (word _))) (λ _. stay end)

  module _ (at : TextPlace) where
    -- over a place that is a word, or nothing
    word_place_lem : Onward t at (word_place t at).at
    unfolding word_place
    word_place_lem =
        let P : PlaceRead → Type 0 = λ r. Onward t at r.at in
        pick_elim P _ (λ _. stay at) (λ _. pick_elim P _ (λ _. then (word at) (raw_place_lem _)) (λ _. word at))

    -- over the place of an argument
    pub place_read_lem : Onward t at (place_read t at).at
    unfolding place_read
    place_read_lem = go (number_read t at).number
      where
        go : (n : Option Numeral) → Onward t at (place_after t at (number_read t at) n).at
        go (Some n) = number at
        go None = word_place_lem

    -- over an align
    pub align : Onward t at (align_read t at).at
    unfolding align_read
    align =
        let P : AlignRead → Type 0 = λ r. Onward t at r.at in
        pick_elim P _ (λ _. consumes at 0x3C (omega arith))
        (λ _. pick_elim P _ (λ _. consumes at 0x3E (omega arith)) (λ _. pick_elim P _ (λ _. consumes at 0x5E (omega arith)) (λ _. stay at)))

    -- over a sign
    pub sign : Onward t at (sign_read t at).at
    unfolding sign_read
    sign =
        let P : SignRead → Type 0 = λ r. Onward t at r.at in
        pick_elim P _ (λ _. consumes at 0x2B (omega arith)) (λ _. pick_elim P _ (λ _. consumes at 0x2D (omega arith)) (λ _. stay at))

    -- over what follows an `x` or an `X`
    hex : (h : Hex) (from : TextPlace) → Onward t at (hex_type t h from at).at
    unfolding hex_type
    hex h from = pick_elim (λ (r : TypeRead). Onward t at r.at) _ (λ _. consumes at 0x3F (omega arith)) (λ _. stay at)

  module _ (f : Frame) (at : TextPlace) where
    -- over a fill: the character that is seen is within the text
    pub fill : Onward t at (fill_read t f at).at
    unfolding fill_read
    fill =
        seen_elim (λ (n : Option Char). Onward t at (fill_seen t f at n).at) t at.0 (λ _. stay at)
        (λ c w e.
        pick_elim (λ (r : FillRead). Onward t at r.at) _ (λ _. record { reached = reached_char at.0 e; on = omega arith; inside = λ _. (peeked t at.0 e).room })
        (λ _. stay at))

    -- over the `0` flag and a width
    pub width : Onward t at (width_read t f at).at
    unfolding width_read plain_width
    width =
        let P : WidthRead → Type 0 = λ r. Onward t at r.at in
        let zero = consumes at 0x30 (omega arith) in
        pick_elim P _ (λ _. pick_elim P _ (λ _. then zero (consumes _ 0x24 (omega arith))) (λ _. then zero (count _ f))) (λ _. count at f)

    -- over what follows a dot
    after_dot_lem : (dot : TextPlace) (n : ℕ) → Onward t at (after_dot t f dot at n).at
    unfolding after_dot
    after_dot_lem dot n = pick_elim (λ (r : PrecisionRead). Onward t at r.at) _ (λ _. consumes at 0x2A (omega arith)) (λ _. count at f)

  module _ (f : Frame) (at : TextPlace) where
    -- over a precision
    pub precision : (n : ℕ) → Onward t at (precision_read t f at n).at
    unfolding precision_read
    precision n =
        pick_elim (λ (r : PrecisionRead). Onward t at r.at) _ (λ _. then (consumes at 0x2E (omega arith)) (after_dot_lem f _ at n)) (λ _. stay at)

    -- over a type that is a word, or nothing
    word_type_lem : Onward t at (word_type t f at).at
    unfolding word_type
    word_type_lem = word at

    -- over a type
    type_read_lem : Onward t at (type_read t f at).at
    unfolding type_read debug_type
    type_read_lem =
        let P : TypeRead → Type 0 = λ r. Onward t at r.at in
        pick_elim P _ (λ _. then (consumes at 0x78 (omega arith)) (hex _ Hex.Lower at))
        (λ _.
        pick_elim P _ (λ _. then (consumes at 0x58 (omega arith)) (hex _ Hex.Upper at))
        (λ _. pick_elim P _ (λ _. consumes at 0x3F (omega arith)) (λ _. word_type_lem)))

  module _ (f : Frame) where
    -- over a Format spec, a part at a time
    format : (at : TextPlace) (n : ℕ) → Onward t at (format_read t f at n).at
    unfolding format_read
    format at n =
        then (fill f at) (then (align _) (then (sign _) (then (consumes _ 0x23 (omega arith)) (then (width f _) (then (precision f _ n) (type_read_lem f _))))))

    -- over a Diagnostic type
    diagnostic : (colon at : TextPlace) → Onward t at (diagnostic_type t f colon at).at
    unfolding diagnostic_type
    diagnostic colon at = literal at

    -- over the spec of each mode, after its colon
    after_colon_lem : (m : Mode) (colon at : TextPlace) (n : ℕ) → Onward t at (after_colon t f m colon at n).at
    after_colon_lem Mode.Format colon at n = format at n
    after_colon_lem Mode.InlineAsm colon at n = word_type_lem f at
    after_colon_lem Mode.Diagnostic colon at n = diagnostic colon at

    -- over a spec with its colon, or nothing
    spec : (m : Mode) (at : TextPlace) (n : ℕ) → Onward t at (spec_read t f m at n).at
    unfolding spec_read
    spec m at n =
        pick_elim (λ (r : SpecRead). Onward t at r.at) _ (λ _. then (consumes at 0x3A (omega arith)) (after_colon_lem m at _ n)) (λ _. stay at)

    -- over all that stands between the braces
    pub argument_onward : (m : Mode) (at : TextPlace) (n : ℕ) → Onward t at (argument_read t f m at n).at
    unfolding argument_read
    argument_onward m at n = then (place_read_lem at) (then (spaces _) (spec m _ n))

  -- over what follows a `?` where a closing brace is missing
  after_question_lem : (at past : TextPlace) (n : ℕ) → Onward t past (after_question t at past n).at
  unfolding after_question
  after_question_lem at past n =
      let P : Recovery → Type 0 = λ r. Onward t past r.at in
      pick_elim P _ (λ _. stay past) (λ _. pick_elim P _ (λ _. then (consumes past 0x3A (omega arith)) (word _)) (λ _. stay past))

  module _ (f : Frame) (m : Mode) where
    -- over a dot and a field
    field : (from at : TextPlace) (n : ℕ) → Onward t at (field_read t f m from at n).at
    unfolding field_read
    field from at n =
        pick_elim (λ (r : Recovery). Onward t at r.at) _ (λ _. then (consumes at 0x2E (omega arith)) (then (argument_onward f m _ n) (consumes _ 0x7D (omega arith))))
        (λ _. stay at)

    -- over all that is passed where a closing brace is missing
    pub recover_onward : (from : TextPlace) (i : Bool) (at : TextPlace) (n : ℕ) →
        Onward t at (recover_read t f m from i at n).at
    unfolding recovering
    recover_onward from i at n =
        let P : Recovery → Type 0 = λ r. Onward t at r.at in
        rw (recover_table t f m from i at n)
        (pick_elim P _
        (λ _.
        pick_elim P _ (λ _. then (passes at) (after_question_lem at _ n))
        (λ _. pick_elim P _ (λ _. pick_elim P _ (λ _. field from at n) (λ _. stay at)) (λ _. passes at)))
        (λ _. stay at))

    -- over the same, from an argument that was read
    missing : (brace : TextPlace) (a : ArgumentRead) (at : TextPlace) → Onward t at (missing_read t f m brace a at).at
    unfolding missing_read
    missing brace a at = recover_onward _ _ at _

    -- over a whole placeholder
    pub placeholder_onward : (brace at : TextPlace) (n : ℕ) → Onward t at (placeholder_read t f m brace at n).at
    unfolding placeholder_read
    placeholder_onward brace at n =
        let a = argument_read t f m at n in
        let end = spaces_past t a.at in
        then (argument_onward f m at n)
        (then (spaces a.at)
        (pick_elim (λ (r : PlaceholderRead). Onward t end r.at) _ (λ _. consumes end 0x7D (omega arith)) (λ _. missing brace a end)))

module _ (t : List ℕ) (f : Frame) (m : Mode) where
  module _ (at : TextPlace) (n : ℕ) where
    -- an argument goes forward
    pub argument_on : at.0 ≤ (argument_read t f m at n).at.0
    argument_on = (argument_onward t f m at n).on

    -- and stays within the text
    pub argument_in : at.0 ≤ length t → (argument_read t f m at n).at.0 ≤ length t
    argument_in = (argument_onward t f m at n).inside

  module _ (from : TextPlace) (i : Bool) (at : TextPlace) (n : ℕ) where
    -- what is passed where a closing brace is missing goes forward
    pub recover_on : at.0 ≤ (recover_read t f m from i at n).at.0
    recover_on = (recover_onward t f m from i at n).on

    -- and stays within the text
    pub recover_in : at.0 ≤ length t → (recover_read t f m from i at n).at.0 ≤ length t
    recover_in = (recover_onward t f m from i at n).inside

  module _ (brace at : TextPlace) (n : ℕ) where
    -- a placeholder goes forward
    pub placeholder_on : at.0 ≤ (placeholder_read t f m brace at n).at.0
    placeholder_on = (placeholder_onward t f m brace at n).on

    -- and stays within the text
    pub placeholder_in : at.0 ≤ length t → (placeholder_read t f m brace at n).at.0 ≤ length t
    placeholder_in = (placeholder_onward t f m brace at n).inside

-- no argument is taken after a `?`
after_question_next : (t : List ℕ) (at past : TextPlace) (n : ℕ) → (after_question t at past n).next ≤ n
unfolding after_question
after_question_next t at past n =
    let P : Recovery → Type 0 = λ r. r.next ≤ n in
    pick_elim P _ (λ _. omega arith) (λ _. pick_elim P _ (λ _. omega arith) (λ _. omega arith))

module _ (t : List ℕ) (f : Frame) (m : Mode) where
  -- a field takes what an argument takes
  field_next : (from at : TextPlace) (n : ℕ) → (field_read t f m from at n).next ≤ n + 2
  unfolding field_read
  field_next from at n = pick_elim (λ (r : Recovery). r.next ≤ n + 2) _ (λ _. argument_next t f m _ n) (λ _. omega arith)

  -- where a closing brace is missing at most two arguments are taken
  pub recover_next : (from : TextPlace) (i : Bool) (at : TextPlace) (n : ℕ) →
      (recover_read t f m from i at n).next ≤ n + 2
  unfolding recovering
  recover_next from i at n =
      let P : Recovery → Type 0 = λ r. r.next ≤ n + 2 in
      rw (recover_table t f m from i at n)
      (pick_elim P _
      (λ _.
      pick_elim P _ (λ _. omega (arith, after_question_next t at (past_at t at) n))
      (λ _. pick_elim P _ (λ _. pick_elim P _ (λ _. field_next from at n) (λ _. omega arith)) (λ _. omega arith)))
      (λ _. omega arith))

  -- and so with the argument before it: two more
  missing_next : (brace : TextPlace) (a : ArgumentRead) (at : TextPlace) → (missing_read t f m brace a at).next ≤ a.next + 2
  unfolding missing_read
  missing_next brace a at = recover_next _ _ at a.next

  -- a whole placeholder takes at most four
  pub placeholder_next : (brace at : TextPlace) (n : ℕ) → (placeholder_read t f m brace at n).next ≤ n + 4
  unfolding placeholder_read
  placeholder_next brace at n =
      let a = argument_read t f m at n in
      let few = argument_next t f m at n in
      let end = spaces_past t a.at in
      pick_elim (λ (r : PlaceholderRead). r.next ≤ n + 4) _ (λ _. omega arith) (λ _. omega (arith, missing_next brace a end))

-- nothing is given back after a `?`
after_question_given : (t : List ℕ) (at past : TextPlace) (n : ℕ) → (after_question t at past n).given ≤ 0
unfolding after_question
after_question_given t at past n =
    let P : Recovery → Type 0 = λ r. r.given ≤ 0 in
    pick_elim P _ (λ _. omega arith) (λ _. pick_elim P _ (λ _. omega arith) (λ _. omega arith))

module _ (t : List ℕ) (f : Frame) (m : Mode) where
  -- a field gives back what an argument does
  field_given : (from at : TextPlace) (n : ℕ) → (field_read t f m from at n).given ≤ 2 * length t
  unfolding field_read
  field_given from at n = pick_elim (λ (r : Recovery). r.given ≤ 2 * length t) _ (λ _. argument_given t f m _ n) (λ _. omega arith)

  -- so where a closing brace is missing
  pub recover_given : (from : TextPlace) (i : Bool) (at : TextPlace) (n : ℕ) → (recover_read t f m from i at n).given ≤ 2 * length t
  unfolding recovering
  recover_given from i at n =
      let P : Recovery → Type 0 = λ r. r.given ≤ 2 * length t in
      rw (recover_table t f m from i at n)
      (pick_elim P _
      (λ _.
      pick_elim P _ (λ _. omega (arith, after_question_given t at (past_at t at) n))
      (λ _. pick_elim P _ (λ _. pick_elim P _ (λ _. field_given from at n) (λ _. omega arith)) (λ _. omega arith)))
      (λ _. omega arith))

  missing_given : (brace : TextPlace) (a : ArgumentRead) (at : TextPlace) → (missing_read t f m brace a at).given ≤ a.given + 2 * length t
  unfolding missing_read
  missing_given brace a at = omega (arith, recover_given a.from (is_identifier a.place a.spec) at a.next)

  -- and in a whole placeholder
  pub placeholder_given : (brace at : TextPlace) (n : ℕ) → (placeholder_read t f m brace at n).given ≤ 4 * length t
  unfolding placeholder_read
  placeholder_given brace at n =
      let a = argument_read t f m at n in
      let few = argument_given t f m at n in
      let end = spaces_past t a.at in
      pick_elim (λ (r : PlaceholderRead). r.given ≤ 4 * length t) _ (λ _. omega (arith, few)) (λ _. omega (arith, few, missing_given brace a end))
