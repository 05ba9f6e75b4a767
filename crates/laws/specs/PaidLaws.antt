-- What is found wrong is paid for in bytes, part by part up to a whole placeholder: each fault has a byte of its own that was passed.
-- Rests on `scan`'s and `placeholder`'s definitions, and on the laws of where their parts stop.
use Rattle.std.specs.Prelude.{ℕ, ◌+◌, ◌≤◌, ◌<◌, ◌≡◌, refl, Bool, true, List, length, Option, Some, None}
use Rattle.std.proofs.Math.Nat.{le_refl, le_trans}
use native.Mathlib.Omega.{arith}
use borrow.Author.Tests.{eqb-true, eqb-false, ltb-true}
use Rattle.utf8.specs.Choice.{pick}
use Rattle.utf8.specs.ChoiceLaws.{pick_elim, both_right}
use Rattle.utf8.specs.Chars.{run_end}
use Rattle.frame.specs.Places.{place, range_of}
use Rattle.frame.specs.declared.TextPlace.{TextPlace}
use Rattle.frame.specs.declared.TextRange.{TextRange}
use Rattle.frame.specs.declared.Frame.{Frame}
use Rattle.scan.specs.Characters.{is_at, past_at, consumed, spaces_past}
use Rattle.scan.specs.Words.{word_end, is_underscore, word_read, is_digit, decimal, numeral, too_large, digits_at, number_from, number_read}
use Rattle.scan.specs.ScanLaws.{seen_elim, run_on, consumed_on, consumed_some, past_on, past_some, spaces_on, text_on, word_on, count_on}
use Rattle.scan.specs.declared.Flaw.{Flaw}
use Rattle.scan.specs.declared.NumberRead.{NumberRead}
use Rattle.placeholder.specs.Places.{raw_place, word_place, place_after, place_read}
use Rattle.placeholder.specs.Parts.{fill_seen, fill_read, align_read, sign_read, plain_width, width_read, after_dot, precision_read}
use Rattle.placeholder.specs.Types.{hex_type, debug_type, word_type, type_read}
use Rattle.placeholder.specs.Format.{format_read}
use Rattle.placeholder.specs.Specs.{diagnostic_type, after_colon, spec_read}
use Rattle.placeholder.specs.Arguments.{argument_read}
use Rattle.closing.specs.Recovery.{clean_flaws, passed_to, field_hint, field_read, recover_read}
use Rattle.closing.specs.Recovering.{after_question, sign_hint, is_silent, recovering, recover_table}
use Rattle.closing.specs.Defaults.{is_identifier}
use Rattle.closing.specs.Wholes.{missing_read, placeholder_read}
use Rattle.placeholder.specs.declared.ArgumentFlaws.{ArgumentFlaws}
use Rattle.placeholder.specs.declared.Hex.{Hex}
use Rattle.frame.specs.declared.Mode.{Mode}
use Rattle.placeholder.specs.declared.position.PlaceRead.{PlaceRead}
use Rattle.placeholder.specs.declared.format.FillRead.{FillRead}
use Rattle.placeholder.specs.declared.format.AlignRead.{AlignRead}
use Rattle.placeholder.specs.declared.format.SignRead.{SignRead}
use Rattle.placeholder.specs.declared.format.WidthRead.{WidthRead}
use Rattle.placeholder.specs.declared.format.PrecisionRead.{PrecisionRead}
use Rattle.placeholder.specs.declared.format.TypeRead.{TypeRead}
use Rattle.placeholder.specs.declared.format.SpecRead.{SpecRead}
use Rattle.closing.specs.declared.recover.Hint.{Hint}
use Rattle.closing.specs.declared.recover.Recovery.{Recovery}
use Rattle.closing.specs.declared.whole.Closing.{Closing}
use Rattle.closing.specs.declared.whole.PlaceholderRead.{PlaceholderRead}
use Rattle.scan.specs.declared.Numeral.{Numeral}
use Rattle.utf8.specs.declared.Char.{Char}

-- one for a flaw, none for a clean part
abbrev pub held : Flaw → ℕ
held Flaw.Clean = 0
held (Flaw.RawName r) = 1
held (Flaw.AfterDebug p) = 1
held (Flaw.Underscore r) = 1
held (Flaw.TooLarge r) = 1

-- a part holds one flaw at most
held_most : (x : Flaw) → held x ≤ 1
held_most Flaw.Clean = omega arith
held_most (Flaw.RawName r) = omega arith
held_most (Flaw.AfterDebug p) = omega arith
held_most (Flaw.Underscore r) = omega arith
held_most (Flaw.TooLarge r) = omega arith

-- a clean one holds none
held_clean : held Flaw.Clean ≡ 0
held_clean = refl

-- one for what is said, none for silence
unfoldable pub said : Hint → ℕ
said x = pick (is_silent x) 0 1

-- one thing is said at most
said_most : (x : Hint) → said x ≤ 1
unfolding said
said_most x = pick_elim (λ (n : ℕ). n ≤ 1) (is_silent x) (λ _. omega arith) (λ _. omega arith)

-- and nothing in silence
said_none : said Hint.Silent ≡ 0
unfolding said pick
said_none = refl

-- what an argument's slots hold
unfoldable pub held_in : ArgumentFlaws → ℕ
held_in a = held a.place + held a.raw + held a.width + held a.precision + held a.typetext

-- those of an argument that is not there hold none
clean_none : held_in clean_flaws ≡ 0
unfolding held_in
clean_none = refl

module _ (t : List ℕ) (at : TextPlace) where
  -- the word `_` is a byte long
  word_paid : at.0 + held (word_read t at).flaw ≤ (word_read t at).word.end.0
  unfolding word_read is_underscore
  word_paid =
      let end = word_end t at in
      let on = word_on t at in
      pick_elim (λ (x : Flaw). at.0 + held x ≤ end.0) _
      (λ y.
      let one = eqb-true end.0 (at.0 + 1) (both_right (is_at t at 0x5F) _ y) in
      omega (arith, held_most (Flaw.Underscore (range_of at end))))
      (λ _. omega (arith, held_clean))

  -- a number that is too large has a digit
  number_paid : at.0 + held (number_read t at).flaw ≤ (number_read t at).digits.end.0
  unfolding number_read number_from
  number_paid =
      let end = run_end is_digit t at.0 in
      let on = run_on is_digit t at.0 in
      pick_elim (λ (r : NumberRead). at.0 + held r.flaw ≤ r.digits.end.0) _ (λ _. omega (arith, held_clean))
      (λ n.
      let some = eqb-false at.0 end n in
      omega (arith, held_most (too_large (numeral (decimal 0 (digits_at t at))) (range_of at (place end)))))

  -- where a character is passed that stands there, a fault is paid for
  ate_paid : (c : ℕ) {k : ℕ} → k ≤ 1 → (consumed t at c).ate ≡ true → at.0 + k ≤ (consumed t at c).at.0
  ate_paid c l y = omega (arith, consumed_some t at c y)

module _ (t : List ℕ) where
  -- after `r` the `#` pays for the raw name, and the word inside for itself
  raw_paid : (name : TextRange) →
      name.end.0 + held (raw_place t name).flaw + held (raw_place t name).raw ≤ (raw_place t name).at.0
  unfolding raw_place
  raw_paid name =
      let end = name.end in
      let hash = consumed t end 0x23 in
      let inner = word_read t hash.at in
      let P : PlaceRead → Type 0 = λ r. end.0 + held r.flaw + held r.raw ≤ r.at.0 in
      let none : end.0 + held Flaw.Clean + held Flaw.Clean ≤ end.0 = omega (arith, held_clean) in
      pick_elim P _
      (λ y.
      pick_elim P _ (λ _. none)
      (λ _.
      omega (arith, ate_paid t end 0x23 (held_most (Flaw.RawName (range_of name.start inner.word.end))) y, word_paid t hash.at)))
      (λ _. none)

  module _ (at : TextPlace) where
    -- a place that is a word
    word_place_paid : at.0 + held (word_place t at).flaw + held (word_place t at).raw ≤ (word_place t at).at.0
    unfolding word_place
    word_place_paid =
        let w = word_read t at in
        let P : PlaceRead → Type 0 = λ r. at.0 + held r.flaw + held r.raw ≤ r.at.0 in
        let paid = word_paid t at in
        pick_elim P _ (λ _. omega (arith, held_clean))
        (λ _. pick_elim P _ (λ _. omega (arith, raw_paid w.word)) (λ _. omega (arith, held_clean)))

    -- the place of an argument
    place_paid : at.0 + held (place_read t at).flaw + held (place_read t at).raw ≤ (place_read t at).at.0
    unfolding place_read
    place_paid = go (number_read t at).number
      where
        go : (n : Option Numeral) →
            let r = place_after t at (number_read t at) n in at.0 + held r.flaw + held r.raw ≤ r.at.0
        go (Some n) = omega (arith, number_paid t at, held_clean)
        go None = word_place_paid

    -- an align goes forward
    align_on : at.0 ≤ (align_read t at).at.0
    unfolding align_read
    align_on =
        let P : AlignRead → Type 0 = λ r. at.0 ≤ r.at.0 in
        pick_elim P _ (λ _. consumed_on t at 0x3C)
        (λ _. pick_elim P _ (λ _. consumed_on t at 0x3E) (λ _. pick_elim P _ (λ _. consumed_on t at 0x5E) (λ _. le_refl at.0)))

    -- and a sign
    sign_on : at.0 ≤ (sign_read t at).at.0
    unfolding sign_read
    sign_on =
        let P : SignRead → Type 0 = λ r. at.0 ≤ r.at.0 in
        pick_elim P _ (λ _. consumed_on t at 0x2B) (λ _. pick_elim P _ (λ _. consumed_on t at 0x2D) (λ _. le_refl at.0))

  module _ (f : Frame) (at : TextPlace) where
    -- and a fill
    fill_on : at.0 ≤ (fill_read t f at).at.0
    unfolding fill_read
    fill_on =
        seen_elim (λ (n : Option Char). at.0 ≤ (fill_seen t f at n).at.0) t at.0 (λ _. le_refl at.0)
        (λ c w e. pick_elim (λ (r : FillRead). at.0 ≤ r.at.0) _ (λ _. omega arith) (λ _. le_refl at.0))

    -- and a width
    width_on : at.0 ≤ (width_read t f at).at.0
    unfolding width_read plain_width
    width_on =
        let P : WidthRead → Type 0 = λ r. at.0 ≤ r.at.0 in
        let zero = (consumed t at 0x30).at in
        let flag = consumed_on t at 0x30 in
        pick_elim P _ (λ _. pick_elim P _ (λ _. le_trans flag (consumed_on t zero 0x24)) (λ _. le_trans flag (count_on t f zero)))
        (λ _. count_on t f at)

    -- and what follows a dot
    dot_on : (dot : TextPlace) (n : ℕ) → at.0 ≤ (after_dot t f dot at n).at.0
    unfolding after_dot
    dot_on dot n = pick_elim (λ (r : PrecisionRead). at.0 ≤ r.at.0) _ (λ _. consumed_on t at 0x2A) (λ _. count_on t f at)

  module _ (f : Frame) (at : TextPlace) where
    -- a precision's dot pays for its count, even for a word that is given back
    precision_paid : (n : ℕ) → at.0 + held (precision_read t f at n).flaw ≤ (precision_read t f at n).at.0
    unfolding precision_read
    precision_paid n =
        let dot = (consumed t at 0x2E).at in
        pick_elim (λ (r : PrecisionRead). at.0 + held r.flaw ≤ r.at.0) _
        (λ y. omega (arith, ate_paid t at 0x2E (held_most (after_dot t f at dot n).flaw) y, dot_on f dot at n))
        (λ _. omega (arith, held_clean))

    -- a type that is a word
    word_type_paid : at.0 + held (word_type t f at).flaw ≤ (word_type t f at).at.0
    unfolding word_type
    word_type_paid = word_paid t at

  -- nothing is wrong after an `x` or an `X`
  hex_paid : (h : Hex) (from at : TextPlace) → at.0 + held (hex_type t h from at).flaw ≤ (hex_type t h from at).at.0
  unfolding hex_type
  hex_paid h from at =
      pick_elim (λ (r : TypeRead). at.0 + held r.flaw ≤ r.at.0) _ (λ _. omega (arith, consumed_on t at 0x3F, held_clean))
      (λ _. omega (arith, held_clean))

  -- a type, whose `?` pays for what follows it
  type_paid : (f : Frame) (at : TextPlace) → at.0 + held (type_read t f at).flaw ≤ (type_read t f at).at.0
  unfolding type_read debug_type
  type_paid f at =
      let lower = (consumed t at 0x78).at in
      let upper = (consumed t at 0x58).at in
      let debug = (consumed t at 0x3F).at in
      let P : TypeRead → Type 0 = λ r. at.0 + held r.flaw ≤ r.at.0 in
      pick_elim P _ (λ _. omega (arith, consumed_on t at 0x78, hex_paid Hex.Lower at lower))
      (λ _.
      pick_elim P _ (λ _. omega (arith, consumed_on t at 0x58, hex_paid Hex.Upper at upper))
      (λ _.
      pick_elim P _ (λ y. ate_paid t at 0x3F (held_most (debug_type t at debug).flaw) y) (λ _. word_type_paid f at)))

-- what the slots of a spec hold
unfoldable held_spec : SpecRead → ℕ
held_spec r = held r.width + held r.precision + held r.typetext

module _ (t : List ℕ) (f : Frame) where
  -- a Format spec but for its width, which may be a word that is given back
  format_paid : (at : TextPlace) (n : ℕ) → at.0 + held_spec (format_read t f at n) ≤ (format_read t f at n).at.0 + 1
  unfolding format_read held_spec
  format_paid at n =
      let fill = (fill_read t f at).at in
      let align = (align_read t fill).at in
      let sign = (sign_read t align).at in
      let hash = (consumed t sign 0x23).at in
      let width = (width_read t f hash).at in
      let precision = (precision_read t f width n).at in
      omega (
        arith,
        fill_on t f at,
        align_on t fill,
        sign_on t align,
        consumed_on t sign 0x23,
        width_on t f hash,
        held_most (width_read t f hash).flaw,
        precision_paid t f width n,
        type_paid t f precision,
      )

  -- the spec of each mode, after its colon
  after_colon_paid : (m : Mode) (colon at : TextPlace) (n : ℕ) →
      at.0 + held_spec (after_colon t f m colon at n) ≤ (after_colon t f m colon at n).at.0 + 1
  unfolding held_spec diagnostic_type
  after_colon_paid Mode.Format colon at n = format_paid at n
  after_colon_paid Mode.InlineAsm colon at n = omega (arith, word_type_paid t f at, held_clean)
  after_colon_paid Mode.Diagnostic colon at n = omega (arith, text_on t at, held_clean)

  -- a spec, whose colon pays for that width
  spec_paid : (m : Mode) (at : TextPlace) (n : ℕ) → at.0 + held_spec (spec_read t f m at n) ≤ (spec_read t f m at n).at.0
  unfolding spec_read held_spec
  spec_paid m at n =
      let colon = (consumed t at 0x3A).at in
      pick_elim (λ (r : SpecRead). at.0 + held_spec r ≤ r.at.0) _
      (λ y. omega (arith, consumed_some t at 0x3A y, after_colon_paid m at colon n))
      (λ _. omega (arith, held_clean))

  -- all that stands between the braces
  argument_paid : (m : Mode) (at : TextPlace) (n : ℕ) → at.0 + held_in (argument_read t f m at n).flaws ≤ (argument_read t f m at n).at.0
  unfolding argument_read held_in held_spec
  argument_paid m at n =
      let place = (place_read t at).at in
      let to = spaces_past t place in
      omega (arith, place_paid t at, spaces_on t place, spec_paid m to n)

-- what is held where a closing brace is missing, but for that it is
unfoldable pub held_on : Recovery → ℕ
held_on r = held r.word + held_in r.field + said r.hint

-- where no word and no field is read it is what is said
passed_held : (at : TextPlace) (n : ℕ) (hint : Hint) → held_on (passed_to at n hint) ≡ said hint
unfolding held_on
passed_held at n hint = omega (arith, held_clean, clean_none)

module _ (t : List ℕ) where
  -- a `?` pays for what is said of it, and the word after `?:` for itself
  question_paid : (at past : TextPlace) (n : ℕ) → at.0 < past.0 →
      at.0 + held_on (after_question t at past n) ≤ (after_question t at past n).at.0
  unfolding after_question held_on
  question_paid at past n on =
      let colon = (consumed t past 0x3A).at in
      let w = word_read t colon in
      let P : Recovery → Type 0 = λ r. at.0 + held_on r ≤ r.at.0 in
      pick_elim P _ (λ _. omega (arith, passed_held past n (Hint.NoColon at), said_most (Hint.NoColon at)))
      (λ _.
      pick_elim P _
      (λ _. omega (arith, consumed_on t past 0x3A, word_paid t colon, said_most (Hint.DebugFirst at w.word), clean_none))
      (λ _. omega (arith, passed_held past n Hint.Silent, said_none)))

  module _ (f : Frame) (m : Mode) where
    -- a field's dot pays for what is said of it, and the field for itself
    field_paid : (from at : TextPlace) (n : ℕ) → at.0 + held_on (field_read t f m from at n) ≤ (field_read t f m from at n).at.0
    unfolding field_read held_on
    field_paid from at n =
        let dot = (consumed t at 0x2E).at in
        let field = argument_read t f m dot n in
        let close = consumed t field.at 0x7D in
        pick_elim (λ (r : Recovery). at.0 + held_on r ≤ r.at.0) _
        (λ y.
        omega (
          arith,
          ate_paid t at 0x2E (said_most (pick close.ate (field_hint field.place from field.to) Hint.Silent)) y,
          argument_paid t f m dot n,
          consumed_on t field.at 0x7D,
          held_clean,
        ))
        (λ _. omega (arith, passed_held at n Hint.Silent, said_none))

    -- what is passed where a closing brace is missing
    recover_paid : (from : TextPlace) (i : Bool) (at : TextPlace) (n : ℕ) →
        at.0 + held_on (recover_read t f m from i at n) ≤ (recover_read t f m from i at n).at.0
    unfolding recovering
    recover_paid from i at n =
        let past = past_at t at in
        let hint = sign_hint t at past in
        let P : Recovery → Type 0 = λ r. at.0 + held_on r ≤ r.at.0 in
        let none : P (passed_to at n Hint.Silent) = omega (arith, passed_held at n Hint.Silent, said_none) in
        rw (recover_table t f m from i at n)
        (pick_elim P _
        (λ l.
        let two = ltb-true past.0 (length t) l in
        let some = past_some t at (omega (arith, past_on t at)) in
        pick_elim P _ (λ _. question_paid at past n some)
        (λ _.
        pick_elim P _ (λ _. pick_elim P _ (λ _. field_paid from at n) (λ _. none))
        (λ _. omega (arith, passed_held past n hint, said_most hint))))
        (λ _. none))

-- what is held at the end of a placeholder
abbrev pub held_at : Closing → ℕ
held_at (Closing.Closed p) = 0
held_at (Closing.Missing gap on) = 1 + held_on on

-- a whole placeholder, but for its opening brace, which pays for a closing one that is missing
pub placeholder_paid : (t : List ℕ) (f : Frame) (m : Mode) (brace at : TextPlace) (n : ℕ) →
    let p = placeholder_read t f m brace at n in at.0 + held_in p.flaws + held_at p.closing ≤ p.at.0 + 1
unfolding placeholder_read missing_read
placeholder_paid t f m brace at n =
    let a = argument_read t f m at n in
    let end = spaces_past t a.at in
    let own = argument_paid t f m at n in
    let on = spaces_on t a.at in
    pick_elim (λ (p : PlaceholderRead). at.0 + held_in p.flaws + held_at p.closing ≤ p.at.0 + 1) _
    (λ _. omega (arith, consumed_on t end 0x7D))
    (λ _.
    omega (arith, recover_paid t f m a.from (is_identifier a.place a.spec) end a.next))
