-- Every number of a reading fits, part by part up to a whole placeholder: a place of the text is at most its length, a span is a place of the
-- text moved by the quote's offset or "end", and no step takes more than four arguments.
-- Rests on `scan`'s and `placeholder`'s definitions, and on FoundLaws for where their parts stop.
use Rattle.std.specs.Prelude.{ℕ, ◌+◌, ◌≤◌, ◌<◌, Bool, true, false, List, length, Option, Some, None}
use native.Mathlib.Omega.{arith}
use borrow.Author.Tests.{ltb-true}
use Rattle.utf8.specs.ChoiceLaws.{pick_elim}
use Rattle.utf8.specs.CharLaws.{peeked}
use Rattle.frame.specs.Spans.{to_snippet, start_of, span_between}
use Rattle.frame.specs.Bounds.{Small}
use Rattle.frame.specs.declared.TextPlace.{TextPlace}
use Rattle.frame.specs.declared.TextRange.{TextRange}
use Rattle.frame.specs.declared.SnippetPlace.{SnippetPlace}
use Rattle.frame.specs.declared.Frame.{Frame}
use Rattle.scan.specs.Characters.{consumed, spaces_past}
use Rattle.scan.specs.Ends.{end_seen, end_of, span_across}
use Rattle.scan.specs.Words.{word_read, number_read}
use Rattle.scan.specs.Counts.{number_count, name_count, count_after, count_read}
use Rattle.scan.specs.ScanLaws.{seen_elim, consumed_in, spaces_in, text_in, word_in}
use Rattle.scan.specs.declared.CountRead.{CountRead}
use Rattle.placeholder.specs.Places.{raw_place, word_place, place_after, place_read}
use Rattle.placeholder.specs.Parts.{fill_seen, fill_read, plain_width, width_read, after_dot, precision_read}
use Rattle.placeholder.specs.Types.{hex_type, debug_type, word_type, type_read}
use Rattle.placeholder.specs.Format.{format_read}
use Rattle.placeholder.specs.Specs.{type_only, diagnostic_type, after_colon, spec_read}
use Rattle.placeholder.specs.Arguments.{resolved, argument_read}
use Rattle.placeholder.specs.BoundLaws.{spec_next}
use Rattle.closing.specs.OnwardLaws.{argument_in, recover_in}
use Rattle.closing.specs.Defaults.{is_identifier}
use Rattle.closing.specs.Wholes.{missing_read, placeholder_read}
use Rattle.placeholder.specs.declared.Hex.{Hex}
use Rattle.frame.specs.declared.Mode.{Mode}
use Rattle.placeholder.specs.declared.position.Found.{Found}
use Rattle.placeholder.specs.declared.position.PlaceRead.{PlaceRead}
use Rattle.placeholder.specs.declared.format.FillRead.{FillRead}
use Rattle.placeholder.specs.declared.format.WidthRead.{WidthRead}
use Rattle.placeholder.specs.declared.format.PrecisionRead.{PrecisionRead}
use Rattle.placeholder.specs.declared.format.TypeRead.{TypeRead}
use Rattle.placeholder.specs.declared.format.SpecRead.{SpecRead}
use Rattle.placeholder.specs.declared.between.ArgumentRead.{ArgumentRead}
use Rattle.closing.specs.declared.whole.PlaceholderRead.{PlaceholderRead}
use Rattle.scrolls.specs.FoundLaws.{lead_between, width_between, precision_between, argument_to}
use Rattle.back.specs.Back.{Below, RangeFits, SpanFits, MaybeSpanFits, FillFits, PlaceFits, CountFits, SpecFits, ArgumentFits}
use Rattle.scan.specs.declared.Numeral.{Numeral}
use Rattle.utf8.specs.declared.Char.{Char}

-- a place, and bytes, within a text
abbrev pub In : List ℕ → TextPlace → Type 0
In t at = at.0 ≤ length t

abbrev pub RangeIn : List ℕ → TextRange → Type 0
RangeIn t r = In t r.start × In t r.end

-- a place that is found
abbrev FoundFits : Found → Type 0
FoundFits Found.Nothing = Unit {0}
FoundFits (Found.Number n) = Unit {0}
FoundFits (Found.Word r) = RangeFits r

-- what each part says of its numbers
record WidthIn (r : WidthRead) : Type 0 where
  width : CountFits r.width
  span : MaybeSpanFits r.span

record PrecisionIn (r : PrecisionRead) : Type 0 where
  precision : CountFits r.precision
  span : MaybeSpanFits r.span

record TypeIn (r : TypeRead) : Type 0 where
  typetext : RangeFits r.typetext
  span : MaybeSpanFits r.span

record ArgumentIn (r : ArgumentRead) : Type 0 where
  place : PlaceFits r.place
  spec : SpecFits r.spec

module _ (t : List ℕ) (f : Frame) (small : Small t f) (end : Below f.end.0) where
  -- bytes within the text fit
  pub in_fits : (r : TextRange) → RangeIn t r → RangeFits r
  in_fits r h = omega (arith, small.text)

  -- every place of the snippet fits, wherever it is taken
  start_fits : (at : TextPlace) → Below (start_of t f at).0
  unfolding start_of to_snippet
  start_fits at =
      pick_elim (λ (p : SnippetPlace). Below p.0) _ (λ l. omega (arith, ltb-true at.0 (length t) l, small.text, small.quote)) (λ _. end)

  end_fits : (at : TextPlace) → Below (end_of t f at).0
  unfolding end_of to_snippet
  end_fits at =
      seen_elim (λ (n : Option Char). Below (end_seen f at n).0) t at.0 (λ _. end)
      (λ c w e. omega (arith, (peeked t at.0 e).room, small.text, small.quote))

  -- so every span does
  pub between_fits : (a b : TextPlace) → SpanFits (span_between t f a b)
  unfolding span_between
  between_fits a b = (start_fits a, start_fits b)

  pub across_fits : (a b : TextPlace) → SpanFits (span_across t f a b)
  unfolding span_across
  across_fits a b = (start_fits a, end_fits b)

  -- the bytes of a word
  word_fits : (at : TextPlace) → In t at → RangeFits (word_read t at).word
  unfolding word_read
  word_fits at h = in_fits _ (h, word_in t at h)

  -- a count
  count_fits : (at : TextPlace) → In t at → CountFits (count_read t f at).count
  unfolding count_read number_count name_count
  count_fits at h = go (number_read t at).number
    where
      go : (n : Option Numeral) → CountFits (count_after t f at (number_read t at) n).count
      go (Some n) = pick_elim (λ (r : CountRead). CountFits r.count) _ (λ _. tt) (λ _. tt)
      go None =
          let P : CountRead → Type 0 = λ r. CountFits r.count in
          pick_elim P _ (λ _. tt) (λ _. pick_elim P _ (λ _. (word_fits at h, between_fits at _)) (λ _. tt))

  -- what follows the word `r`
  raw_place_fits : (name : TextRange) → RangeIn t name → FoundFits (raw_place t name).found
  unfolding raw_place word_read
  raw_place_fits name h =
      let P : PlaceRead → Type 0 = λ r. FoundFits r.found in
      let plain = in_fits name h in
      pick_elim P _ (λ _. pick_elim P _ (λ _. plain) (λ _. word_fits _ (consumed_in t name.end 0x23 h.1))) (λ _. plain)

  module _ (at : TextPlace) (h : In t at) where
    -- a place that is a word, or nothing
    word_place_fits : FoundFits (word_place t at).found
    unfolding word_place word_read
    word_place_fits =
        let P : PlaceRead → Type 0 = λ r. FoundFits r.found in
        pick_elim P _ (λ _. tt) (λ _. pick_elim P _ (λ _. raw_place_fits _ (h, word_in t at h)) (λ _. word_fits at h))

    -- the place of an argument
    place_fits : FoundFits (place_read t at).found
    unfolding place_read
    place_fits = go (number_read t at).number
      where
        go : (n : Option Numeral) → FoundFits (place_after t at (number_read t at) n).found
        go (Some n) = tt
        go None = word_place_fits

    -- a fill
    fill_fits : FillFits (fill_read t f at).fill
    unfolding fill_read
    fill_fits =
        seen_elim (λ (n : Option Char). FillFits (fill_seen t f at n).fill) t at.0 (λ _. tt)
        (λ c w e. pick_elim (λ (r : FillRead). FillFits r.fill) _ (λ _. across_fits at at) (λ _. tt))

    -- a width without the `0` flag
    plain_width_fits : (zero : Bool) → WidthIn (plain_width t f zero at)
    unfolding plain_width
    plain_width_fits zero = record { width = count_fits at h; span = pick_elim MaybeSpanFits _ (λ _. tt) (λ _. between_fits at _) }

    -- what follows a dot
    after_dot_fits : (dot : TextPlace) (n : ℕ) → Below n → PrecisionIn (after_dot t f dot at n)
    unfolding after_dot
    after_dot_fits dot n few =
        pick_elim PrecisionIn _ (λ _. record { precision = few; span = between_fits dot _ })
        (λ _. record { precision = count_fits at h; span = between_fits dot _ })

    -- a type that is a word, or nothing
    word_type_fits : TypeIn (word_type t f at)
    unfolding word_type
    word_type_fits =
        record {
          typetext = word_fits at h;
          span = pick_elim MaybeSpanFits _ (λ _. tt) (λ _. between_fits at _);
        }

    -- what follows an `x` or an `X`
    hex_fits : (x : Hex) (from : TextPlace) → In t from → TypeIn (hex_type t x from at)
    unfolding hex_type
    hex_fits x from l =
        pick_elim TypeIn _ (λ _. record { typetext = in_fits _ (h, consumed_in t at 0x3F h); span = tt })
        (λ _. record { typetext = in_fits _ (l, h); span = tt })

    -- what follows a `?`
    debug_fits : (from : TextPlace) → In t from → TypeIn (debug_type t from at)
    unfolding debug_type
    debug_fits from l = record { typetext = in_fits _ (l, h); span = tt }

    -- a Diagnostic type
    diagnostic_fits : (colon : TextPlace) → TypeIn (diagnostic_type t f colon at)
    unfolding diagnostic_type
    diagnostic_fits colon = record { typetext = in_fits _ (h, text_in t at h); span = between_fits colon _ }

  module _ (at : TextPlace) (h : In t at) where
    -- a width, with the `0` flag before it
    width_fits : WidthIn (width_read t f at)
    unfolding width_read
    width_fits =
        let P = WidthIn in
        let zero = (consumed t at 0x30).at in
        pick_elim P _
        (λ _. pick_elim P _ (λ _. record { width = tt; span = across_fits at zero }) (λ _. plain_width_fits zero (consumed_in t at 0x30 h) true))
        (λ _. plain_width_fits at h false)

    -- a precision
    precision_fits : (n : ℕ) → Below n → PrecisionIn (precision_read t f at n)
    unfolding precision_read
    precision_fits n few =
        pick_elim PrecisionIn _ (λ _. after_dot_fits _ (consumed_in t at 0x2E h) at n few) (λ _. record { precision = tt; span = tt })

    -- a type
    type_fits : TypeIn (type_read t f at)
    unfolding type_read
    type_fits =
        let P = TypeIn in
        pick_elim P _ (λ _. hex_fits _ (consumed_in t at 0x78 h) Hex.Lower at h)
        (λ _.
        pick_elim P _ (λ _. hex_fits _ (consumed_in t at 0x58 h) Hex.Upper at h)
        (λ _. pick_elim P _ (λ _. debug_fits _ (consumed_in t at 0x3F h) at h) (λ _. word_type_fits at h)))

  -- a spec that has a type and nothing else
  type_only_fits : (ty : TypeRead) (n : ℕ) → TypeIn ty → SpecFits (type_only ty n).spec
  type_only_fits ty n x =
      record {
        fill = tt;
        width = tt;
        widthspan = tt;
        precision = tt;
        precisionspan = tt;
        typetext = x.typetext;
        typespan = x.span;
      }

  -- a Format spec, a part at a time
  format_fits : (at : TextPlace) → In t at → (n : ℕ) → Below n → SpecFits (format_read t f at n).spec
  unfolding format_read
  format_fits at h n few =
      let lead = lead_between t 0 f at (omega arith, h) in
      let width = (width_between t 0 f _ lead).0 in
      let precision = (precision_between t 0 f _ width n).0 in
      let wi = width_fits _ lead.1 in
      let pr = precision_fits _ width.1 n few in
      let ty = type_fits _ precision.1 in
      record {
        fill = fill_fits at h;
        width = wi.width;
        widthspan = wi.span;
        precision = pr.precision;
        precisionspan = pr.span;
        typetext = ty.typetext;
        typespan = ty.span;
      }

  -- a spec with its colon, or nothing
  spec_fits : (m : Mode) (at : TextPlace) → In t at → (n : ℕ) → Below n → SpecFits (spec_read t f m at n).spec
  unfolding spec_read
  spec_fits m at h n few =
      pick_elim (λ (r : SpecRead). SpecFits r.spec) _ (λ _. go m _ (consumed_in t at 0x3A h))
      (λ _.
      record {
        fill = tt;
        width = tt;
        widthspan = tt;
        precision = tt;
        precisionspan = tt;
        typetext = in_fits _ (h, h);
        typespan = tt;
      })
    where
      go : (m : Mode) (to : TextPlace) → In t to → SpecFits (after_colon t f m at to n).spec
      go Mode.Format to l = format_fits to l n few
      go Mode.InlineAsm to l = type_only_fits _ n (word_type_fits to l)
      go Mode.Diagnostic to l = type_only_fits _ n (diagnostic_fits to l at)

  -- the place that an argument takes
  resolved_fits : (x : Found) (n : ℕ) → FoundFits x → Below n → PlaceFits (resolved x n).place
  resolved_fits Found.Nothing n h few = few
  resolved_fits (Found.Number k) n h few = tt
  resolved_fits (Found.Word r) n h few = h

  module _ (m : Mode) (at : TextPlace) (h : In t at) (n : ℕ) (few : n < 0xFFFFFFFF) where
    -- all that stands between the braces
    argument_fits : ArgumentIn (argument_read t f m at n)
    unfolding argument_read
    argument_fits =
        let to = spaces_past t (place_read t at).at in
        record {
          place = resolved_fits (place_read t at).found (spec_read t f m to n).next (place_fits at h) (omega (arith, spec_next t f m to n));
          spec = spec_fits m to (argument_to t 0 f m at (omega arith, h) n).1 n (omega arith);
        }

  -- A WHOLE PLACEHOLDER
  module _ (m : Mode) (brace at : TextPlace) (b : In t brace) (h : In t at) (n : ℕ) (few : n + 2 < 0xFFFFFFFF) where
    pub placeholder_fits : ArgumentFits (placeholder_read t f m brace at n).argument
    unfolding placeholder_read missing_read
    placeholder_fits =
        let a = argument_read t f m at n in
        let x = argument_fits m at h n (omega arith) in
        let to = spaces_past t a.at in
        let inside = spaces_in t a.at (argument_in t f m at n h) in
        let i = is_identifier a.place a.spec in
        pick_elim (λ (p : PlaceholderRead). ArgumentFits p.argument) _
        (λ _.
        record {
          place = x.place;
          placespan = between_fits a.from a.to;
          spec = x.spec;
          range = in_fits _ (b, consumed_in t to 0x7D inside);
        })
        (λ _.
        record {
          place = x.place;
          placespan = between_fits a.from a.to;
          spec = x.spec;
          range = in_fits _ (b, recover_in t f m a.from i to a.next inside);
        })
