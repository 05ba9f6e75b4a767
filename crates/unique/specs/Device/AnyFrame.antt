-- The frame changes spans alone: part by part, what two frames give is the same but for spans. Rests on grammar's Spanless.
use Rattle.std.specs.Prelude.{◌≡◌, List, [], ◌∷◌, map, Bool, length, Option, Some, None}
use Rattle.std.proofs.Math.Path.{refl, ap, sym}
use Rattle.std.proofs.Common.{◌∙◌}
use Rattle.std.proofs.Math.Bool.{true, false}
use Prim.Native.Nat.{ℕ, zero, suc, ◌+◌}
use Rattle.utf8.specs.Choice.{pick}
use Rattle.utf8.specs.Utf8.{peek_at}
use Rattle.frame.specs.Places.{range_of}
use Rattle.frame.specs.declared.TextPlace.{TextPlace}
use Rattle.frame.specs.declared.Span.{Span}
use Rattle.frame.specs.declared.Frame.{Frame}
use Rattle.frame.specs.declared.Mode.{Mode}
use Rattle.scan.specs.Characters.{past_at, consumed, spaces_past}
use Rattle.scan.specs.Words.{number_read}
use Rattle.scan.specs.Counts.{name_count, count_after, count_read}
use Rattle.scan.specs.declared.Consumed.{Consumed}
use Rattle.scan.specs.declared.Count.{Count}
use Rattle.scan.specs.declared.CountRead.{CountRead}
use Rattle.placeholder.specs.Parts.{is_implied, fill_seen, fill_read, align_read, sign_read, plain_width, width_read, after_dot, precision_read}
use Rattle.placeholder.specs.Types.{word_type, type_read}
use Rattle.placeholder.specs.Format.{format_read}
use Rattle.placeholder.specs.Specs.{type_only, diagnostic_type, after_colon, spec_read}
use Rattle.placeholder.specs.Places.{place_read}
use Rattle.placeholder.specs.Arguments.{resolved, joined, argument_read}
use Rattle.placeholder.specs.declared.Fill.{Fill}
use Rattle.placeholder.specs.declared.Place.{Place}
use Rattle.placeholder.specs.declared.Spec.{Spec}
use Rattle.placeholder.specs.declared.position.PlaceRead.{PlaceRead}
use Rattle.placeholder.specs.declared.Argument.{Argument}
use Rattle.placeholder.specs.declared.between.ArgumentRead.{ArgumentRead}
use Rattle.placeholder.specs.declared.format.FillRead.{FillRead}
use Rattle.placeholder.specs.declared.format.WidthRead.{WidthRead}
use Rattle.placeholder.specs.declared.format.PrecisionRead.{PrecisionRead}
use Rattle.placeholder.specs.declared.format.TypeRead.{TypeRead}
use Rattle.placeholder.specs.declared.format.SpecRead.{SpecRead}
use Rattle.closing.specs.Defaults.{no_fill, no_span, no_marks, no_counts, is_default, is_identifier}
use Rattle.closing.specs.Recovery.{because, gap_at, passed_to, text_taken, field_after, field_read, recover_read}
use Rattle.closing.specs.Recovering.{recovering, recover_table}
use Rattle.closing.specs.Wholes.{missing_read, placeholder_read}
use Rattle.closing.specs.declared.recover.Hint.{Hint}
use Rattle.closing.specs.declared.recover.Recovery.{Recovery}
use Rattle.closing.specs.declared.whole.Closing.{Closing}
use Rattle.closing.specs.declared.whole.PlaceholderRead.{PlaceholderRead}
use Rattle.reading.specs.Wants.{larger, place_wants, count_wants, argument_wants}
use Rattle.reading.specs.Steps.{state_of, after_open, step_at, onward, follow, steps_from, start, reading}
use Rattle.reading.specs.Faults.{step_slots, faults_of, Finding}
use Rattle.reading.specs.Records.{record_of}
use Rattle.reading.specs.Lists.{gather, pieces_of, pieces, listed, records, findings, found, errors}
use Rattle.reading.specs.declared.Fault.{Fault}
use Rattle.reading.specs.declared.State.{State}
use Rattle.reading.specs.declared.Step.{Step}
use Rattle.reading.specs.declared.Piece.{Piece}
use Rattle.reading.specs.declared.ErrorRecord.{ErrorRecord}
use Rattle.laws.specs.RecordLaws.{record_parts}
use Rattle.grammar.specs.Spanless as S
use Rattle.scan.specs.declared.Numeral.{Numeral}
use Rattle.utf8.specs.declared.Char.{Char}

-- a choice by the same test
pick_same : {A B : Type 0} (h : A → B) (b : Bool) {x y z w : A} → h x ≡ h z → h y ≡ h w → h (pick b x y) ≡ h (pick b z w)
unfolding pick
pick_same h true p q = p
pick_same h false p q = q

-- and by tests that agree
pick_agree : {A B : Type 0} (h : A → B) (b c : Bool) → b ≡ c → {x y z w : A} → h x ≡ h z → h y ≡ h w → h (pick b x y) ≡ h (pick c z w)
pick_agree h b c e p q = rw e (pick_same h c p q)

-- what does not see what is left out is the same of things that are the same without it
blind : {A B : Type 0} (h : A → A) (k : A → B) → ((x : A) → k x ≡ k (h x)) → (x y : A) → h x ≡ h y → k x ≡ k y
blind h k s x y e = s x ∙ (ap k e ∙ sym (s y))

-- what the parts give, without spans
abbrev count_of : CountRead → CountRead
count_of r = record { count = S.count r.count; at = r.at; flaw = r.flaw; given = r.given }

abbrev fill_of : FillRead → FillRead
fill_of r = record { fill = S.fill r.fill; at = r.at }

abbrev width_of : WidthRead → WidthRead
width_of r = record { zero = r.zero; width = S.count r.width; span = S.maybe r.span; at = r.at; flaw = r.flaw; given = r.given }

abbrev precision_of : PrecisionRead → PrecisionRead
precision_of r = record { precision = S.count r.precision; span = S.maybe r.span; at = r.at; next = r.next; flaw = r.flaw; given = r.given }

abbrev type_of : TypeRead → TypeRead
type_of r = record { hex = r.hex; typetext = r.typetext; span = S.maybe r.span; at = r.at; flaw = r.flaw }

abbrev spec_of : SpecRead → SpecRead
spec_of r = record { spec = S.spec r.spec; at = r.at; next = r.next; width = r.width; precision = r.precision; typetext = r.typetext; given = r.given }

abbrev argument_of : ArgumentRead → ArgumentRead
argument_of r = record { place = r.place; from = r.from; to = r.to; spec = S.spec r.spec; at = r.at; next = r.next; flaws = r.flaws; given = r.given }

-- a count is implied or not, whatever its span
count_implied : (c : Count) → is_implied c ≡ is_implied (S.count c)
count_implied Count.Implied = refl
count_implied (Count.Fixed n) = refl
count_implied (Count.ByName r s) = refl
count_implied (Count.ByArgument n) = refl
count_implied (Count.ByStar n) = refl

module _ (t : List ℕ) (f g : Frame) where
  count_any : (at : TextPlace) → count_of (count_read t f at) ≡ count_of (count_read t g at)
  unfolding count_read name_count
  count_any at = go (number_read t at).number
    where
      go : (n : Option Numeral) → count_of (count_after t f at (number_read t at) n) ≡ count_of (count_after t g at (number_read t at) n)
      go (Some n) = refl
      go None = pick_same count_of _ refl (pick_same count_of _ refl refl)

  fill_any : (at : TextPlace) → fill_of (fill_read t f at) ≡ fill_of (fill_read t g at)
  unfolding fill_read
  fill_any at = go (peek_at t at.0)
    where
      go : (n : Option Char) → fill_of (fill_seen t f at n) ≡ fill_of (fill_seen t g at n)
      go None = refl
      go (Some seen) = pick_same fill_of _ refl refl

  -- a width has a span where it is not implied
  maybe_pick : (b : Bool) (s : Span) →
      S.maybe (pick b None (Some s)) ≡ pick b None (Some S.anywhere)
  unfolding pick
  maybe_pick true s = refl
  maybe_pick false s = refl

  plain_any : (z : Bool) (at : TextPlace) → width_of (plain_width t f z at) ≡ width_of (plain_width t g z at)
  unfolding plain_width
  plain_any z at =
      let x : CountRead = count_read t f at in
      let y : CountRead = count_read t g at in
      let e = count_any at in
      let c : S.count x.count ≡ S.count y.count = ap (λ r. r.count) e in
      let p : x.at ≡ y.at = ap (λ r. r.at) e in
      let w : x.flaw ≡ y.flaw = ap (λ r. r.flaw) e in
      let b : x.given ≡ y.given = ap (λ r. r.given) e in
      let i : is_implied x.count ≡ is_implied y.count = blind S.count is_implied count_implied x.count y.count c in
      simp (maybe_pick, i, c, p, w, b)

  width_any : (at : TextPlace) → width_of (width_read t f at) ≡ width_of (width_read t g at)
  unfolding width_read
  width_any at = pick_same width_of _ (pick_same width_of _ refl (plain_any true _)) (plain_any false at)

  precision_any : (at : TextPlace) (n : ℕ) → precision_of (precision_read t f at n) ≡ precision_of (precision_read t g at n)
  unfolding precision_read after_dot
  precision_any at n =
      let q : TextPlace = (consumed t at 0x2E).at in
      let e = count_any q in
      let c : S.count (count_read t f q).count ≡ S.count (count_read t g q).count = ap (λ r. r.count) e in
      let p : (count_read t f q).at ≡ (count_read t g q).at = ap (λ r. r.at) e in
      let w : (count_read t f q).flaw ≡ (count_read t g q).flaw = ap (λ r. r.flaw) e in
      let b : (count_read t f q).given ≡ (count_read t g q).given = ap (λ r. r.given) e in
      pick_same precision_of _ (pick_same precision_of _ refl (rw (c, p, w, b))) refl

  word_any : (at : TextPlace) → type_of (word_type t f at) ≡ type_of (word_type t g at)
  unfolding word_type
  word_any at = simp maybe_pick

  type_any : (at : TextPlace) → type_of (type_read t f at) ≡ type_of (type_read t g at)
  unfolding type_read
  type_any at = pick_same type_of _ refl (pick_same type_of _ refl (pick_same type_of _ refl (word_any at)))

  format_any : (at : TextPlace) (n : ℕ) → spec_of (format_read t f at n) ≡ spec_of (format_read t g at n)
  unfolding format_read
  format_any at n =
      let e = fill_any at in
      let p : (fill_read t f at).at ≡ (fill_read t g at).at = ap (λ r. r.at) e in
      let q : TextPlace = (consumed t (sign_read t (align_read t (fill_read t g at).at).at).at 0x23).at in
      let w = width_any q in
      let wp : (width_read t f q).at ≡ (width_read t g q).at = ap (λ r. r.at) w in
      let i : TextPlace = (width_read t g q).at in
      let k = precision_any i n in
      let kp : (precision_read t f i n).at ≡ (precision_read t g i n).at = ap (λ r. r.at) k in
      let j : TextPlace = (precision_read t g i n).at in
      let y = type_any j in
      rw (p, wp, kp)
      (λ x.
      record {
        spec =
            record {
              fill = (e x).fill;
              align = (align_read t (fill_read t g at).at).align;
              sign = (sign_read t (align_read t (fill_read t g at).at).at).sign;
              alternate = (consumed t (sign_read t (align_read t (fill_read t g at).at).at).at 0x23).ate;
              zero = (w x).zero;
              hex = (y x).hex;
              width = (w x).width;
              widthspan = (w x).span;
              precision = (k x).precision;
              precisionspan = (k x).span;
              typetext = (y x).typetext;
              typespan = (y x).span;
            };
        at = (y x).at;
        next = (k x).next;
        width = (w x).flaw;
        precision = (k x).flaw;
        typetext = (y x).flaw;
        given = (w x).given + (k x).given;
      })

  -- THE SPEC OF EACH MODE
  after_colon_any : (m : Mode) (colon at : TextPlace) (n : ℕ) → spec_of (after_colon t f m colon at n) ≡ spec_of (after_colon t g m colon at n)
  unfolding diagnostic_type
  after_colon_any Mode.Format colon at n = format_any at n
  after_colon_any Mode.InlineAsm colon at n = ap (λ r. type_only r n) (word_any at)
  after_colon_any Mode.Diagnostic colon at n = refl

  spec_any : (m : Mode) (at : TextPlace) (n : ℕ) → spec_of (spec_read t f m at n) ≡ spec_of (spec_read t g m at n)
  unfolding spec_read
  spec_any m at n = pick_same spec_of _ (after_colon_any m at _ n) refl

  -- ALL BETWEEN THE BRACES
  argument_any : (m : Mode) (at : TextPlace) (n : ℕ) → argument_of (argument_read t f m at n) ≡ argument_of (argument_read t g m at n)
  unfolding argument_read
  argument_any m at n =
      let po : PlaceRead = place_read t at in
      let to : TextPlace = spaces_past t po.at in
      ap (λ sp. joined at to po sp (resolved po.found sp.next)) (spec_any m to n)

-- A NAME AND NOTHING ELSE, told without spans
fill_none : (x : Option Fill) → no_fill x ≡ no_fill (S.fill x)
fill_none None = refl
fill_none (Some f) = refl

maybe_none : (x : Option Span) → no_span x ≡ no_span (S.maybe x)
maybe_none None = refl
maybe_none (Some s) = refl

identifier_same : (p : Place) (x : Spec) → is_identifier p x ≡ is_identifier p (S.spec x)
unfolding is_identifier is_default no_marks no_counts
identifier_same p x =
    rw (
      fill_none x.fill,
      count_implied x.width,
      count_implied x.precision,
      maybe_none x.widthspan,
      maybe_none x.precisionspan,
      maybe_none x.typespan,
    )

-- and what says why a closing brace should stand
because_same : (x : Option Fill) (from brace : TextPlace) → because x from brace ≡ because (S.fill x) from brace
because_same None from brace = refl
because_same (Some f) from brace = refl

-- a placeholder and a step, without spans
abbrev placeholder_of : PlaceholderRead → PlaceholderRead
placeholder_of r = record { argument = S.argument r.argument; text = r.text; flaws = r.flaws; closing = r.closing; at = r.at; next = r.next; given = r.given }

abbrev step_of : Step → Step
step_of Step.End = Step.End
step_of (Step.Stop p) = Step.Stop p
step_of (Step.Literal r) = Step.Literal r
step_of (Step.Placeholder p) = Step.Placeholder (placeholder_of p)

module _ (t : List ℕ) (f g : Frame) (m : Mode) where
  -- WHERE A CLOSING BRACE IS MISSING no span is made
  field_any : (from at : TextPlace) (n : ℕ) → field_read t f m from at n ≡ field_read t g m from at n
  unfolding field_read
  field_any from at n =
      let dot : Consumed = consumed t at 0x2E in
      ap (λ a. pick dot.ate (field_after m from a (consumed t a.at 0x7D)) (passed_to at n Hint.Silent)) (argument_any t f g m dot.at n)

  recover_any : (from : TextPlace) (i : Bool) (at : TextPlace) (n : ℕ) → recover_read t f m from i at n ≡ recover_read t g m from i at n
  unfolding recovering
  recover_any from i at n =
      let e : recovering t f m from i at n ≡ recovering t g m from i at n = rw (field_any from at n) in
      recover_table t f m from i at n ∙ (e ∙ sym (recover_table t g m from i at n))

  -- A WHOLE PLACEHOLDER, of an argument without spans
  abbrev whole : TextPlace → ArgumentRead → Closing → TextPlace → ℕ → ℕ → PlaceholderRead
  whole brace a closing at n given =
      record {
        argument = record { place = a.place; placespan = S.anywhere; spec = a.spec; range = range_of brace at };
        text = text_taken m a.spec.typetext;
        flaws = a.flaws;
        closing = closing;
        at = at;
        next = n;
        given = given;
      }

  -- where an argument ends, whitespace past
  abbrev end_of : ArgumentRead → TextPlace
  end_of a = spaces_past t a.at

  -- how reading goes on after it, and what says why
  abbrev goes : Frame → ArgumentRead → Recovery
  goes h a = recover_read t h m a.from (is_identifier a.place a.spec) (end_of a) a.next

  goes_same : (a : ArgumentRead) → goes f a ≡ goes f (argument_of a)
  goes_same a = ap (λ i. recover_read t f m a.from i (end_of a) a.next) (identifier_same a.place a.spec)

  abbrev why_of : TextPlace → ArgumentRead → TextPlace
  why_of brace a = because a.spec.fill (past_at t a.to) brace

  missing_any : (brace : TextPlace) (x y : ArgumentRead) → argument_of x ≡ argument_of y →
      placeholder_of (missing_read t f m brace x (end_of x)) ≡ placeholder_of (missing_read t g m brace y (end_of y))
  unfolding missing_read
  missing_any brace x y e =
      let why = blind argument_of (why_of brace) (λ a. because_same a.spec.fill (past_at t a.to) brace) x y e in
      let on : goes f x ≡ goes g y = blind argument_of (goes f) goes_same x y e ∙ recover_any _ _ _ _ in
      λ i. whole brace (e i) (Closing.Missing (gap_at t (end_of (e i)) (why i)) (on i)) (on i).at (on i).next ((e i).given + (on i).given)

  placeholder_any : (brace at : TextPlace) (n : ℕ) →
      placeholder_of (placeholder_read t f m brace at n) ≡ placeholder_of (placeholder_read t g m brace at n)
  unfolding placeholder_read
  placeholder_any brace at n =
      let e = argument_any t f g m at n in
      pick_agree placeholder_of _ _ (ap (λ a. (consumed t (end_of a) 0x7D).ate) e)
      (ap (λ a. whole brace a (Closing.Closed (end_of a)) (consumed t (end_of a) 0x7D).at a.next a.given) e)
      (missing_any brace (argument_read t f m at n) (argument_read t g m at n) e)

  -- STEPS
  step_any : (s : State) → step_of (step_at t f m s) ≡ step_of (step_at t g m s)
  unfolding step_at after_open
  step_any s =
      pick_same step_of _
      (pick_same step_of _ (pick_same step_of _ refl (ap Step.Placeholder (placeholder_any s.at _ s.next))) (pick_same step_of _ refl refl))
      refl

-- no span says how many arguments are wanted
count_wants_lem : (x : Count) → count_wants x ≡ count_wants (S.count x)
count_wants_lem Count.Implied = refl
count_wants_lem (Count.Fixed n) = refl
count_wants_lem (Count.ByName r s) = refl
count_wants_lem (Count.ByArgument n) = refl
count_wants_lem (Count.ByStar n) = refl

pub argument_wants_lem : (x : Argument) → argument_wants x ≡ argument_wants (S.argument x)
unfolding argument_wants
argument_wants_lem x =
    ap (λ (n : ℕ). larger (place_wants x.place) (larger n (count_wants x.spec.precision))) (count_wants_lem x.spec.width)
    ∙ ap (λ (n : ℕ). larger (place_wants x.place) (larger (count_wants (S.count x.spec.width)) n)) (count_wants_lem x.spec.precision)

-- a step goes on as it does without spans
onward_same : (s : State) (x : Step) → onward s x ≡ onward s (step_of x)
onward_same s Step.End = refl
onward_same s (Step.Stop p) = refl
onward_same s (Step.Literal r) = refl
onward_same s (Step.Placeholder p) = ap (λ (n : ℕ). Some (state_of p.at p.next (larger s.arguments n))) (argument_wants_lem p.argument)

follow_any : (f g : State → List Step) → ((s : State) → map step_of (f s) ≡ map step_of (g s)) → (s : State) (x y : Step) → step_of x ≡ step_of y →
    map step_of (x ∷ follow f (onward s x)) ≡ map step_of (y ∷ follow g (onward s y))
follow_any f g h s x y e = cc (e, more (onward s x), blind step_of (onward s) (onward_same s) x y e)
  where
    more : (o : Option State) → map step_of (follow f o) ≡ map step_of (follow g o)
    more None = refl
    more (Some s) = h s

steps_any : (t : List ℕ) (f g : Frame) (m : Mode) (k : ℕ) (s : State) → map step_of (steps_from k t f m s) ≡ map step_of (steps_from k t g m s)
unfolding steps_from
steps_any t f g m zero s = refl
steps_any t f g m (suc k) s =
    follow_any (steps_from k t f m) (steps_from k t g m) (λ q. steps_any t f g m k q) s (step_at t f m s) (step_at t g m s) (step_any t f g m s)

-- PIECES
pieces_same : (xs : List Step) → map S.piece (gather pieces_of xs) ≡ gather pieces_of (map step_of xs)
unfolding gather
pieces_same [] = refl
pieces_same (Step.End ∷ xs) = pieces_same xs
pieces_same (Step.Stop p ∷ xs) = pieces_same xs
pieces_same (Step.Literal r ∷ xs) = ap (λ l. Piece.Literal r ∷ l) (pieces_same xs)
pieces_same (Step.Placeholder p ∷ xs) = ap (λ l. Piece.Placeholder (S.argument p.argument) ∷ l) (pieces_same xs)

pub pieces_any : (t : List ℕ) (f g : Frame) (m : Mode) → S.pieces (pieces t f m) ≡ S.pieces (pieces t g m)
unfolding pieces reading
pieces_any t f g m =
    pieces_same (reading t f m) ∙ (ap (gather pieces_of) (steps_any t f g m (length t + 1) start) ∙ sym (pieces_same (reading t g m)))

-- FAULTS, which have no spans
step_faults : (x : Step) → faults_of x ≡ faults_of (step_of x)
unfolding faults_of step_slots
step_faults Step.End = refl
step_faults (Step.Stop p) = refl
step_faults (Step.Literal r) = refl
step_faults (Step.Placeholder p) = refl

-- nor does the number of pieces before them know one
step_count : (x : Step) → length (pieces_of x) ≡ length (pieces_of (step_of x))
step_count Step.End = refl
step_count (Step.Stop p) = refl
step_count (Step.Literal r) = refl
step_count (Step.Placeholder p) = refl

found_same : (n : ℕ) (xs : List Step) → findings n xs ≡ findings n (map step_of xs)
unfolding findings
found_same n [] = refl
found_same n (x ∷ xs) = rw (← step_faults x, ← step_count x, found_same (n + length (pieces_of x)) xs)

pub found_any : (t : List ℕ) (f g : Frame) (m : Mode) → found t f m ≡ found t g m
unfolding found reading
found_any t f g m = blind (map step_of) (findings 0) (found_same 0) (reading t f m) (reading t g m) (steps_any t f g m (length t + 1) start)

-- ERRORS: what a fault's record says beside its spans
errors_any : {B : Type 0} (k : ErrorRecord → B) (t : List ℕ) (f g : Frame) (m : Mode) →
    ((n : ℕ) (x : Fault) → k (record_of t f n x) ≡ k (record_of t g n x)) →
    map k (errors t f m) ≡ map k (errors t g m)
unfolding errors records
errors_any k t f g m s = rw (found_any t f g m) (go (listed (found t g m)))
  where
    go : (xs : List Finding) → map k (records t f xs) ≡ map k (records t g xs)
    go [] = refl
    go (x ∷ xs) = cc (s x.piece x.fault, go xs)

pub kinds_any : (t : List ℕ) (f g : Frame) (m : Mode) → S.kinds (errors t f m) ≡ S.kinds (errors t g m)
kinds_any t f g m = errors_any (λ x. x.kind) t f g m (λ n x. rw (record_parts t f n x, record_parts t g n x))

pub quotes_any : (t : List ℕ) (f g : Frame) (m : Mode) → S.quotes (errors t f m) ≡ S.quotes (errors t g m)
quotes_any t f g m = errors_any (λ x. x.quoted) t f g m (λ n x. rw (record_parts t f n x, record_parts t g n x))

pub numbers_any : (t : List ℕ) (f g : Frame) (m : Mode) → S.before (errors t f m) ≡ S.before (errors t g m)
numbers_any t f g m = errors_any (λ x. x.piece) t f g m (λ n x. rw (record_parts t f n x, record_parts t g n x))
