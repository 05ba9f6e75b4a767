-- Every piece and every error record of a reading fits. Rests on FitLaws for a placeholder's argument, on FoundLaws for the places of a fault, on the law for
-- the editor for the number that a record carries, and on the laws of steps and lists.
use Rattle.std.specs.Prelude.{ℕ, ◌*◌, ◌≤◌, ◌≡◌, List, [], ◌∷◌, ◌++◌}
use Rattle.std.proofs.Math.Path.{refl}
use Rattle.std.proofs.Common.{ap, sym, ◌∙◌, subst, arith}
use Rattle.utf8.specs.ChoiceLaws.{pick_elim}
use Rattle.frame.specs.Spans.{span_between}
use Rattle.frame.specs.Bounds.{Small}
use Rattle.frame.specs.Places.{range_of}
use Rattle.frame.specs.declared.TextPlace.{TextPlace}
use Rattle.frame.specs.declared.TextRange.{TextRange}
use Rattle.frame.specs.declared.Frame.{Frame}
use Rattle.frame.specs.declared.Mode.{Mode}
use Rattle.scan.specs.Characters.{past_at, consumed}
use Rattle.scan.specs.Ends.{span_across}
use Rattle.scan.specs.ScanLaws.{consumed_in, past_in, text_in}
use Rattle.reading.specs.Steps.{after_open, after_close, step_at, onward}
use Rattle.reading.specs.Records.{record_of}
use Rattle.reading.specs.Lists.{gather, pieces_of, pieces, errors}
use Rattle.reading.specs.declared.ErrorRecord.{ErrorRecord}
use Rattle.reading.specs.declared.Fault.{Fault}
use Rattle.reading.specs.declared.State.{State}
use Rattle.reading.specs.declared.Step.{Step}
use Rattle.laws.specs.StepLaws.{step_later, Run, reading_run}
use Rattle.laws.specs.ListLaws.{gather_more, gather_one}
use Rattle.laws.specs.RoomLaws.{few_pieces}
use Rattle.scrolls.specs.AmongLaws.{Among, Every}
use Rattle.scrolls.specs.FoundLaws.{RangeBetween, FaultBetween, found_in}
use Rattle.scrolls.proofs.ScrollLaws.{reading_scrolls}
use Rattle.back.specs.Back.{Below, RangeFits, SpanFits, MaybeSpanFits, MaybeRangeFits, Fits, ErrorFits, All}
use Rattle.back.specs.FitLaws.{In, in_fits, between_fits, across_fits, placeholder_fits}

-- each of two lists
all_append : {A : Type 0} (P : A → Type 0) {xs ys : List A} → All P xs → All P ys → All P (xs ++ ys)
all_append P All.none h = h
all_append P (All.more x g) h = All.more x (all_append P g h)

-- what holds of all that stands in a list holds of each
all_of : {A : Type 0} (P : A → Type 0) (xs : List A) → Every P xs → All P xs
all_of P [] h = All.none
all_of P (x ∷ xs) h = All.more (h x (Among.here refl)) (all_of P xs (λ a m. h a (Among.later m)))

module _ (t : List ℕ) (f : Frame) (small : Small t f) (end : Below f.end.0) where
  across : (a b : TextPlace) → SpanFits (span_across t f a b)
  across = across_fits t f small end

  between : (a b : TextPlace) → SpanFits (span_between t f a b)
  between = between_fits t f small end

  -- the bytes of a character within the text
  character_fits : (p : TextPlace) → In t p → RangeFits (range_of p (past_at t p))
  character_fits p h = in_fits t f small end _ (h, past_in t p h)

  -- bytes that a fault names
  range_fits : (r : TextRange) → RangeBetween t 0 r → RangeFits r
  range_fits r h = in_fits t f small end r (h.0.1, h.1.1)

  -- the record of a fault: a span of its own fits wherever it is
  module _ {n : ℕ} (b : Below n) where
    -- its parts
    parts_fit : (e : ErrorRecord) → e.piece ≡ n → SpanFits e.span → MaybeSpanFits e.second → MaybeRangeFits e.quoted →
        MaybeSpanFits e.suggestion → ErrorFits e
    parts_fit e p a c q d = record { span = a; second = c; quoted = q; suggestion = d; piece = rw p b }

    record_fits : (x : Fault) → FaultBetween t 0 x → ErrorFits (record_of t f n x)
    unfolding record_of
    record_fits Fault.Clean h = parts_fit _ refl (end, end) tt tt tt
    record_fits (Fault.Unmatched p) h = parts_fit _ refl (across p p) tt tt tt
    record_fits (Fault.Expected p why) h = parts_fit _ refl (between p p) (across why why) (character_fits p h.1) tt
    record_fits (Fault.Unclosed why) h = parts_fit _ refl (end, end) (across why why) tt tt
    record_fits (Fault.RawName r) h = parts_fit _ refl (between r.start r.end) tt tt (across r.start (past_at t r.start))
    record_fits (Fault.AfterDebug p) h =
        let sign = past_at t p in
        parts_fit _ refl (across sign sign) tt (character_fits sign (past_in t p h.1)) (across p sign)
    record_fits (Fault.Underscore r) h = parts_fit _ refl (between r.start r.end) tt tt tt
    record_fits (Fault.TooLarge r) h = parts_fit _ refl (across r.start r.end) tt (range_fits r h) tt
    record_fits (Fault.DebugFirst p r) h = parts_fit _ refl (across p p) tt (range_fits r h.1) tt
    record_fits (Fault.NoColon p) h = parts_fit _ refl (across p p) tt tt (across p p)
    record_fits (Fault.Equals p brace) h = parts_fit _ refl (across p p) (across brace brace) tt tt
    record_fits (Fault.Misplaced p) h = parts_fit _ refl (across p p) tt (character_fits p h.1) tt
    record_fits (Fault.PlusFirst p) h = parts_fit _ refl (across p p) tt tt tt
    record_fits (Fault.Field a b) h = parts_fit _ refl (between a b) tt tt tt
    record_fits (Fault.TupleIndex a b) h = parts_fit _ refl (between a b) tt tt tt
    record_fits (Fault.Comma p brace) h = parts_fit _ refl (across p p) (across brace brace) tt tt

  module _ (m : Mode) where
    -- the piece of a step, at a state within the text that has taken at most four arguments for each byte
    step_fits : (s : State) → In t s.at → s.next ≤ 4 * s.at.0 → All Fits (pieces_of (step_at t f m s))
    unfolding step_at after_open after_close
    step_fits s h few =
        let P : Step → Type 0 = λ x. All Fits (pieces_of x) in
        let opened = (consumed t s.at 0x7B).at in
        let closed = (consumed t s.at 0x7D).at in
        let o = consumed_in t s.at 0x7B h in
        let c = consumed_in t s.at 0x7D h in
        let fits = in_fits t f small end in
        pick_elim P _
        (λ _.
        pick_elim P _
        (λ _.
        pick_elim P _ (λ _. All.more (fits _ (o, text_in t _ (consumed_in t opened 0x7B o))) All.none)
        (λ _. All.more (placeholder_fits t f small end m s.at opened h o s.next (omega (arith, small.text))) All.none))
        (λ _.
        pick_elim P _
        (λ _. pick_elim P _ (λ _. All.more (fits _ (c, text_in t _ (consumed_in t closed 0x7D c))) All.none) (λ _. All.none))
        (λ _. All.more (fits _ (h, text_in t s.at h)) All.none)))
        (λ _. All.none)

    -- the pieces of a run
    run_fits : {s : State} {xs : List Step} → In t s.at → s.next ≤ 4 * s.at.0 → Run t f m s xs → All Fits (gather pieces_of xs)
    run_fits {s} h few (Run.last {x = x} e o) = rw (gather_one pieces_of x, e) (step_fits s h few)
    run_fits {s} h few (Run.more {x = x} {xs = xs} e o r) =
        let later = step_later t f m s (ap (onward s) (sym e) ∙ o) in
        let one = subst (λ (x : Step). All Fits (pieces_of x)) (sym e) (step_fits s h few) in
        rw (gather_more pieces_of x xs) (all_append Fits one (run_fits later.inside (omega (arith, later)) r))

    -- THE PIECES of a reading
    pub pieces_fit : All Fits (pieces t f m)
    unfolding pieces
    pieces_fit = run_fits (omega arith) (omega arith) (reading_run t f m)

    -- THE ERROR RECORDS: each is that of a finding whose places are within the text, and whose number is at most that of the pieces
    pub errors_fit : All ErrorFits (errors t f m)
    errors_fit =
        all_of ErrorFits (errors t f m)
        (λ e among.
        let s = (reading_scrolls t f m).errors e among in
        let x = s.finding in
        rw s.same (record_fits (omega (arith, s.scroll.number, few_pieces t f m, small.text)) x.fault (found_in t f m x s.among)))
