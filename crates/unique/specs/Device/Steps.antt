-- A step of the reading, where codes stand, beside the parser's: the same element and record, the end, or something wrong in both.
-- Rests on Arguments.
use Rattle.std.specs.Prelude.{◌≡◌, true, false, ◌&&◌, eqb, length, Some}
use Rattle.std.proofs.Math.Path.{refl, ap, ap₂, sym}
use Rattle.std.proofs.Common.{◌∙◌, true≢false, arith}
use mathlib.Core.List.{List, [], ◌∷◌, ◌++◌, append-nil}
use Rattle.std.proofs.Math.Bool.{and-false}
use Prim.Native.Nat.{ℕ, ◌+◌}
use borrow.Author.Tests.{eqb-true, lt-ltb, le-ltb}
use Rattle.utf8.specs.Choice.{pick}
use Rattle.utf8.specs.ChoiceLaws.{pick_elim}
use Rattle.utf8.specs.CharLaws.{seen_in}
use Rattle.frame.specs.Places.{place, range_of}
use Rattle.frame.specs.Spans.{span_between}
use Rattle.frame.specs.declared.TextPlace.{TextPlace}
use Rattle.frame.specs.declared.Frame.{Frame}
use Rattle.frame.specs.declared.Mode.{Mode}
use Rattle.scan.specs.Characters.{is_plain, spaces_past, text_end}
use Rattle.placeholder.specs.Places.{place_read}
use Rattle.placeholder.specs.Arguments.{argument_read}
use Rattle.placeholder.specs.declared.Argument.{Argument}
use Rattle.placeholder.specs.declared.between.ArgumentRead.{ArgumentRead}
use Rattle.closing.specs.Wholes.{record_of, missing_read, placeholder_read}
use Rattle.closing.specs.declared.recover.Gap.{Gap}
use Rattle.closing.specs.declared.recover.Recovery.{Recovery}
use Rattle.closing.specs.declared.whole.PlaceholderRead.{PlaceholderRead}
use Rattle.reading.specs.Wants.{larger, argument_wants}
use Rattle.reading.specs.Steps.{state_of, after_open, after_close, step_at, onward}
use Rattle.reading.specs.Faults.{is_clean, argument_slots, missing_slots, closing_slots, step_slots, wrong as wrongOnes, faults_of}
use Rattle.reading.specs.Lists.{pieces_of}
use Rattle.reading.specs.declared.Fault.{Fault}
use Rattle.reading.specs.declared.State.{State}
use Rattle.reading.specs.declared.Step.{Step as ReadStep}
use Rattle.reading.specs.declared.Piece.{Piece}
use Rattle.grammar.specs.Grammar.{Inside, Element, run, opened, closed, placeholder, written, written_inside}
use Rattle.grammar.specs.Pieces.{bytes, end_of, tail_at, spanned, argument_at, piece_at, past}
use Rattle.unique.specs.Device.Runs.{case_b, take_w, drop_w, first, never, take_drop, and_left, and_right}
use Rattle.unique.specs.Device.Parser.{Got, raw_at, inside_of, Step, piece, done, wrong, close_of, inside_step, open_step, close_step, step}
use Rattle.unique.specs.Device.Made.{inside_made}
use Rattle.unique.specs.Device.Splits.{split}
use Rattle.unique.specs.Device.Stands.{Stands, part_place, text_left, consume_yes, consume_no, past_ascii}
use Rattle.unique.specs.Device.Words.{flawless}
use Rattle.unique.specs.Device.Places.{position_raw}
use Rattle.unique.specs.Device.Spans.{between}
use Rattle.unique.specs.Device.Arguments.{all_clean, inside_same}

-- WHAT IS WRONG
pub clean_none : (xs : List Fault) → all_clean xs ≡ true → wrongOnes xs ≡ []
unfolding all_clean wrongOnes pick
clean_none [] h = refl
clean_none (x ∷ xs) h = rw (and_left (is_clean x) (all_clean xs) h) (clean_none xs (and_right (is_clean x) (all_clean xs) h))

pub none_clean : (xs : List Fault) → wrongOnes xs ≡ [] → all_clean xs ≡ true
unfolding all_clean wrongOnes pick
none_clean [] h = refl
none_clean (x ∷ xs) h =
    case_b (is_clean x)
    (λ k. rw k (none_clean xs (rw k at h)))
    (λ k. absurd (never (rw k at h)))

all_append : (xs ys : List Fault) → all_clean (xs ++ ys) ≡ (all_clean xs && all_clean ys)
unfolding all_clean
all_append [] ys = refl
all_append (x ∷ xs) ys = case_b (is_clean x) (λ k. cc (all_append xs ys)) (λ k. cc)

-- a list that is not all clean has something wrong
unclean : (xs : List Fault) → all_clean xs ≡ false → wrongOnes xs ≡ [] → ⊥
unclean xs h k = true≢false (sym (none_clean xs k) ∙ h)

unclean_at : (xs : List Fault) (x : Fault) (ys : List Fault) → is_clean x ≡ false → wrongOnes (xs ++ (x ∷ ys)) ≡ [] → ⊥
unfolding all_clean
unclean_at xs x ys h = unclean (xs ++ (x ∷ ys)) (all_append xs (x ∷ ys) ∙ rw h (and-false (all_clean xs)))

-- so has one where a brace is missing
missing_unclean : (xs : List Fault) (brace : TextPlace) (gap : Gap) (on : Recovery) → wrongOnes (xs ++ missing_slots brace gap on) ≡ [] → ⊥
unfolding missing_slots
missing_unclean xs brace (Gap.Before p why) on = unclean_at xs _ _ refl
missing_unclean xs brace (Gap.AtEnd why) on = unclean_at xs _ _ refl

-- an argument that is clean and closed has nothing wrong
closed_clean : (xs : List Fault) → all_clean xs ≡ true → wrongOnes (xs ++ []) ≡ []
closed_clean xs h = rw (append-nil xs) (clean_none xs h)

module _ (t : List ℕ) (f : Frame) (m : Mode) where
  -- what a step comes to that takes an element and leaves codes: its record, where reading goes on, and nothing wrong
  pub record Took (s : State) (e : Element) (u : List ℕ) (x : ReadStep) : Type 0 where
    pub to : State
    pub goes : onward s x ≡ Some to
    pub stands : Stands t to.at.0 u
    pub number : to.next ≡ past s.next e
    pub pieces : pieces_of x ≡ piece_at f.quote s.at.0 s.next e ∷ []
    pub clean : faults_of x ≡ []

  -- the same step
  abbrev pub Same : State → Step → ReadStep → Type 0
  Same s (piece e u) x = Took s e u x
  Same s done x = x ≡ ReadStep.End
  Same s wrong x = faults_of x ≡ [] → ⊥

  -- LITERALS
  -- an element ends where the rest stands
  element_end : (i j : ℕ) (e : Element) (cs u : List ℕ) → written e u ≡ cs → Stands t i cs → Stands t j u → j ≡ end_of i e
  element_end i j e cs u q h k = part_place t i j (split e) cs u q h k

  run_took : (s : State) (c : ℕ) (cs : List ℕ) → Stands t s.at.0 (c ∷ cs) → is_plain c ≡ true →
      Took s (run c (take_w is_plain cs)) (drop_w is_plain cs) (ReadStep.Literal (range_of s.at (text_end t s.at)))
  unfolding faults_of step_slots wrongOnes take_w drop_w
  run_took s c cs h k =
      let e : Element = run c (take_w is_plain cs) in
      let d : drop_w is_plain (c ∷ cs) ≡ drop_w is_plain cs = cc in
      let u : Stands t (text_end t s.at).0 (drop_w is_plain cs) = rw d at (text_left t s.at (c ∷ cs) h) in
      let q : written e (drop_w is_plain cs) ≡ c ∷ cs = cc (take_drop is_plain cs) in
      let p = element_end s.at.0 (text_end t s.at).0 e (c ∷ cs) (drop_w is_plain cs) q h u in
      record {
        to = state_of (text_end t s.at) s.next s.arguments;
        goes = refl;
        stands = u;
        number = refl;
        pieces = ap (λ j. Piece.Literal (bytes s.at.0 j) ∷ []) p;
        clean = refl;
      }

  -- a doubled brace: its view starts at the second
  abbrev viewed : State → ReadStep
  viewed s = ReadStep.Literal (range_of (place (s.at.0 + 1)) (text_end t (place (s.at.0 + 1 + 1))))

  doubled_took : (s : State) (e : Element) (cs ds : List ℕ) → Stands t s.at.0 cs → Stands t (s.at.0 + 1 + 1) ds →
      written e (drop_w is_plain ds) ≡ cs → past s.next e ≡ s.next →
      Piece.Literal (bytes (s.at.0 + 1) (end_of s.at.0 e)) ≡ piece_at f.quote s.at.0 s.next e →
      Took s e (drop_w is_plain ds) (viewed s)
  unfolding faults_of step_slots wrongOnes
  doubled_took s e cs ds h k q n is =
      let to : TextPlace = text_end t (place (s.at.0 + 1 + 1)) in
      let u = text_left t (place (s.at.0 + 1 + 1)) ds k in
      let p = element_end s.at.0 to.0 e cs (drop_w is_plain ds) q h u in
      record {
        to = state_of to s.next s.arguments;
        goes = refl;
        stands = u;
        number = sym n;
        pieces = ap (λ (x : Piece). x ∷ []) (ap (λ j. Piece.Literal (bytes (s.at.0 + 1) j)) p ∙ is);
        clean = refl;
      }

  opened_took : (s : State) (cs ds : List ℕ) → Stands t s.at.0 cs → Stands t (s.at.0 + 1 + 1) ds → 0x7B ∷ 0x7B ∷ ds ≡ cs →
      Took s (opened (take_w is_plain ds)) (drop_w is_plain ds) (viewed s)
  opened_took s cs ds h k q = doubled_took s (opened (take_w is_plain ds)) cs ds h k (cc (take_drop is_plain ds)) refl refl

  closed_took : (s : State) (cs ds : List ℕ) → Stands t s.at.0 cs → Stands t (s.at.0 + 1 + 1) ds → 0x7D ∷ 0x7D ∷ ds ≡ cs →
      Took s (closed (take_w is_plain ds)) (drop_w is_plain ds) (viewed s)
  closed_took s cs ds h k q = doubled_took s (closed (take_w is_plain ds)) cs ds h k (cc (take_drop is_plain ds)) refl refl

  -- PLACEHOLDERS
  -- closed or not, an argument's flaws are its placeholder's
  flaws_same : (brace at : TextPlace) (n : ℕ) → (placeholder_read t f m brace at n).flaws ≡ (argument_read t f m at n).flaws
  unfolding placeholder_read missing_read
  flaws_same brace at n = pick_elim (λ (p : PlaceholderRead). p.flaws ≡ (argument_read t f m at n).flaws) _ (λ _. refl) (λ _. refl)

  argument_wrong : (brace at : TextPlace) (n : ℕ) → all_clean (argument_slots (argument_read t f m at n).flaws) ≡ false →
      faults_of (ReadStep.Placeholder (placeholder_read t f m brace at n)) ≡ [] → ⊥
  unfolding faults_of step_slots
  argument_wrong brace at n k =
      let p : PlaceholderRead = placeholder_read t f m brace at n in
      let xs : List Fault = argument_slots p.flaws in
      let ys : List Fault = closing_slots p.argument.range.start p.closing in
      unclean (xs ++ ys) (all_append xs ys ∙ rw (flaws_same brace at n, k))

  -- a placeholder that is not closed
  missing_wrong : (brace : TextPlace) (a : ArgumentRead) (end : TextPlace) → faults_of (ReadStep.Placeholder (missing_read t f m brace a end)) ≡ [] → ⊥
  unfolding faults_of step_slots missing_read closing_slots
  missing_wrong brace a end = missing_unclean (argument_slots a.flaws) brace _ _

  -- a placeholder that is closed and right
  placeholder_took : (s : State) (cs ds : List ℕ) → Stands t s.at.0 (0x7B ∷ cs) → Stands t (s.at.0 + 1) cs → raw_at cs ≡ false →
      (inside_of m cs).ok ≡ true → (inside_of m cs).rest ≡ 0x7D ∷ ds →
      Took s (placeholder (inside_of m cs).val) ds (ReadStep.Placeholder (placeholder_read t f m s.at (place (s.at.0 + 1)) s.next))
  unfolding faults_of step_slots closing_slots placeholder_read argument_at pick
  placeholder_took s cs ds h k raw ok q =
      let at : TextPlace = place (s.at.0 + 1) in
      let n : ℕ = s.next in
      let a : ArgumentRead = argument_read t f m at n in
      let end : TextPlace = spaces_past t a.at in
      let g : Got Inside = inside_of m cs in
      let x = inside_same t f m at n cs k raw in
      let u : Stands t end.0 (0x7D ∷ ds) = rw q at x.stands in
      let v : Stands t (end.0 + 1) ds = past_ascii t end.0 0x7D 0x7D ds (omega arith) u refl in
      let w : written_inside g.val (0x7D ∷ ds) ≡ cs = rw q at (inside_made m cs).spelled in
      let p = element_end s.at.0 (end.0 + 1) (placeholder g.val) (0x7B ∷ cs) ds (ap (λ l. 0x7B ∷ l) w) h v in
      let l = seen_in t end.0 u.0 in
      let span = between t f a.from a.to (omega (arith, x.to, ap (λ b. b.0) x.from)) (omega (arith, x.on)) in
      let here : span_between t f a.from a.to ≡ spanned f.quote (s.at.0 + 1) (tail_at s.at.0 g.val) =
      span ∙ ap₂ (λ (b : TextPlace) j. spanned f.quote b.0 j) x.from x.to in
      let range : range_of s.at (place (end.0 + 1)) ≡ bytes s.at.0 (end_of s.at.0 (placeholder g.val)) = ap (λ j. bytes s.at.0 j) p in
      let y : record_of t f s.at a (place (end.0 + 1)) ≡ argument_at f.quote s.at.0 n g.val =
      λ i. record { place = x.place ok i; placespan = here i; spec = x.spec ok l i; range = range i } in
      rw (consume_yes t end 0x7D (0x7D ∷ ds) u refl)
      (record {
        to = state_of (place (end.0 + 1)) a.next (larger s.arguments (argument_wants (record_of t f s.at a (place (end.0 + 1)))));
        goes = refl;
        stands = v;
        number = x.next ok;
        pieces = ap (λ (b : Argument). Piece.Placeholder b ∷ []) y;
        clean = closed_clean (argument_slots a.flaws) (x.clean ∙ ok);
      })

  -- one that is not closed
  not_closed : (brace at : TextPlace) (n : ℕ) (us : List ℕ) → Stands t (spaces_past t (argument_read t f m at n).at).0 us → first 0x7D us ≡ false →
      faults_of (ReadStep.Placeholder (placeholder_read t f m brace at n)) ≡ [] → ⊥
  unfolding placeholder_read pick
  not_closed brace at n us h k =
      let a : ArgumentRead = argument_read t f m at n in
      let end : TextPlace = spaces_past t a.at in
      rw (consume_no t end 0x7D us h k) (missing_wrong brace a end)

  -- an `r#` name
  raw_wrong : (brace at : TextPlace) (n : ℕ) (cs : List ℕ) → Stands t at.0 cs → raw_at cs ≡ true →
      faults_of (ReadStep.Placeholder (placeholder_read t f m brace at n)) ≡ [] → ⊥
  unfolding argument_slots argument_read all_clean
  raw_wrong brace at n cs h k =
      argument_wrong brace at n (rw (position_raw t at cs h k) (and-false (flawless (place_read t at).flaw)))

  close_same : (s : State) (cs us : List ℕ) → Stands t s.at.0 (0x7B ∷ cs) → Stands t (s.at.0 + 1) cs → raw_at cs ≡ false →
      (inside_of m cs).rest ≡ us →
      Same s (close_of (inside_of m cs).val us (inside_of m cs).ok) (ReadStep.Placeholder (placeholder_read t f m s.at (place (s.at.0 + 1)) s.next))
  unfolding close_of
  close_same s cs [] h k raw q =
      let at : TextPlace = place (s.at.0 + 1) in
      not_closed s.at at s.next [] (rw q at (inside_same t f m at s.next cs k raw).stands) refl
  close_same s cs (d ∷ ds) h k raw q =
      let at : TextPlace = place (s.at.0 + 1) in
      let g : Got Inside = inside_of m cs in
      let x = inside_same t f m at s.next cs k raw in
      case_b (eqb d 0x7D && g.ok)
      (λ l.
      let p = eqb-true d 0x7D (and_left (eqb d 0x7D) g.ok l) in
      rw (l, close_of) (placeholder_took s cs ds h k raw (and_right (eqb d 0x7D) g.ok l) (q ∙ ap (λ c. c ∷ ds) p)))
      (λ l.
      rw (l, close_of)
      (case_b (eqb d 0x7D)
      (λ c. argument_wrong s.at at s.next (x.clean ∙ cc))
      (λ c. not_closed s.at at s.next (d ∷ ds) (rw q at x.stands) c)))

  inside_step_lem : (s : State) (cs : List ℕ) → Stands t s.at.0 (0x7B ∷ cs) → Stands t (s.at.0 + 1) cs →
      Same s (inside_step m cs) (ReadStep.Placeholder (placeholder_read t f m s.at (place (s.at.0 + 1)) s.next))
  unfolding inside_step
  inside_step_lem s cs h k =
      case_b (raw_at cs)
      (λ l. rw (l, inside_step) (raw_wrong s.at (place (s.at.0 + 1)) s.next cs k l))
      (λ l. rw (l, inside_step) (close_same s cs (inside_of m cs).rest h k l refl))

  open_step_lem : (s : State) (cs : List ℕ) → Stands t s.at.0 (0x7B ∷ cs) → Stands t (s.at.0 + 1) cs →
      Same s (open_step m cs) (after_open t f m s.at (place (s.at.0 + 1)) s.next)
  unfolding open_step after_open pick
  open_step_lem s [] h k = rw (consume_no t (place (s.at.0 + 1)) 0x7B [] k refl) (inside_step_lem s [] h k)
  open_step_lem s (d ∷ ds) h k =
      let at : TextPlace = place (s.at.0 + 1) in
      case_b (eqb d 0x7B)
      (λ l.
      rw (consume_yes t at 0x7B (d ∷ ds) k l, l, open_step)
      (opened_took s (0x7B ∷ d ∷ ds) ds h (past_ascii t at.0 0x7B d ds (omega arith) k l) (cc (eqb-true d 0x7B l))))
      (λ l. rw (consume_no t at 0x7B (d ∷ ds) k l, l, open_step) (inside_step_lem s (d ∷ ds) h k))

  -- a lone `}` is wrong
  lone_wrong : (p : TextPlace) → faults_of (ReadStep.Stop p) ≡ [] → ⊥
  unfolding faults_of step_slots wrongOnes pick
  lone_wrong p e = never e

  close_step_lem : (s : State) (cs : List ℕ) → Stands t s.at.0 (0x7D ∷ cs) → Stands t (s.at.0 + 1) cs →
      Same s (close_step cs) (after_close t s.at (place (s.at.0 + 1)))
  unfolding close_step after_close pick
  close_step_lem s [] h k = rw (consume_no t (place (s.at.0 + 1)) 0x7D [] k refl) (lone_wrong s.at)
  close_step_lem s (d ∷ ds) h k =
      let at : TextPlace = place (s.at.0 + 1) in
      case_b (eqb d 0x7D)
      (λ l.
      rw (consume_yes t at 0x7D (d ∷ ds) k l, l, close_step)
      (closed_took s (0x7D ∷ d ∷ ds) ds h (past_ascii t at.0 0x7D d ds (omega arith) k l) (cc (eqb-true d 0x7D l))))
      (λ l. rw (consume_no t at 0x7D (d ∷ ds) k l, l, close_step) (lone_wrong s.at))

  plain_test : (c : ℕ) → eqb c 0x7B ≡ false → eqb c 0x7D ≡ false → is_plain c ≡ true
  unfolding is_plain pick
  plain_test c h k = cc

  -- THE SAME STEP
  pub step_same : (s : State) (cs : List ℕ) → Stands t s.at.0 cs → Same s (step m cs) (step_at t f m s)
  unfolding step step_at pick
  step_same s [] h = rw (le-ltb s.at.0 (length t) (omega arith))
  step_same s (c ∷ cs) h =
      let i = lt-ltb s.at.0 (length t) (seen_in t s.at.0 h.0) in
      case_b (eqb c 0x7B)
      (λ k.
      let q = eqb-true c 0x7B k in
      rw (i, consume_yes t s.at 0x7B (c ∷ cs) h k, k, step) (open_step_lem s cs (rw q at h) (past_ascii t s.at.0 0x7B c cs (omega arith) h k)))
      (λ k.
      case_b (eqb c 0x7D)
      (λ l.
      let q = eqb-true c 0x7D l in
      rw (i, consume_no t s.at 0x7B (c ∷ cs) h k, consume_yes t s.at 0x7D (c ∷ cs) h l, k, l, step)
      (close_step_lem s cs (rw q at h) (past_ascii t s.at.0 0x7D c cs (omega arith) h l)))
      (λ l.
      rw (i, consume_no t s.at 0x7B (c ∷ cs) h k, consume_no t s.at 0x7D (c ∷ cs) h l, k, l, step)
      (run_took s c cs h (plain_test c k l))))
