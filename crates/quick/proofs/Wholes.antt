-- A placeholder whose parts are told is the placeholder that is read. Rests on Specs, Endings and `closing`'s definition of a placeholder.
use Rattle.std.specs.Prelude.{Option, None, Some, IfSome}
use Prim.Native.Nat.{ℕ, ◌+◌, ◌≤◌}
use mathlib.Core.Path.{◌≡◌, refl, sym, ◌∙◌, ap}
use mathlib.Core.Bool.{Bool, true, false, not, true≢false}
use mathlib.Core.List.{List}
use native.Mathlib.Nat.{add-zero}
use native.Mathlib.Omega.{arith}
use borrow.Author.Tests.{eqb-true, eqb-false, eq-eqb}
use lib.Dec.{eqb}
use lib.ListN.{length, get_or}
use Rattle.utf8.specs.Choice.{pick}
use Rattle.utf8.specs.ChoiceLaws.{pick_elim}
use Rattle.utf8.specs.Chars.{run_end}
use Rattle.letters.specs.Questions.{is_space}
use Rattle.frame.specs.Places.{place}
use Rattle.frame.specs.declared.Frame.{Frame}
use Rattle.frame.specs.declared.TextPlace.{TextPlace}
use Rattle.scan.specs.Characters.{past_at, spaces_past, consumed}
use Rattle.scan.specs.ScanLaws.{run_in}
use Rattle.scan.specs.declared.Flaw.{Flaw}
use Rattle.placeholder.specs.Arguments.{resolved, joined, argument_read}
use Rattle.placeholder.specs.Places.{placed}
use Rattle.placeholder.specs.Specs.{no_spec, after_colon, spec_read}
use Rattle.frame.specs.declared.Mode.{Mode}
use Rattle.placeholder.specs.declared.between.ArgumentRead.{ArgumentRead}
use Rattle.placeholder.specs.declared.format.SpecRead.{SpecRead}
use Rattle.closing.specs.Recovery.{because, gap_at, passed_to, text_taken}
use Rattle.closing.specs.Wholes.{whole_of, missing_read, placeholder_read}
use Rattle.closing.specs.declared.whole.Closing.{Closing}
use Rattle.closing.specs.declared.whole.PlaceholderRead.{PlaceholderRead}
use Rattle.quick.specs.declared.SignHint.{SignHint}
use Rattle.quick.specs.declared.PlaceKind.{PlaceKind}
use Rattle.quick.specs.declared.PlacePart.{PlacePart}
use Rattle.quick.specs.declared.CountKind.{CountKind}
use Rattle.quick.specs.declared.SpecTold.{SpecTold}
use Rattle.quick.specs.declared.PlaceholderTold.{PlaceholderTold}
use Rattle.quick.specs.Tellings.{place_found, found_of, after_star, spec_of, argument_of, next_of, blank_flaw, blanks_of, placed_hint, closing_of, told_read, in_mode, Tells}
use Rattle.quick.specs.PartsTold.{hint_of, onward_of, spec_found, SpecKnown, NoSpec, SpecEither, LeftTold, PlaceTold, PlaceEnds}
use Rattle.scan.specs.AsciiWordLaws.{byte_in}
use Rattle.quick.proofs.Bytes.{has, lacks, run_again}
use Rattle.quick.proofs.Parts.{dotless}
use Rattle.quick.proofs.Endings.{past_byte, recover_told, hint_in, brace_silent}

-- the spec that is told, with its colon
abbrev pub spec_told : List ℕ → Frame → ℕ → PlaceholderTold → SpecRead
spec_told t f n x =
    record {
      spec = pick x.colon (spec_of t f (x.to + 1) n x.spec) (no_spec (place x.to) n).spec;
      at = place x.spec.typed.end;
      next = after_star n x.spec.precision;
      width = blank_flaw x.spec.width.blank x.spec.from x.spec.word;
      precision = Flaw.Clean;
      typetext = blank_flaw x.spec.typed.blank x.spec.precision.end x.spec.typed.end;
      given = x.spec.given;
    }

-- the argument that is told, whose place starts at a byte
abbrev argument_told : List ℕ → Frame → ℕ → ℕ → PlaceholderTold → ArgumentRead
argument_told t f at n x =
    joined (place at) (place x.to)
    (placed (found_of at x.place) (place x.place.end) (blank_flaw x.place.blank at x.place.end) Flaw.Clean)
    (spec_told t f n x)
    (resolved (found_of at x.place) (after_star n x.spec.precision))

-- how a placeholder ends, at a byte: by its closing brace or without one
pub record Ending (t : List ℕ) (close : ℕ) (closed : Bool) (hint : SignHint) (on : ℕ) : Type 0 where
  pub question : get_or t close 0 ≡ 0x3F → ⊥
  pub dot : get_or t close 0 ≡ 0x2E → ⊥
  pub brace : closed ≡ eqb (get_or t close 0) 0x7D
  pub said : hint ≡ hint_of t close
  pub goes : on ≡ onward_of closed hint close

-- what a placeholder that is told rests on
pub record Sound (t : List ℕ) (x : PlaceholderTold) : Type 0 where
  pub spec : (m : Mode) → in_mode m x.colon ≡ true → (f : Frame) (n : ℕ) → spec_read t f m (place x.to) n ≡ spec_told t f n x
  pub colon : x.colon ≡ true → get_or t x.to 0 ≡ 0x3A
  pub wide : x.spec.width.kind ≡ CountKind.Dot → ⊥
  pub counted : x.spec.width.end ≤ length t
  pub inside : x.spec.typed.end ≤ length t
  pub closing : x.close ≡ run_end is_space t x.spec.typed.end
  pub ending : Ending t x.close x.closed x.hint x.on

-- where a place starts says nothing of the next argument's number
same_next : (a b n : ℕ) (p : PlacePart) → (resolved (found_of a p) n).next ≡ (resolved (found_of b p) n).next
unfolding found_of
same_next a b n p = go p.kind
  where
    go : (k : PlaceKind) → (resolved (place_found a p.end k) n).next ≡ (resolved (place_found b p.end k) n).next
    go PlaceKind.Nothing = refl
    go (PlaceKind.Number v) = refl
    go PlaceKind.Word = refl

-- what is read at an argument's end
abbrev read_end : List ℕ → Frame → Mode → TextPlace → ArgumentRead → ℕ → PlaceholderRead
read_end t f m brace a close =
    pick (consumed t (place close) 0x7D).ate
    (whole_of t f m brace a (Closing.Closed (place close)) (consumed t (place close) 0x7D).at a.next a.given)
    (missing_read t f m brace a (place close))

-- and what is told of it, with the place of a fill
abbrev told_end : List ℕ → Frame → Mode → TextPlace → ArgumentRead → TextPlace → ℕ → Bool → SignHint → ℕ → PlaceholderRead
told_end t f m brace a fill close closed hint on =
    whole_of t f m brace a
    (pick closed (Closing.Closed (place close))
    (Closing.Missing
    (gap_at t (place close) (because a.spec.fill fill brace))
    (passed_to (place on) a.next (placed_hint hint (place close)))))
    (place on)
    a.next
    a.given

-- they are the same
end_told : {t : List ℕ} {close : ℕ} {closed : Bool} {hint : SignHint} {on : ℕ} → Ending t close closed hint on →
    (f : Frame) (m : Mode) (brace : TextPlace) (a : ArgumentRead) → read_end t f m brace a close ≡ told_end t f m brace a (past_at t a.to) close closed hint on
unfolding missing_read onward_of pick
end_told {t} {close} {closed} {hint} {on} e f m brace a = go (eqb (get_or t close 0) 0x7D) refl
  where
    go : (x : Bool) → eqb (get_or t close 0) 0x7D ≡ x → read_end t f m brace a close ≡ told_end t f m brace a (past_at t a.to) close closed hint on
    go true y =
        rw (has t close 0x7D (omega arith) (omega arith) (eqb-true (get_or t close 0) 0x7D y), e.goes, e.brace, y)
    go false y =
        rw (
          lacks t close 0x7D (omega arith) (omega arith) (eqb-false (get_or t close 0) 0x7D y),
          recover_told t close f m _ _ _ e.question e.dot,
          e.goes,
          e.brace,
          y,
          e.said,
          add-zero a.given,
        )

module _ {t : List ℕ} {at : ℕ} {x : PlaceholderTold} (e : PlaceEnds t at x.place x.to) (s : Sound t x) where
  -- the argument that is told is the one that is read
  argument_told_lem : (m : Mode) → in_mode m x.colon ≡ true → (f : Frame) (n : ℕ) → argument_read t f m (place at) n ≡ argument_told t f at n x
  unfolding argument_read spaces_past
  argument_told_lem m y f n = rw (e.placed.read, ← e.ends, s.spec m y f n)

  -- the literal text that its type is, which is none
  text_told : (m : Mode) → in_mode m x.colon ≡ true → (f : Frame) (n : ℕ) →
      text_taken m (spec_told t f n x).spec.typetext ≡ text_taken Mode.Format (spec_told t f n x).spec.typetext
  unfolding pick
  text_told Mode.Format y f n = refl
  text_told Mode.InlineAsm y f n = refl
  text_told Mode.Diagnostic y f n = go x.colon refl y
    where
      go : (c : Bool) → x.colon ≡ c → not c ≡ true → (spec_told t f n x).spec.typetext ≡ text_taken Mode.Format (spec_told t f n x).spec.typetext
      go true q z = absurd (true≢false (sym z))
      go false q z = rw q

  -- a fill stands a byte after the colon, and without a colon there is none
  fill_told : (f : Frame) (n : ℕ) (brace : TextPlace) →
      because (spec_told t f n x).spec.fill (past_at t (place x.to)) brace ≡ because (spec_told t f n x).spec.fill (place (x.to + 1)) brace
  unfolding pick
  fill_told f n brace = go x.colon refl
    where
      go : (c : Bool) → x.colon ≡ c →
          because (spec_told t f n x).spec.fill (past_at t (place x.to)) brace ≡ because (spec_told t f n x).spec.fill (place (x.to + 1)) brace
      go true y = let b = s.colon y in rw (past_byte t x.to (byte_in t x.to (omega arith)) (omega arith))
      go false y = rw y

  -- WHAT IS TOLD IS WHAT IS READ
  told_read_lem : (m : Mode) → in_mode m x.colon ≡ true → (f : Frame) (brace n : ℕ) → at ≡ brace + 1 →
      placeholder_read t f m (place brace) (place at) n ≡ told_read t f brace n x
  unfolding placeholder_read spaces_past told_read argument_of next_of blanks_of closing_of
  told_read_lem m y f brace n q =
      rw (
        argument_told_lem m y f n,
        ← s.closing,
        end_told s.ending f m (place brace) (argument_told t f at n x),
        text_told m y f n,
        fill_told f n (place brace),
        same_next 0 at (after_star n x.spec.precision) x.place,
        q,
      )

-- it ends within the text
close_in : {t : List ℕ} {x : PlaceholderTold} → Sound t x → x.close ≤ length t
close_in {t} {x} s = rw s.closing (run_in is_space t x.spec.typed.end s.inside)

-- and reading goes on within it
on_in : {t : List ℕ} {close : ℕ} {closed : Bool} {hint : SignHint} {on : ℕ} → Ending t close closed hint on → close ≤ length t →
    on ≤ length t
unfolding onward_of
on_in {t} {close = close} e h =
    rw (e.goes, e.brace, e.said)
    (pick_elim (λ (i : ℕ). i ≤ length t) (eqb (get_or t close 0) 0x7D)
    (λ y. let b = eqb-true (get_or t close 0) 0x7D y in let l = byte_in t close (omega arith) in omega arith) (λ _. hint_in t close h))

-- a place, and the whitespace after it
pub place_ends : {t : List ℕ} {at to : ℕ} {p : PlacePart} → PlaceTold t at p → to ≡ run_end is_space t p.end → PlaceEnds t at p to
place_ends p e = record { placed = p; ends = e }

-- so it tells
pub tells : {t : List ℕ} {at : ℕ} {x : PlaceholderTold} → PlaceEnds t at x.place x.to → Sound t x → Tells t at x
tells {t} {at} {x} e s =
    record {
      read = told_read_lem e s;
      wide = s.wide;
      counted = s.counted;
      reached = rw e.ends (run_in is_space t x.place.end e.placed.inside);
      closed = close_in s;
      on = on_in s.ending (close_in s);
    }

-- the byte at the end tells how it ends
pub ending : {t : List ℕ} {b close on : ℕ} {hint : SignHint} → b ≡ get_or t close 0 → LeftTold b → hint ≡ hint_of t close →
    on ≡ onward_of (eqb b 0x7D) hint close → Ending t close (eqb b 0x7D) hint on
ending q l h g =
    record {
      question = λ e. l.question (q ∙ e);
      dot = λ e. l.dot (q ∙ e);
      brace = ap (λ (i : ℕ). eqb i 0x7D) q;
      said = h;
      goes = g;
    }

-- and a closing brace ends it
pub closed_ending : {t : List ℕ} {at : ℕ} → get_or t at 0 ≡ 0x7D → Ending t at true SignHint.Silent (at + 1)
unfolding onward_of pick
closed_ending {t} {at} b =
    record {
      question = λ e. omega (arith, e, b);
      dot = λ e. omega (arith, e, b);
      brace = sym (eq-eqb (get_or t at 0) 0x7D b);
      said = brace_silent t at b;
      goes = refl;
    }

module _ {t : List ℕ} {p : PlacePart} {to on : ℕ} {closed : Bool} {hint : SignHint} {s : SpecTold} where
  -- with a colon and a spec
  pub sound_spec : {close : ℕ} → get_or t to 0 ≡ 0x3A → SpecKnown t (to + 1) s → close ≡ run_end is_space t s.typed.end →
      Ending t close closed hint on →
      Sound t (record { place = p; to = to; colon = true; spec = s; close = close; closed = closed; hint = hint; on = on })
  unfolding spec_read pick
  sound_spec b k r e =
      record {
        spec = λ m z f n. rw (has t to 0x3A (omega arith) (omega arith) b) (in_format m z f n);
        colon = λ _. b;
        wide = k.wide;
        counted = k.counted;
        inside = k.inside;
        closing = r;
        ending = e;
      }
    where
      in_format : (m : Mode) → in_mode m true ≡ true → (f : Frame) (n : ℕ) → after_colon t f m (place to) (place (to + 1)) n ≡ spec_found t f (to + 1) n s
      in_format Mode.Format z f n = k.read f n
      in_format Mode.InlineAsm z f n = absurd (true≢false (sym z))
      in_format Mode.Diagnostic z f n = absurd (true≢false (sym z))

  -- with no colon
  pub sound_bare : {at : ℕ} → (get_or t to 0 ≡ 0x3A → ⊥) → NoSpec to s → PlaceEnds t at p to → Ending t to closed hint on →
      Sound t (record { place = p; to = to; colon = false; spec = s; close = to; closed = closed; hint = hint; on = on })
  unfolding spec_read after_star blank_flaw pick
  sound_bare b k r e =
      record {
        spec = λ m z f n. rw (lacks t to 0x3A (omega arith) (omega arith) b, k.wide, k.precise, k.typed, k.ends, k.given);
        colon = λ z. absurd (true≢false (sym z));
        wide = rw k.wide (dotless CountKind.Nothing refl);
        counted = rw (k.wide, r.ends) (run_in is_space t p.end r.placed.inside);
        inside = rw (k.ends, r.ends) (run_in is_space t p.end r.placed.inside);
        closing = rw (k.ends, r.ends) (sym (run_again is_space t p.end));
        ending = e;
      }

-- a spec behind a colon, or none without it
pub either_told : (t : List ℕ) (to : ℕ) {colon : Bool} (r : Option SpecTold) → colon ≡ true → IfSome r (SpecKnown t (to + 1)) → IfSome r (SpecEither t to colon)
either_told t to None y k = k
either_told t to (Some s) y k = record { known = λ _. k; none = λ n. absurd (true≢false (sym y ∙ n)) }

pub either_none : {t : List ℕ} {to : ℕ} {colon : Bool} {s : SpecTold} → colon ≡ false → NoSpec to s → SpecEither t to colon s
either_none n k = record { known = λ y. absurd (true≢false (sym y ∙ n)); none = λ _. k }

-- with one or without, as the byte says that stands where its place ends
module _ {t : List ℕ} {at to b : ℕ} {p : PlacePart} {s : SpecTold} (e : PlaceEnds t at p to) (q : b ≡ get_or t to 0) (k : SpecEither t to (eqb b 0x3A) s) where
  to_in : to ≤ length t
  to_in = rw e.ends (run_in is_space t p.end e.placed.inside)

  -- its spec ends within the text
  pub spec_inside : s.typed.end ≤ length t
  spec_inside = go (eqb b 0x3A) refl
    where
      go : (x : Bool) → eqb b 0x3A ≡ x → s.typed.end ≤ length t
      go true z = (k.known z).inside
      go false z = rw (k.none z).ends to_in

  pub sound_either : {close on : ℕ} {closed : Bool} {hint : SignHint} → close ≡ run_end is_space t s.typed.end → Ending t close closed hint on →
      Sound t (record { place = p; to = to; colon = eqb b 0x3A; spec = s; close = close; closed = closed; hint = hint; on = on })
  sound_either {close} {on} {closed} {hint} r n = go (eqb b 0x3A) refl
    where
      go : (x : Bool) → eqb b 0x3A ≡ x → Sound t (record { place = p; to = to; colon = eqb b 0x3A; spec = s; close = close; closed = closed; hint = hint; on = on })
      go true z = rw z (sound_spec (sym q ∙ eqb-true b 0x3A z) (k.known z) r n)
      go false z =
          let c : close ≡ to = r ∙ rw ((k.none z).ends, e.ends) (run_again is_space t p.end) in
          rw (z, c) (sound_bare (λ d. eqb-false b 0x3A z (q ∙ d)) (k.none z) e (rw c at n))
