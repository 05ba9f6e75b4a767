-- What is given back is paid: a part that gives characters back has passed as many, or leaves so many continuations where it ends; from a count up to a
-- whole placeholder. And only a Format spec gives any back. Rests on LeftLaws and closing's OnwardLaws.
use Rattle.std.specs.Prelude.{ℕ, ◌+◌, ◌≤◌, ◌<◌, ◌≡◌, refl, Bool, true, false, List, ◌⊎◌, ltb, length, Option, Some, None}
use Rattle.std.proofs.Common.{sym, ◌∙◌}
use Rattle.std.proofs.Math.Logic.{inl, inr}
use Rattle.std.proofs.Math.Nat.{add-zero}
use native.Mathlib.Omega.{arith}
use Rattle.utf8.specs.Choice.{pick}
use Rattle.utf8.specs.ChoiceLaws.{pick_elim, both_false}
use Rattle.utf8.specs.Utf8.{peek_at, char}
use Rattle.letters.specs.Questions.{is_continue}
use Rattle.frame.specs.declared.TextPlace.{TextPlace}
use Rattle.frame.specs.declared.Frame.{Frame}
use Rattle.frame.specs.declared.Mode.{Mode}
use Rattle.scan.specs.Characters.{past_at, consumed, spaces_past}
use Rattle.scan.specs.Words.{word_read, number_read}
use Rattle.scan.specs.Counts.{number_count, name_count, count_after, count_read}
use Rattle.scan.specs.ScanLaws.{is_at_seen, consumed_some, consumed_is, consumed_none}
use Rattle.scan.specs.ReachLaws.{Reached, reached_none, reached_then, reached_consumed, reached_spaces, reached_text, reached_word, reached_left}
use Rattle.scan.specs.declared.CountRead.{CountRead}
use Rattle.placeholder.specs.Parts.{is_align, fill_read, align_read, sign_read, plain_width, width_read, after_dot, precision_read}
use Rattle.placeholder.specs.Types.{hex_type, debug_type, word_type, type_read}
use Rattle.placeholder.specs.Format.{format_read}
use Rattle.placeholder.specs.Specs.{diagnostic_type, after_colon, spec_read}
use Rattle.placeholder.specs.Arguments.{argument_read}
use Rattle.placeholder.specs.declared.Hex.{Hex}
use Rattle.placeholder.specs.declared.format.PrecisionRead.{PrecisionRead}
use Rattle.placeholder.specs.declared.format.SpecRead.{SpecRead}
use Rattle.placeholder.specs.declared.format.TypeRead.{TypeRead}
use Rattle.placeholder.specs.declared.format.WidthRead.{WidthRead}
use Rattle.closing.specs.OnwardLaws.{place_read_lem, fill as over-fill, align as over-align, sign as over-sign, width as over-width, precision as over-precision, recover_onward}
use Rattle.closing.specs.Recovery.{passed_to, field_read, recover_read}
use Rattle.closing.specs.Recovering.{after_question, recovering, recover_table}
use Rattle.closing.specs.Wholes.{missing_read, placeholder_read}
use Rattle.closing.specs.declared.recover.Hint.{Hint}
use Rattle.closing.specs.declared.recover.Recovery.{Recovery}
use Rattle.closing.specs.declared.whole.PlaceholderRead.{PlaceholderRead}
use Rattle.strides.specs.LeftLaws.{left, conts, word_length, char_left, conts_none, conts_end, mark_conts, word_short, mark_word, no_spaces, no_mark}
use Rattle.scan.specs.declared.Numeral.{Numeral}
use Rattle.utf8.specs.declared.Char.{Char}

-- WHAT A MODE MAY GIVE BACK: in Format any number, in the others none
abbrev pub Gives : Mode → ℕ → Type 0
Gives Mode.Format g = Unit {0}
Gives Mode.InlineAsm g = g ≡ 0
Gives Mode.Diagnostic g = g ≡ 0

pub gives_none : (m : Mode) → Gives m 0
gives_none Mode.Format = tt
gives_none Mode.InlineAsm = refl
gives_none Mode.Diagnostic = refl

pub gives_both : (m : Mode) (a b : ℕ) → Gives m a → Gives m b → Gives m (a + b)
gives_both Mode.Format a b h k = tt
gives_both Mode.InlineAsm a b h k = omega arith
gives_both Mode.Diagnostic a b h k = omega arith

-- WHAT IS GIVEN BACK FROM ONE PLACE TO ANOTHER IS PAID: by the characters passed between the two, and by the continuations at the second
pub record Paid (t : List ℕ) (m : Mode) (i j g : ℕ) : Type 0 where
  pub few : g + left t j ≤ left t i + conts t j
  pub mode : Gives m g

module _ {t : List ℕ} {m : Mode} where
  -- nothing is
  pub paid_none : {i j : ℕ} → Reached t i j → Paid t m i j 0
  paid_none r = record { few = omega (arith, reached_left r); mode = gives_none m }

  -- what was passed before pays no less
  pub paid_after : {i j k g : ℕ} → Reached t i j → Paid t m j k g → Paid t m i k g
  paid_after r p = record { few = omega (arith, reached_left r, p.few); mode = p.mode }

  -- and two parts are paid where no continuation stands between them
  pub paid_then : {i j k g h : ℕ} → Paid t m i j g → conts t j ≡ 0 → Paid t m j k h → Paid t m i k (g + h)
  paid_then {g = g} {h = h} p z q = record { few = omega (arith, p.few, q.few); mode = gives_both m g h p.mode q.mode }

module _ (t : List ℕ) (f : Frame) where
  -- A COUNT gives back at most the word where it ends
  count_word : (at : TextPlace) → (count_read t f at).given ≤ word_length t (count_read t f at).at
  unfolding count_read number_count name_count word_read
  count_word at = go (number_read t at).number
    where
      P : CountRead → Type 0
      P r = r.given ≤ word_length t r.at

      go : (n : Option Numeral) → P (count_after t f at (number_read t at) n)
      go (Some n) = pick_elim P _ (λ _. omega arith) (λ _. omega arith)
      go None = pick_elim P _ (λ _. omega arith) (λ _. pick_elim P _ (λ _. omega arith) (λ _. omega arith))

  -- and so does a width
  width_word : (at : TextPlace) → (width_read t f at).given ≤ word_length t (width_read t f at).at
  unfolding width_read plain_width
  width_word at =
      let P : WidthRead → Type 0 = λ r. r.given ≤ word_length t r.at in
      pick_elim P _ (λ _. pick_elim P _ (λ _. omega arith) (λ _. count_word _)) (λ _. count_word at)

  after_dot_word : (dot at : TextPlace) (n : ℕ) → (after_dot t f dot at n).given ≤ word_length t (after_dot t f dot at n).at
  unfolding after_dot
  after_dot_word dot at n = pick_elim (λ (r : PrecisionRead). r.given ≤ word_length t r.at) _ (λ _. omega arith) (λ _. count_word at)

  -- and a precision with the width before it: where a dot stands no word does
  precision_word : (at : TextPlace) (n g : ℕ) → g ≤ word_length t at →
      g + (precision_read t f at n).given ≤ word_length t (precision_read t f at n).at
  unfolding precision_read consumed
  precision_word at n g h =
      pick_elim (λ (r : PrecisionRead). g + r.given ≤ word_length t r.at) _
      (λ y. omega (arith, mark_word t at 0x2E (omega arith) tt y, after_dot_word at (consumed t at 0x2E).at n))
      (λ _. omega arith)

  module _ (at : TextPlace) where
    -- A TYPE PAYS FOR THE WORD at its place: it passes the word, or one character of it, and leaves the continuations behind that
    Pays : TypeRead → Type 0
    Pays r = word_length t at + left t r.at.0 ≤ left t at.0 + conts t r.at.0

    one_pays : (x : ℕ) → x < 0x80 → (consumed t at x).ate ≡ true →
        word_length t at + left t (consumed t at x).at.0 ≤ left t at.0 + conts t (consumed t at x).at.0
    one_pays x l y = let e = is_at_seen t at x l (sym (consumed_is t at x) ∙ y) in rw (consumed_some t at x y) (omega (arith, word_short t at e, char_left t at.0 e))

    hex_pays : (h : Hex) (x : ℕ) → x < 0x80 → (consumed t at x).ate ≡ true → Pays (hex_type t h at (consumed t at x).at)
    unfolding Pays hex_type
    hex_pays h x l y =
        let past = (consumed t at x).at in
        let p = one_pays x l y in
        pick_elim Pays _
        (λ q.
        omega (
          arith,
          p,
          mark_conts t past 0x3F (omega arith) tt (sym (consumed_is t past 0x3F) ∙ q),
          reached_left (reached_consumed t past 0x3F (omega arith)),
        ))
        (λ _. p)

    type_pays : Pays (type_read t f at)
    unfolding Pays type_read debug_type word_type word_read
    type_pays =
        pick_elim Pays _ (λ y. hex_pays Hex.Lower 0x78 (omega arith) y)
        (λ _.
        pick_elim Pays _ (λ y. hex_pays Hex.Upper 0x58 (omega arith) y)
        (λ _. pick_elim Pays _ (λ y. one_pays 0x3F (omega arith) y) (λ _. omega (arith, reached_left (reached_word t at)))))

  -- so A FORMAT SPEC is paid
  format_paid : (at : TextPlace) (n : ℕ) → Paid t Mode.Format at.0 (format_read t f at n).at.0 (format_read t f at n).given
  unfolding format_read Pays
  format_paid at n =
      let fi = fill_read t f at in
      let al = align_read t fi.at in
      let si = sign_read t al.at in
      let ha = consumed t si.at 0x23 in
      let wi = width_read t f ha.at in
      let pr = precision_read t f wi.at n in
      let signs = reached_then (over-fill t f at).reached (reached_then (over-align t fi.at).reached (over-sign t al.at).reached) in
      let counts =
      reached_then (reached_consumed t si.at 0x23 (omega arith))
      (reached_then (over-width t f ha.at).reached (over-precision t f wi.at n).reached)
      in
      record {
        few =
            omega (
              arith,
              precision_word wi.at n wi.given (width_word ha.at),
              type_pays pr.at,
              reached_left signs,
              reached_left counts,
            );
        mode = tt;
      }

  -- and the spec of any mode
  after_colon_paid : (m : Mode) (colon at : TextPlace) (n : ℕ) →
      Paid t m at.0 (after_colon t f m colon at n).at.0 (after_colon t f m colon at n).given
  unfolding word_type word_read diagnostic_type
  after_colon_paid Mode.Format colon at n = format_paid at n
  after_colon_paid Mode.InlineAsm colon at n = paid_none (reached_word t at)
  after_colon_paid Mode.Diagnostic colon at n = paid_none (reached_text t at)

  module _ (m : Mode) where
    spec_paid : (at : TextPlace) (n : ℕ) → Paid t m at.0 (spec_read t f m at n).at.0 (spec_read t f m at n).given
    unfolding spec_read
    spec_paid at n =
        pick_elim (λ (r : SpecRead). Paid t m at.0 r.at.0 r.given) _
        (λ _. paid_after (reached_consumed t at 0x3A (omega arith)) (after_colon_paid m at _ n)) (λ _. paid_none (reached_none at.0))

    -- ALL BETWEEN THE BRACES
    argument_paid : (at : TextPlace) (n : ℕ) → Paid t m at.0 (argument_read t f m at n).at.0 (argument_read t f m at n).given
    unfolding argument_read
    argument_paid at n = paid_after (reached_then (place_read_lem t at).reached (reached_spaces t _)) (spec_paid _ n)

    -- a closing brace behind it is no continuation
    close_paid : {i g : ℕ} (at : TextPlace) → Paid t m i at.0 g → Paid t m i (consumed t at 0x7D).at.0 g
    close_paid {i} {g} at p = go (consumed t at 0x7D).ate refl
      where
        go : (b : Bool) → (consumed t at 0x7D).ate ≡ b → Paid t m i (consumed t at 0x7D).at.0 g
        go true y =
            let z = mark_conts t at 0x7D (omega arith) tt (sym (consumed_is t at 0x7D) ∙ y) in
            record { few = omega (arith, p.few, z, reached_left (reached_consumed t at 0x7D (omega arith))); mode = p.mode }
        go false n = rw (consumed_none t at 0x7D n) p

    -- A FIELD met in recovery is an argument too
    field_paid : (from at : TextPlace) (n : ℕ) → Paid t m at.0 (field_read t f m from at n).at.0 (field_read t f m from at n).given
    unfolding field_read
    field_paid from at n =
        pick_elim (λ (r : Recovery). Paid t m at.0 r.at.0 r.given) _
        (λ _. paid_after (reached_consumed t at 0x2E (omega arith)) (close_paid _ (argument_paid _ n))) (λ _. paid_none (reached_none at.0))

    -- nothing is given back after a `?`
    question_none : (at past : TextPlace) (n : ℕ) → (after_question t at past n).given ≡ 0
    unfolding after_question
    question_none at past n =
        let P : Recovery → Type 0 = λ r. r.given ≡ 0 in
        pick_elim P _ (λ _. refl) (λ _. pick_elim P _ (λ _. refl) (λ _. refl))

    module _ (from : TextPlace) (i : Bool) (at : TextPlace) (n : ℕ) where
      -- RECOVERY gives back nothing, or what a field does
      recover_either : let r = recover_read t f m from i at n in (r.given ≡ 0) ⊎ Paid t m at.0 r.at.0 r.given
      unfolding recovering
      recover_either =
          let P : Recovery → Type 0 = λ r. (r.given ≡ 0) ⊎ Paid t m at.0 r.at.0 r.given in
          rw (recover_table t f m from i at n)
          (pick_elim P _
          (λ _.
          pick_elim P _ (λ _. inl (question_none at _ n))
          (λ _. pick_elim P _ (λ _. pick_elim P _ (λ _. inr (field_paid from at n)) (λ _. inl refl)) (λ _. inl refl)))
          (λ _. inl refl))

      recover_paid : let r = recover_read t f m from i at n in Paid t m at.0 r.at.0 r.given
      recover_paid = go recover_either
        where
          go : let r = recover_read t f m from i at n in (r.given ≡ 0) ⊎ Paid t m at.0 r.at.0 r.given → Paid t m at.0 r.at.0 r.given
          go (inl z) = rw z (paid_none (recover_onward t f m from i at n).reached)
          go (inr p) = p

      -- and where a continuation stands it passes nothing
      recover_stays : {c w : ℕ} → peek_at t at.0 ≡ Some (char c w) → is_continue c ≡ true → recover_read t f m from i at n ≡ passed_to at n Hint.Silent
      unfolding recover_read is_align pick
      recover_stays e y =
          let no = no_mark t at e y in
          simp (no 0x3F tt, no 0x3C tt, no 0x3E tt, no 0x5E tt, no 0x2C tt, no 0x2B tt, no 0x3D tt, no 0x2E tt, both_false)
          (pick_elim (λ (r : Recovery). r ≡ passed_to at n Hint.Silent) (ltb (past_at t at).0 (length t)) (λ _. refl) (λ _. refl))

    module _ (brace at : TextPlace) (n : ℕ) where
      -- where no continuation stands behind the argument, what follows is paid for itself
      clear_paid : let r = placeholder_read t f m brace at n in conts t (argument_read t f m at n).at.0 ≡ 0 → Paid t m at.0 r.at.0 r.given
      unfolding placeholder_read missing_read
      clear_paid z =
          let a = argument_read t f m at n in
          let end = spaces_past t a.at in
          let p = argument_paid at n in
          pick_elim (λ (r : PlaceholderRead). Paid t m at.0 r.at.0 r.given) _
          (λ _. rw add-zero at (paid_then p z (paid_none (reached_then (reached_spaces t a.at) (reached_consumed t end 0x7D (omega arith))))))
          (λ _. paid_then p z (paid_after (reached_spaces t a.at) (recover_paid _ _ end _)))

      -- where one does, nothing follows
      continue_paid : {c w : ℕ} → let r = placeholder_read t f m brace at n in
          peek_at t (argument_read t f m at n).at.0 ≡ Some (char c w) → is_continue c ≡ true → Paid t m at.0 r.at.0 r.given
      unfolding placeholder_read missing_read
      continue_paid e y =
          let a = argument_read t f m at n in
          let p = argument_paid at n in
          rw (no_spaces t a.at e y)
          (pick_elim (λ (r : PlaceholderRead). Paid t m at.0 r.at.0 r.given) _
          (λ _. close_paid a.at p)
          (λ _. rw (recover_stays _ _ a.at _ e y, add-zero) p))

      -- A PLACEHOLDER is paid
      pub placeholder_paid : let r = placeholder_read t f m brace at n in Paid t m at.0 r.at.0 r.given
      placeholder_paid = let i = (argument_read t f m at n).at.0 in go (peek_at t i) refl
        where
          Goal : Type 0
          Goal = let r = placeholder_read t f m brace at n in Paid t m at.0 r.at.0 r.given

          seen : {c w : ℕ} → peek_at t (argument_read t f m at n).at.0 ≡ Some (char c w) → (b : Bool) → is_continue c ≡ b → Goal
          seen e true y = continue_paid e y
          seen e false n = clear_paid (conts_none t _ e n)

          go : (x : Option Char) → peek_at t (argument_read t f m at n).at.0 ≡ x → Goal
          go None e = clear_paid (conts_end t _ e)
          go (Some x) e = seen e (is_continue x.code) refl
