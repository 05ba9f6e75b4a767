-- What a verdict says of a text, verdict by verdict, and that no text has two. Rests on FirstLaws.
use Rattle.std.specs.Prelude.{◌≡◌, refl, ◌↔◌, Bool, true, List, [], ◌∷◌, ℕ, zero, suc, ◌≤◌, ◌<◌, eqb, ltb}
use Rattle.std.proofs.Common.{sym, ap, subst, ◌∙◌, inl, inr, ⊎_elim, true≢false, eq-or-lt_of_le, arith}
use borrow.Author.Tests.{ltb-true, ltb-false, eqb-true, eqb-false}
use Rattle.std.proofs.Math.ListN.{length}
use Rattle.utf8.specs.ChoiceLaws.{pick_elim}
use Rattle.frame.specs.FrameLaws.{same_equal}
use Rattle.frame.specs.declared.Frame.{Frame}
use Rattle.frame.specs.declared.Mode.{Mode}
use Rattle.placeholder.specs.declared.Place.{Place}
use Rattle.reading.specs.Lists.{errors}
use Rattle.reading.specs.Texts.{literal_text}
use Rattle.reading.specs.declared.Piece.{Piece}
use Rattle.laws.specs.ListLaws.{no_length}
use Rattle.membership.specs.Members.{number, date, is_unnamed, takes, is_the_name, is_called, Is, format_pieces, Sound, OnlyNamed, NothingTaken, NumberOnce, DateAfter, Member, Rule, FirstBroken}
use Rattle.membership.specs.Verdicts.{first_where, second_where, pieces_verdict, text_verdict}
use Rattle.membership.specs.FirstLaws.{is_within, first_within, first_is, first_least, first_none, second_is, second_least}
use Rattle.membership.specs.declared.Verdict.{Verdict}

-- no place has both names
not_both : (t : List ℕ) (ps : List Piece) (i : ℕ) → Is (is_called t date) ps i → ¬ Is (is_called t number) ps i
not_both t [] i d n = d
not_both t (x ∷ xs) (suc i) d n = not_both t xs i d n
not_both t (Piece.Literal r ∷ xs) zero d n = true≢false (sym d)
not_both t (Piece.Placeholder a ∷ xs) zero d n = go a.place d n
  where
    go : (p : Place) → is_the_name t date p ≡ true → ¬ (is_the_name t number p ≡ true)
    go (Place.Next i) d n = true≢false (sym d)
    go (Place.At i) d n = true≢false (sym d)
    go (Place.Named r) d n =
        let e : date ≡ number = sym (same_equal (literal_text t r) date d) ∙ same_equal (literal_text t r) number n in
        let z : ◌≡◌ {A = ℕ} 0x64 0x6E = cc in
        omega (arith, z)

module _ (t : List ℕ) (f : Frame) where
  -- what a verdict says
  abbrev pub Says : Verdict → Type 0
  Says Verdict.Yes = Member t f
  Says (Verdict.Broken k p) = FirstBroken t f k p
  Says (Verdict.Refused n p) = ⊥

  -- the rules before the k-th hold
  abbrev Before : ℕ → Type 0
  Before k = (j : ℕ) → j < k → Rule j t f

  -- one more
  and_then : (k : ℕ) → Before k → Rule k t f → Before (suc k)
  and_then k before r j h =
      ⊎_elim (λ e. subst (λ (n : ℕ). Rule n t f) (sym e) r) (λ l. before j l) (eq-or-lt_of_le {n = j} {m = k} (omega (arith, h)))

  none_yet : Before 1
  none_yet = and_then 0 (λ j h. absurd (omega (arith, h))) tt

  -- a member template meets every rule
  pub meets : Member t f → (k : ℕ) → Rule k t f
  meets m zero = tt
  meets m (suc zero) = m.sound
  meets m (suc (suc zero)) = m.named
  meets m (suc (suc (suc zero))) = m.untaken
  meets m (suc (suc (suc (suc zero)))) = m.once
  meets m (suc (suc (suc (suc (suc zero))))) = m.after
  meets m (suc (suc (suc (suc (suc (suc k)))))) = tt

  -- a text with errors
  wrong : ¬ (length (errors t f Mode.Format) ≡ 0) → FirstBroken t f 1 0
  wrong h = record { earlier = none_yet; broken = λ e. h (ap length e); here = refl; first = λ i l. absurd (omega (arith, l)) }

  -- a text without, by its pieces
  module _ (sound : Sound t f) where
    abbrev ps : List Piece
    ps = format_pieces t f

    one : Before 2
    one = and_then 1 none_yet sound

    -- a place that is no name
    unnamed : first_where is_unnamed ps < length ps → FirstBroken t f 2 (first_where is_unnamed ps)
    unnamed h =
        record {
          earlier = one;
          broken = λ all. all _ (first_is is_unnamed ps h);
          here = first_is is_unnamed ps h;
          first = λ i l b. absurd (omega (arith, l, first_least is_unnamed ps i b));
        }

    module _ (named : OnlyNamed ps) where
      two : Before 3
      two = and_then 2 one named

      -- a width or a precision that is taken
      taken : first_where takes ps < length ps → FirstBroken t f 3 (first_where takes ps)
      taken h =
          record {
            earlier = two;
            broken = λ all. all _ (first_is takes ps h);
            here = first_is takes ps h;
            first = λ i l b. absurd (omega (arith, l, first_least takes ps i b));
          }

      module _ (untaken : NothingTaken ps) where
        three : Before 4
        three = and_then 3 two untaken

        abbrev is_number : Piece → Bool
        is_number = is_called t number

        -- no "number"
        missing : first_where is_number ps ≡ length ps → FirstBroken t f 4 (length ps)
        missing h =
            let none = first_none is_number ps (omega (arith, h)) in
            record {
              earlier = three;
              broken = λ once. none once.0 once.1;
              here = inr (refl, none);
              first = λ i l b. ⊎_elim (λ a. none i a.0) (λ m. omega (arith, l, m.0)) b;
            }

        -- a second one
        again : second_where is_number ps < length ps → FirstBroken t f 4 (second_where is_number ps)
        again h =
            let s = second_is is_number ps h in
            let a = first_is is_number ps (omega (arith, h, s.1)) in
            record {
              earlier = three;
              broken = λ once. omega (arith, s.1, once.2 _ a, once.2 _ s.0);
              here = inl (s.0, (_, s.1, a));
              first =
                  λ i l b. ⊎_elim (λ a. omega (arith, l, second_least is_number ps i a.1.0 a.1.1 a.1.2 a.0))
                  (λ m. m.1 _ s.0) b;
            }

        -- one "number"
        module _ (some : ¬ (first_where is_number ps ≡ length ps)) (single : length ps ≤ second_where is_number ps) where
          within : first_where is_number ps < length ps
          within = omega (arith, some, first_within is_number ps)

          the_one : (j : ℕ) → Is is_number ps j → j ≡ first_where is_number ps
          the_one j h =
              ⊎_elim (λ e. sym e)
              (λ l. absurd (omega (arith, single, is_within is_number ps j h, second_least is_number ps j _ l (first_is is_number ps within) h)))
              (eq-or-lt_of_le (first_least is_number ps j h))

          once : NumberOnce t ps
          once = (first_where is_number ps, first_is is_number ps within, the_one)

          four : Before 5
          four = and_then 4 three once

          abbrev is_date : Piece → Bool
          is_date = is_called t date

          -- a "date" before it
          early : first_where is_date ps < first_where is_number ps → FirstBroken t f 5 (first_where is_date ps)
          early h =
              let d = first_is is_date ps (omega (arith, h, within)) in
              let n = first_is is_number ps within in
              record {
                earlier = four;
                broken = λ after. omega (arith, h, after _ _ d n);
                here = (d, (_, n, omega (arith, h)));
                first = λ i l b. absurd (omega (arith, l, first_least is_date ps i b.0));
              }

          -- none
          after : first_where is_number ps ≤ first_where is_date ps → DateAfter t ps
          after h i j d n =
              ⊎_elim (λ e. absurd (not_both t ps i d (subst (λ (k : ℕ). Is is_number ps k) e n))) (λ l. l)
              (eq-or-lt_of_le {n = j} {m = i} (omega (arith, h, the_one j n, first_least is_date ps i d)))

    -- rules 2 to 5
    by_pieces : Says (pieces_verdict t ps)
    unfolding pieces_verdict
    by_pieces =
        let n = length ps in
        pick_elim Says (ltb (first_where is_unnamed ps) n) (λ y. unnamed (ltb-true _ _ y))
        (λ y.
        let named = first_none is_unnamed ps (ltb-false _ _ y) in
        pick_elim Says (ltb (first_where takes ps) n) (λ y. taken named (ltb-true _ _ y))
        (λ y.
        let untaken = first_none takes ps (ltb-false _ _ y) in
        pick_elim Says (eqb (first_where (is_called t number) ps) n) (λ y. missing named untaken (eqb-true _ _ y))
        (λ some.
        pick_elim Says (ltb (second_where (is_called t number) ps) n) (λ y. again named untaken (ltb-true _ _ y))
        (λ single.
        let a = eqb-false _ _ some in
        let b = ltb-false _ _ single in
        pick_elim Says (ltb (first_where (is_called t date) ps) (first_where (is_called t number) ps)) (λ y. early named untaken a b (ltb-true _ _ y))
        (λ y.
        record {
          sound = sound;
          named = named;
          untaken = untaken;
          once = once named untaken a b;
          after = after named untaken a b (ltb-false _ _ y);
        })))))

  -- WHAT THE VERDICT SAYS
  pub says : Says (text_verdict t f)
  unfolding text_verdict
  says =
      pick_elim Says (eqb (length (errors t f Mode.Format)) 0) (λ y. by_pieces (no_length _ (eqb-true _ _ y)))
      (λ n. wrong (eqb-false _ _ n))

  -- one rule, and one piece, is the first
  pub one_rule : {k p k' p' : ℕ} → FirstBroken t f k p → FirstBroken t f k' p' → (k ≡ k') × (p ≡ p')
  one_rule {k} {p} {k'} {p'} x y =
      let l : ¬ (k < k') = λ h. x.broken (y.earlier k h) in
      let r : ¬ (k' < k) = λ h. y.broken (x.earlier k' h) in
      let e : k ≡ k' = omega (arith, l, r) in
      let z : FirstBroken t f k p' = subst (λ (n : ℕ). FirstBroken t f n p') (sym e) y in
      let a : ¬ (p < p') = λ h. z.first p h x.here in
      let b : ¬ (p' < p) = λ h. x.first p' h z.here in
      (e, omega (arith, a, b))

  -- so yes is said exactly of a member template
  pub is_yes_lem : (text_verdict t f ≡ Verdict.Yes) ↔ Member t f
  is_yes_lem = (λ e. subst Says e says, λ m. go (text_verdict t f) says m)
    where
      go : (v : Verdict) → Says v → Member t f → v ≡ Verdict.Yes
      go Verdict.Yes h m = refl
      go (Verdict.Broken k p) h m = absurd (h.broken (meets m k))
      go (Verdict.Refused n p) h m = absurd h

  -- and a rule and a piece exactly where they are the first
  pub is_broken_lem : (k p : ℕ) → (text_verdict t f ≡ Verdict.Broken k p) ↔ FirstBroken t f k p
  is_broken_lem k p = (λ e. subst Says e says, λ b. go (text_verdict t f) says b)
    where
      go : (v : Verdict) → Says v → FirstBroken t f k p → v ≡ Verdict.Broken k p
      go Verdict.Yes h b = absurd (b.broken (meets h k))
      go (Verdict.Broken k' p') h b = let e = one_rule h b in cc
      go (Verdict.Refused n p') h b = absurd h
