-- Parts laid one after another, within what can be counted; a mark laid before what it stands before. Rests on Scribes and pen's laws.
use Rattle.std.specs.Prelude.{ℕ, zero, suc, ◌+◌, ◌-◌, ◌≤◌, ◌<◌, ◌≡◌, refl, Bool, true, false, List, [], ◌∷◌, ◌++◌, ltb, length, get_or, take, drop}
use Rattle.std.proofs.Common.{ap, sym, subst, ◌∙◌, true≢false, append_assoc, arith, ltb-true, ltb-false, length-append}
use Rattle.utf8.specs.Choice.{pick}
use Rattle.frame.specs.declared.Span.{Span}
use Rattle.frame.specs.declared.TextRange.{TextRange}
use Rattle.scan.specs.declared.Count.{Count}
use Rattle.scan.specs.declared.Numeral.{Numeral}
use Rattle.placeholder.specs.declared.Argument.{Argument}
use Rattle.pen.specs.Pens.{over, Fits, Laid, text_of}
use Rattle.pen.specs.PenLaws.{over_none, part_more, part_end, part_past}
use Rattle.pen.proofs.Laying.{laid_on}
use Rattle.plain.specs.Said.{SaidSpec, said_place, said_count, said_spec}
use Rattle.plain.specs.Plain.{plain_number, plain_place, after, plain_fill, plain_align, plain_sign, plain_flag, plain_count, plain_hex, plain_spec, doubled}
use Rattle.scribe.specs.Scribes.{marks_of, counts_of, starts_with_brace, argument_of}

-- WITHIN WHAT CAN BE COUNTED
pub fits_first : (at : ℕ) (xs ys : List ℕ) → Fits at (xs ++ ys) → Fits at xs
fits_first at xs ys h = omega (arith, h, length-append xs ys)

pub fits_rest : (at k : ℕ) (xs ys : List ℕ) → Fits at (xs ++ ys) → k ≡ at + length xs → Fits k ys
fits_rest at k xs ys h e = omega (arith, h, e, length-append xs ys)

-- a count's name or number, and the `$` behind it
module _ (at : ℕ) (t : List ℕ) where
  pub name_first : {c : Count} (r : TextRange) (s : Span) → c ≡ Count.ByName r s → Fits at (plain_count (said_count t c)) → Fits at (text_of t r)
  name_first r s e h = let j : Fits at (text_of t r ++ (0x24 ∷ [])) = rw e at h in fits_first at (text_of t r) (0x24 ∷ []) j

  pub name_rest : {c : Count} {k : ℕ} (r : TextRange) (s : Span) → c ≡ Count.ByName r s → Fits at (plain_count (said_count t c)) →
      k ≡ at + length (text_of t r) → Fits k (0x24 ∷ [])
  name_rest {k = k} r s e h p = let j : Fits at (text_of t r ++ (0x24 ∷ [])) = rw e at h in fits_rest at k (text_of t r) (0x24 ∷ []) j p

  pub number_first : {c : Count} (n : Numeral) → c ≡ Count.ByArgument n → Fits at (plain_count (said_count t c)) → Fits at (plain_number n)
  number_first n e h = let j : Fits at (plain_number n ++ (0x24 ∷ [])) = rw e at h in fits_first at (plain_number n) (0x24 ∷ []) j

  pub number_rest : {c : Count} {k : ℕ} (n : Numeral) → c ≡ Count.ByArgument n → Fits at (plain_count (said_count t c)) → k ≡ at + length (plain_number n) → Fits k (0x24 ∷ [])
  number_rest {k = k} n e h p = let j : Fits at (plain_number n ++ (0x24 ∷ [])) = rw e at h in fits_rest at k (plain_number n) (0x24 ∷ []) j p

-- A MARK BEFORE WHAT IS LAID
over_before : (old : List ℕ) (k c : ℕ) (xs : List ℕ) → over (over old (suc k) xs) k (c ∷ []) ≡ over old k (c ∷ xs)
unfolding over
over_before [] k c xs = refl
over_before (b ∷ old) zero c xs = ap (λ l. c ∷ l) (over_none (over old zero xs) zero)
over_before (b ∷ old) (suc k) c xs = ap (λ l. b ∷ l) (over_before old k c xs)

some_after : (c : ℕ) (xs : List ℕ) → (length xs ≡ 0 → ⊥) → after c xs ≡ c ∷ xs
some_after c [] n = absurd (n refl)
some_after c (b ∷ xs) n = refl

none_after : (c : ℕ) (xs : List ℕ) → length xs ≡ 0 → (after c xs ≡ []) × (xs ≡ [])
none_after c [] e = (refl, refl)
none_after c (b ∷ xs) e = absurd (omega (arith, e))

-- nothing was laid behind it: nothing is laid
pub after_none : {old mid : List ℕ} {at k : ℕ} (c : ℕ) (xs : List ℕ) → Laid old (at + 1) xs k mid → k ≡ at + 1 → Laid old at (after c xs) at mid
after_none {old} {mid} {at} {k} c xs p e =
    let n = none_after c xs (omega (arith, p.place, e)) in
    record {
      place = omega (arith, ap length n.0);
      bytes = p.bytes ∙ (ap (over old (at + 1)) n.1 ∙ (over_none old (at + 1) ∙ (sym (over_none old at) ∙ ap (over old at) (sym n.0))));
    }

-- something was: the mark goes before it
pub after_some : {old mid exit : List ℕ} {at k j : ℕ} (c : ℕ) (xs : List ℕ) → Laid old (at + 1) xs k mid → (k ≡ at + 1 → ⊥) → Laid mid at (c ∷ []) j exit →
    Laid old at (after c xs) k exit
after_some {old} {mid} {exit} {at} {k} c xs p n q =
    let s = some_after c xs (λ z. n (omega (arith, p.place, z))) in
    let i : at + 1 ≡ suc at = omega arith in
    record {
      place = omega (arith, p.place, ap length s);
      bytes =
          q.bytes
          ∙ (ap (λ l. over l at (c ∷ [])) p.bytes
          ∙ (ap (λ m. over (over old m xs) at (c ∷ [])) i ∙ (over_before old at c xs ∙ ap (over old at) (sym s))));
    }

-- what follows is no longer than with its mark
pub after_length : (c : ℕ) (xs : List ℕ) → length xs ≤ length (after c xs)
after_length c [] = omega arith
after_length c (b ∷ xs) = omega arith

-- A SPEC is its marks and what follows them
pub spec_parts : (x : SaidSpec) → plain_spec x ≡ marks_of x ++ counts_of x
unfolding plain_spec
spec_parts x =
    let f = plain_fill x.fill in
    let a = plain_align x.align in
    let s = plain_sign x.sign in
    let h = plain_flag 0x23 x.alternate in
    let z = plain_flag 0x30 x.zero in
    let t = counts_of x in
    sym (append_assoc f (a ++ (s ++ (h ++ z))) t ∙ ap (λ l. f ++ l) (append_assoc a (s ++ (h ++ z)) t ∙ ap (λ l. a ++ l) (append_assoc s (h ++ z) t ∙ ap (λ l. s ++ l) (append_assoc h z t))))

pub spec_laid : {old mid exit : List ℕ} {at m n : ℕ} (x : SaidSpec) → Laid old at (marks_of x) m mid → Laid mid m (counts_of x) n exit →
    Laid old at (plain_spec x) n exit
spec_laid {old} {mid} {exit} {at} {m} {n} x p q =
    subst (λ l. Laid old at l n exit) (sym (spec_parts x)) (laid_on (marks_of x) (counts_of x) p q)

-- LENGTHS
pub marks_length : (x : SaidSpec) →
    length (marks_of x) ≡
    length (plain_fill x.fill) + (length (plain_align x.align) + (length (plain_sign x.sign) + (length (plain_flag 0x23 x.alternate) + length (plain_flag 0x30 x.zero))))
marks_length x =
    let a = plain_align x.align in
    let s = plain_sign x.sign in
    let h = plain_flag 0x23 x.alternate in
    let z = plain_flag 0x30 x.zero in
    omega (arith, length-append (plain_fill x.fill) (a ++ (s ++ (h ++ z))), length-append a (s ++ (h ++ z)), length-append s (h ++ z), length-append h z)

pub counts_length : (x : SaidSpec) →
    length (counts_of x) ≡
    length (plain_count x.width) + (length (after 0x2E (plain_count x.precision)) + (length (plain_hex x.hex) + length x.typetext))
counts_length x =
    let p = after 0x2E (plain_count x.precision) in
    let h = plain_hex x.hex in
    omega (arith, length-append (plain_count x.width) (p ++ (h ++ x.typetext)), length-append p (h ++ x.typetext), length-append h x.typetext)

pub spec_length : (x : SaidSpec) → length (plain_spec x) ≡ length (marks_of x) + length (counts_of x)
spec_length x = ap length (spec_parts x) ∙ length-append (marks_of x) (counts_of x)

-- A LITERAL that starts with no brace, and one that starts with one
pub not_doubled : (xs : List ℕ) → starts_with_brace xs ≡ false → doubled xs ≡ xs
unfolding pick
not_doubled [] e = refl
not_doubled (b ∷ xs) e = rw e

pub is_doubled_lem : (xs ys : List ℕ) (b : ℕ) → xs ≡ b ∷ ys → starts_with_brace xs ≡ true → doubled xs ≡ b ∷ xs
unfolding pick
is_doubled_lem [] ys b e h = absurd (true≢false (sym h))
is_doubled_lem (c ∷ xs) ys b e h = let q : c ≡ b = cc in rw (h, q)

-- a part that starts with something stands in the text
part_there : (t : List ℕ) (i e : ℕ) → starts_with_brace (take (e - i) (drop i t)) ≡ true → (i < e) × (i < length t)
part_there t i e h = (within (ltb i e) refl, inside (ltb i (length t)) refl)
  where
    within : (b : Bool) → ltb i e ≡ b → i < e
    within true q = ltb-true i e q
    within false q = absurd (true≢false (sym h ∙ ap starts_with_brace (part_end t i e (ltb-false i e q))))

    inside : (b : Bool) → ltb i (length t) ≡ b → i < length t
    inside true q = ltb-true i (length t) q
    inside false q = absurd (true≢false (sym h ∙ ap starts_with_brace (part_past t i e (ltb-false i (length t) q))))

pub brace_there : (t : List ℕ) (r : TextRange) → starts_with_brace (text_of t r) ≡ true →
    (r.start.0 < length t) × (doubled (text_of t r) ≡ get_or t r.start.0 0 ∷ text_of t r)
brace_there t r h =
    let p = part_there t r.start.0 r.end.0 h in
    (p.1, is_doubled_lem (text_of t r) _ (get_or t r.start.0 0) (part_more t r.start.0 r.end.0 p.0 p.1) h)

-- a placeholder's length; its spec has room for a colon and a dot that do not stand
pub argument_length : (t : List ℕ) (a : Argument) →
    length (argument_of t a) ≡ 1 + (length (plain_place (said_place t a.place)) + (length (after 0x3A (plain_spec (said_spec t a.spec))) + 1))
argument_length t a =
    let p = plain_place (said_place t a.place) in
    let s = after 0x3A (plain_spec (said_spec t a.spec)) in
    omega (arith, length-append p (s ++ (0x7D ∷ [])), length-append s (0x7D ∷ []))
