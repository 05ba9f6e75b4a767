-- Taking a list apart, a text at a time. Rests on Taking and on seasons' laws of lists.
use mathlib.Core.Path.{◌≡◌, refl, sym, ap, subst, ◌∙◌}
use mathlib.Core.Logic.{inl, inr}
use mathlib.Core.Bool.{Bool, true, false, true≢false}
use mathlib.Core.List.{List, [], ◌∷◌, ◌++◌, append_assoc, append-nil}
use Prim.Native.Nat.{ℕ, suc, ◌+◌, ◌-◌, ◌*◌, ◌/◌, ◌%◌, ◌≤◌, ◌<◌}
use native.Mathlib.Numerals.{add-one}
use native.Mathlib.Omega.{arith}
use lib.ListN.{length, get_or, take, drop, length-drop}
use lib.Dec.{eqb}
use lib.Seq.{drop-cons, drop-drop, length-take-le, drop-length}
use borrow.Author.Tests.{eqb-true, eqb-false}
use Rattle.seasons.specs.Season.{two_bytes, IsList, Counted}
use Rattle.seasons.specs.Rests.{Rest}
use Rattle.seasons.proofs.SeasonLaws.{two_one, rest_none, none_rest, rest_first, first_rest, list_rest, rest_list}
use Rattle.seasons.specs.TotalLaws.{plus_line, own_length, sums_length, sums_snoc}
use Rattle.seasons.proofs.FewLaws.{own_few, sums_few}
use Rattle.seasons.specs.Totals.{own, plus, zeros, sums}
use Rattle.seasons.specs.declared.Season.{Season}
use Rattle.totals.specs.Adding.{Room}
use Rattle.totals.specs.Taking.{Stands, NoneStands, AllAdded}

-- two bytes and their number
pub two_said : (low high : ℕ) → low < 256 → high < 256 → (low + 256 * high ≤ 65535) × (two_bytes (low + 256 * high) ≡ low ∷ high ∷ [])
two_said low high a b =
    let l : (low + 256 * high) % 256 ≡ low = omega (arith, a) in
    let h : (low + 256 * high) / 256 ≡ high = omega (arith, a) in
    (omega (arith, a, b), rw (l, h))

-- two bytes at a place
take_two : (bytes : List ℕ) (at : ℕ) → at + 2 ≤ length bytes → take 2 (drop at bytes) ≡ get_or bytes at 0 ∷ get_or bytes (at + 1) 0 ∷ []
take_two bytes at h =
    rw (drop-cons bytes at 0 (omega (arith, h)), drop-cons bytes (suc at) 0 (omega (arith, h)), add-one at)

-- too short for a length
pub ends_short : (bytes : List ℕ) (at : ℕ) → length bytes - at < 2 → NoneStands bytes at
ends_short bytes at h k ts r = absurd (omega (arith, h, length-drop at bytes, (rest_first k (drop at bytes) ts r).some))

-- too short for the text
pub ends_long : (bytes : List ℕ) (at n : ℕ) → at ≤ length bytes → 2 ≤ length bytes - at → length bytes - at - 2 < n →
    two_bytes n ≡ get_or bytes at 0 ∷ get_or bytes (at + 1) 0 ∷ [] → NoneStands bytes at
ends_long bytes at n inside some long e k ts r =
    let head = rest_first k (drop at bytes) ts r in
    let same : head.size ≡ n = two_one head.size n (head.length_is ∙ take_two bytes at (omega (arith, inside, some)) ∙ sym e) in
    absurd (omega (arith, long, same, head.enough, length-drop 2 (drop at bytes), length-drop at bytes))

pub ends_here : (bytes : List ℕ) (at n : ℕ) → at ≤ length bytes → 2 ≤ length bytes - at → n ≤ length bytes - at - 2 → n ≤ 65535 →
    two_bytes n ≡ get_or bytes at 0 ∷ get_or bytes (at + 1) 0 ∷ [] → Stands bytes at (at + 2 + n)
ends_here bytes at n inside some enough few e =
    record {
      size = n;
      is_end = refl;
      inside = omega (arith, inside, some, enough);
      few = few;
      said = e ∙ sym (take_two bytes at (omega (arith, inside, some)));
    }

-- A LIST BEING TAKEN APART, with so many texts left from a place on: those passed, and their totals; whatever the rest is, the whole is
-- both, and whatever the whole is, it begins with those passed
pub record Taken (bytes : List ℕ) (count : ℕ) (row : List ℕ) (at left : ℕ) : Type 0 where
  pub past : List (List ℕ)
  pub inside : at ≤ length bytes
  pub few : left ≤ 10000
  pub whole : (us : List (List ℕ)) → Rest left (drop at bytes) us → Rest count (drop 2 bytes) (past ++ us)
  pub only : (ts : List (List ℕ)) → Rest count (drop 2 bytes) ts → (us : List (List ℕ)) × ((ts ≡ past ++ us) × Rest left (drop at bytes) us)
  pub totals : row ≡ sums past
  pub room : Room (0x100000 * left) row

pub taken_start : (bytes : List ℕ) (count : ℕ) {row : List ℕ} → 2 ≤ length bytes → count ≤ 10000 → row ≡ zeros → Taken bytes count row 2 count
unfolding sums
taken_start bytes count some few e =
    record {
      past = [];
      inside = some;
      few = few;
      whole = λ us r. r;
      only = λ ts r. (ts, (refl, r));
      totals = e;
      room = λ i. omega (arith, few, ap (λ (l : List ℕ). get_or l i 0) e, sums_few [] tt i);
    }

module _ {bytes : List ℕ} {count : ℕ} {row : List ℕ} {at left : ℕ} (taken : Taken bytes count row at left) where
  -- the row has its lines
  pub taken_rows : length row ≡ 24
  taken_rows = ap length taken.totals ∙ sums_length taken.past

  -- nothing is left
  pub taken_end : left ≤ 0 → AllAdded bytes count row (eqb at (length bytes))
  taken_end h = go (eqb at (length bytes)) refl
    where
      none : left ≡ 0
      none = omega (arith, h)

      over : at ≡ length bytes → Rest left (drop at bytes) []
      over e = rw (none, e, drop-length bytes) none_rest

      go : (x : Bool) → eqb at (length bytes) ≡ x → AllAdded bytes count row x
      go true e =
          record {
            done = λ _. (taken.past ++ [], (taken.whole [] (over (eqb-true at (length bytes) e)), taken.totals ∙ rw append-nil));
            none = λ q. absurd (true≢false q);
          }
      go false e =
          record {
            done = λ q. absurd (true≢false (sym q));
            none = λ _ ts r.
                let o = taken.only ts r in
                let z : length (drop at bytes) ≡ 0 = ap length (rest_none (drop at bytes) o.0 (subst (λ (n : ℕ). Rest n (drop at bytes) o.0) none o.1.1)) in
                eqb-false at (length bytes) e (omega (arith, z, length-drop at bytes, taken.inside));
          }

  -- no text stands there
  pub taken_none : 0 < left → NoneStands bytes at → AllAdded bytes count row false
  taken_none more none =
      let one : left ≡ suc (left - 1) = omega (arith, more) in
      record {
        done = λ q. absurd (true≢false (sym q));
        none = λ _ ts r.
            let o = taken.only ts r in
            none (left - 1) o.0 (subst (λ (n : ℕ). Rest n (drop at bytes) o.0) one o.1.1);
      }

  module _ (more : 0 < left) {end : ℕ} (s : Stands bytes at end) where
    -- its bytes
    abbrev here : List ℕ
    here = take (end - (at + 2)) (drop (at + 2) bytes)

    behind : drop 2 (drop at bytes) ≡ drop (at + 2) bytes
    behind = drop-drop 2 at bytes

    size_is : end - (at + 2) ≡ s.size
    size_is = omega (arith, s.is_end)

    here_is : take s.size (drop 2 (drop at bytes)) ≡ here
    here_is = rw (behind, size_is)

    after : drop s.size (drop 2 (drop at bytes)) ≡ drop end bytes
    after = rw behind (drop-drop s.size (at + 2) bytes ∙ ap (λ (n : ℕ). drop n bytes) (sym s.is_end))

    enough : s.size ≤ length (drop 2 (drop at bytes))
    enough = omega (arith, s.is_end, s.inside, ap length behind, length-drop (at + 2) bytes)

    pub here_few : length here ≤ 65535
    here_few = omega (arith, ap length here_is, length-take-le s.size (drop 2 (drop at bytes)) enough, s.few)

    -- it is passed
    pub taken_next : {row' : List ℕ} → row' ≡ plus row (own here) → Taken bytes count row' end (left - 1)
    taken_next {row'} e =
        let one : left ≡ suc (left - 1) = omega (arith, more) in
        record {
          past = taken.past ++ (here ∷ []);
          inside = s.inside;
          few = omega (arith, taken.few);
          whole = λ us r.
              let first : Rest (suc (left - 1)) (drop at bytes) (here ∷ us) =
              rw here_is at (first_rest (left - 1) s.size (drop at bytes) us s.few s.said enough (rw after r))
              in
              subst (Rest count (drop 2 bytes)) (sym (append_assoc taken.past (here ∷ []) us))
              (taken.whole (here ∷ us) (subst (λ (n : ℕ). Rest n (drop at bytes) (here ∷ us)) (sym one) first));
          only = λ ts r.
              let o = taken.only ts r in
              let head = rest_first (left - 1) (drop at bytes) o.0 (subst (λ (n : ℕ). Rest n (drop at bytes) o.0) one o.1.1) in
              let same : head.size ≡ s.size = two_one head.size s.size (head.length_is ∙ sym s.said) in
              let split : o.0 ≡ here ∷ head.others = head.split ∙ rw (same, here_is) in (
                head.others,
                (
                  o.1.0
                      ∙ ap (λ (us : List (List ℕ)). taken.past ++ us) split
                      ∙ sym (append_assoc taken.past (here ∷ []) head.others),
                  rw (same, after) at head.rest,
                ),
              );
          totals = e ∙ rw taken.totals (sym (sums_snoc taken.past here));
          room = λ i.
              omega (
                arith,
                ap (λ (l : List ℕ). get_or l i 0) e,
                plus_line row (own here) i (taken_rows ∙ sym (own_length here)),
                own_few here here_few i,
                taken.room i,
                one,
              );
        }

-- WHAT BYTES COME TO
abbrev pub Is25 : Season → Type 0
Is25 r = (r.number ≡ 25) × (r.totals ≡ zeros)

pub unlisted_short : (bytes : List ℕ) {r : Season} → length bytes < 2 → Is25 r → Counted bytes r
unlisted_short bytes h e = inr (record { none = λ ts l. absurd (omega (arith, h, ap length l.whole)); number = e.0; totals = e.1 })

module _ (bytes : List ℕ) (n : ℕ) (some : 2 ≤ length bytes) (said : two_bytes n ≡ get_or bytes 0 0 ∷ get_or bytes 1 0 ∷ []) where
  first_two : two_bytes n ≡ take 2 bytes
  first_two = said ∙ sym (take_two bytes 0 (omega (arith, some)))

  count_is : (ts : List (List ℕ)) → IsList bytes ts → length ts ≡ n
  count_is ts l = two_one (length ts) n ((list_rest bytes ts l).0 ∙ sym first_two)

  pub unlisted_many : {r : Season} → 10000 < n → Is25 r → Counted bytes r
  unlisted_many h e = inr (record { none = λ ts l. absurd (omega (arith, h, count_is ts l, l.few)); number = e.0; totals = e.1 })

  module _ {row : List ℕ} {x : Bool} (all : AllAdded bytes n row x) where
    pub listed_all : n ≤ 10000 → x ≡ true → Counted bytes (record { number = 0; totals = row })
    listed_all few e =
        let d = all.done e in
        inl (d.0, record { list = rest_list bytes n d.0 few first_two d.1.0; number = refl; totals = d.1.1 })

    pub unlisted_all : {r : Season} → x ≡ false → Is25 r → Counted bytes r
    unlisted_all f e =
        inr (record {
          none = λ ts l. all.none f ts (subst (λ (k : ℕ). Rest k (drop 2 bytes) ts) (count_is ts l) (list_rest bytes ts l).1);
          number = e.0;
          totals = e.1;
        })
