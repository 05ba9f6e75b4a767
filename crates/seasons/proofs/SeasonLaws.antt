-- Laws of lists of texts: the first text of one and what is left, read one way only. Rests on Season and Rests.
use Rattle.std.specs.Prelude.{◌≡◌, refl, List, [], ◌∷◌, ◌++◌, ℕ, zero, suc, ◌/◌, ◌%◌, ◌≤◌, length, get_or, take, drop}
use Rattle.std.proofs.Common.{sym, ap, ◌∙◌, arith, length-append, take-append-drop, length-take-le, take_at, drop_at}
use Rattle.seasons.specs.Season.{two_bytes, written, IsList}
use Rattle.seasons.specs.Rests.{Rest, Headed}

-- two bytes say one number
pub two_one : (m n : ℕ) → two_bytes m ≡ two_bytes n → m ≡ n
two_one m n e =
    let low : m % 256 ≡ n % 256 = ap (λ (l : List ℕ). get_or l 0 0) e in
    let high : m / 256 ≡ n / 256 = ap (λ (l : List ℕ). get_or l 1 0) e in
    omega (arith, low, high)

-- equal parts make equal wholes
join : {a b c d : List ℕ} → a ≡ c → b ≡ d → a ++ b ≡ c ++ d
join p q = cc

-- where none is, the bytes are over
pub rest_none : (bytes : List ℕ) (ts : List (List ℕ)) → Rest 0 bytes ts → bytes ≡ []
unfolding written
rest_none bytes [] r = r.whole
rest_none bytes (t ∷ ts) r = absurd (omega (arith, r.count))

pub none_rest : Rest 0 [] []
unfolding written
none_rest = record { whole = refl; count = refl; short = tt }

-- THE FIRST OF WHAT IS LEFT
pub rest_first : (k : ℕ) (bytes : List ℕ) (ts : List (List ℕ)) → Rest (suc k) bytes ts → Headed k bytes ts
unfolding written
rest_first k bytes [] r = absurd (omega (arith, r.count))
rest_first k bytes (t ∷ ts) r =
    let tail : drop 2 bytes ≡ t ++ written ts = ap (drop 2) r.whole in
    let long = ap length r.whole in
    let parts = length-append t (written ts) in
    record {
      size = length t;
      others = ts;
      some = omega (arith, long, parts);
      length_is = sym (ap (take 2) r.whole);
      enough = rw tail (omega (arith, parts));
      split = rw tail (ap (λ (x : List ℕ). x ∷ ts) (sym (take_at t (written ts) (length t) refl)));
      rest = record {
        whole = rw tail (drop_at t (written ts) (length t) refl);
        count = omega (arith, r.count);
        short = r.short.1;
      };
    }

-- and the other way round
pub first_rest : (k n : ℕ) (bytes : List ℕ) (others : List (List ℕ)) → n ≤ 65535 → two_bytes n ≡ take 2 bytes → n ≤ length (drop 2 bytes) →
    Rest k (drop n (drop 2 bytes)) others → Rest (suc k) bytes (take n (drop 2 bytes) ∷ others)
unfolding written
first_rest k n bytes others few e enough r =
    let size : length (take n (drop 2 bytes)) ≡ n = length-take-le n (drop 2 bytes) enough in
    record {
      whole =
          sym (take-append-drop 2 bytes) ∙
          join (sym e ∙ ap two_bytes (sym size)) (sym (take-append-drop n (drop 2 bytes)) ∙ ap (λ (x : List ℕ). take n (drop 2 bytes) ++ x) r.whole);
      count = omega (arith, r.count);
      short = (omega (arith, size, few), r.short);
    }

-- WHAT IS LEFT IS READ ONE WAY ONLY
pub only_rest : (k : ℕ) (bytes : List ℕ) (ts us : List (List ℕ)) → Rest k bytes ts → Rest k bytes us → ts ≡ us
only_rest zero bytes [] [] r s = refl
only_rest zero bytes [] (u ∷ us) r s = absurd (omega (arith, s.count))
only_rest zero bytes (t ∷ ts) us r s = absurd (omega (arith, r.count))
only_rest (suc k) bytes ts us r s =
    let a = rest_first k bytes ts r in
    let b = rest_first k bytes us s in
    let n : a.size ≡ b.size = two_one a.size b.size (a.length_is ∙ sym b.length_is) in
    let same : a.others ≡ b.others = only_rest k (drop a.size (drop 2 bytes)) a.others b.others a.rest (rw n b.rest) in
    a.split ∙ rw (n, same) (sym b.split)

-- A LIST IS its count's two bytes and so many texts
pub list_rest : (bytes : List ℕ) (ts : List (List ℕ)) → IsList bytes ts → (two_bytes (length ts) ≡ take 2 bytes) × Rest (length ts) (drop 2 bytes) ts
list_rest bytes ts h =
    (sym (ap (take 2) h.whole), record { whole = ap (drop 2) h.whole; count = refl; short = h.short })

pub rest_list : (bytes : List ℕ) (k : ℕ) (ts : List (List ℕ)) → k ≤ 10000 → two_bytes k ≡ take 2 bytes → Rest k (drop 2 bytes) ts → IsList bytes ts
rest_list bytes k ts few e r =
    record {
      whole = sym (take-append-drop 2 bytes) ∙ join (sym e ∙ ap two_bytes (sym r.count)) r.whole;
      few = omega (arith, few, r.count);
      short = r.short;
    }
