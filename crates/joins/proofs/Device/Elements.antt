-- Elements joined: a run that follows a literal is taken into it, and what fitted fits. Rests on grammar's Grammar and unique's Splits.
use Rattle.std.specs.Prelude.{◌≡◌, refl, ◌≢◌, List, [], ◌∷◌, ◌++◌, ℕ}
use Rattle.std.proofs.Common.{ap, sym, ◌∙◌, inl, inr, append_assoc, append-nil, arith}
use Rattle.frame.specs.declared.Mode.{Mode}
use Rattle.grammar.specs.Grammar.{All, Plain, NextBrace, Alignment, left, right, center, align_char, FormatSpec, format_spec, unmodified, modifier, free_text, Tail, bare, colon, Element, run, opened, closed, placeholder, from_zero, written_format, FitsFormat, written_tail, FitsTail, written, Fits, written_all, FitsAll}
use Rattle.unique.specs.Device.Splits.{Splits, both, flag_split, width_split, precision_split, typing_split, format_split}

-- THE JOIN: a run that follows a literal is taken into it
abbrev pub merged : Element → ℕ → List ℕ → List Element → List Element
merged (run c r) d s fs = run c (r ++ (d ∷ s)) ∷ fs
merged (opened r) d s fs = opened (r ++ (d ∷ s)) ∷ fs
merged (closed r) d s fs = closed (r ++ (d ∷ s)) ∷ fs
merged (placeholder a) d s fs = placeholder a ∷ run d s ∷ fs

abbrev pub met : Element → List Element → List Element
met e [] = e ∷ []
met e (run d s ∷ fs) = merged e d s fs
met e (opened s ∷ fs) = e ∷ opened s ∷ fs
met e (closed s ∷ fs) = e ∷ closed s ∷ fs
met e (placeholder b ∷ fs) = e ∷ placeholder b ∷ fs

abbrev pub joined : List Element → List Element → List Element
joined [] fs = fs
joined (e ∷ []) fs = met e fs
joined (e ∷ g ∷ es) fs = e ∷ joined (g ∷ es) fs

-- THE PREMISE: where a Format spec is blank at the end, no align follows
abbrev pub BlankTail : Mode → Tail → Type 0
BlankTail Mode.Format y = written_tail y [] ≡ 0x3A ∷ []
BlankTail Mode.InlineAsm y = ⊥
BlankTail Mode.Diagnostic y = ⊥

abbrev pub Blank : Mode → Element → Type 0
Blank m (run c r) = ⊥
Blank m (opened r) = ⊥
Blank m (closed r) = ⊥
Blank m (placeholder a) = BlankTail m a.tail

abbrev pub Apart : Mode → List Element → List ℕ → Type 0
Apart m [] u = Unit {0}
Apart m (e ∷ []) u = (a : Alignment) (v : List ℕ) → u ≡ align_char a ∷ v → Blank m e → ⊥
Apart m (e ∷ g ∷ es) u = Apart m (g ∷ es) u

-- small facts
head : {c d : ℕ} {r s : List ℕ} → c ∷ r ≡ d ∷ s → c ≡ d
head e = cc

tail : {c d : ℕ} {r s : List ℕ} → c ∷ r ≡ d ∷ s → r ≡ s
tail e = cc

close_align : (a : Alignment) → 0x7D ≡ align_char a → ⊥
close_align left e = omega arith
close_align right e = omega arith
close_align center e = omega arith

open_align : (a : Alignment) → 0x7B ≡ align_char a → ⊥
open_align left e = omega arith
open_align right e = omega arith
open_align center e = omega arith

zero_split : (f : FormatSpec) → Splits (from_zero f)
zero_split f = both (flag_split 0x30 f.zero) (both (width_split f.width) (both (precision_split f.precision) (typing_split f.typing)))

before_brace : {g : List ℕ → List ℕ} → Splits g → (w t : List ℕ) → g (w ++ (0x7D ∷ t)) ≡ (g [] ++ w) ++ (0x7D ∷ t)
before_brace {g} s w t = s (w ++ (0x7D ∷ t)) ∙ sym (append_assoc (g []) w (0x7D ∷ t))

-- A PLACEHOLDER MOVED from before one text to before another
module _ (t u : List ℕ) where
  -- an align that comes to stand first stood first before
  abbrev Lets : List ℕ → Type 0
  Lets z = (a : Alignment) (v : List ℕ) → u ≡ align_char a ∷ v → z ≡ [] → (r : List ℕ) × (t ≡ align_char a ∷ r)

  second : (z : List ℕ) {c : ℕ} (a : Alignment) {v : List ℕ} → Lets z → z ++ (0x7D ∷ u) ≡ c ∷ align_char a ∷ v →
      (r : List ℕ) × (z ++ (0x7D ∷ t) ≡ c ∷ align_char a ∷ r)
  second [] {c} a {v} p e = let x = p a v (tail e) refl in (x.0, cc (head e, x.1))
  second (x ∷ []) a p e = absurd (close_align a (head (tail e)))
  second (x ∷ y ∷ z) a p e = (z ++ (0x7D ∷ t), cc (head e, head (tail e)))

  flag : (y : List ℕ) {v : List ℕ} → y ++ (0x7D ∷ u) ≡ 0x30 ∷ v → ((x : List ℕ) → v ≢ 0x24 ∷ x) →
      (r : List ℕ) × (y ++ (0x7D ∷ t) ≡ 0x30 ∷ r) × ((x : List ℕ) → r ≢ 0x24 ∷ x)
  flag [] e n = let k : ◌≡◌ {A = ℕ} 0x7D 0x30 = head e in absurd (omega arith)
  flag (c ∷ []) e n = (0x7D ∷ t, cc (head e), λ x k. let q : ◌≡◌ {A = ℕ} 0x7D 0x24 = head k in omega arith)
  flag (c ∷ d ∷ y) e n = (d ∷ (y ++ (0x7D ∷ t)), cc (head e), λ x k. n (y ++ (0x7D ∷ u)) (sym (tail e) ∙ ap (λ j. j ∷ (y ++ (0x7D ∷ u))) (head k)))

  dollar : (y : List ℕ) {v : List ℕ} → y ++ (0x7D ∷ u) ≡ 0x30 ∷ 0x24 ∷ v → (r : List ℕ) × (y ++ (0x7D ∷ t) ≡ 0x30 ∷ 0x24 ∷ r)
  dollar [] e = let k : ◌≡◌ {A = ℕ} 0x7D 0x30 = head e in absurd (omega arith)
  dollar (c ∷ []) e = let k : ◌≡◌ {A = ℕ} 0x7D 0x24 = head (tail e) in absurd (omega arith)
  dollar (c ∷ d ∷ y) e = (y ++ (0x7D ∷ t), cc (head e, head (tail e)))

  format_moved : (f : FormatSpec) (w : List ℕ) → Lets (written_format f [] ++ w) → FitsFormat f (w ++ (0x7D ∷ t)) → FitsFormat f (w ++ (0x7D ∷ u))
  format_moved f w p h =
      let wr = before_brace (format_split f) w in
      let ze = before_brace (zero_split f) w in
      record {
        choice1 = λ c a v e. let x = second (written_format f [] ++ w) a p (sym (wr u) ∙ e) in h.choice1 c a x.0 (wr t ∙ x.1);
        choice2 = λ v e n. let x = flag (from_zero f [] ++ w) (sym (ze u) ∙ e) n in h.choice2 x.0 (ze t ∙ x.1) x.2;
        choice2$ = λ v e. let x = dollar (from_zero f [] ++ w) (sym (ze u) ∙ e) in h.choice2$ x.0 (ze t ∙ x.1);
        width = h.width;
        precision = h.precision;
        typing = h.typing;
      }

  brace_moved : (w : List ℕ) → NextBrace (w ++ (0x7D ∷ t)) → NextBrace (w ++ (0x7D ∷ u))
  brace_moved [] h = h
  brace_moved (c ∷ w) h = h

  -- the colon and nothing
  blank : (f : FormatSpec) (w : List ℕ) → written_format f [] ++ w ≡ [] → written_tail (colon (format_spec f) w) [] ≡ 0x3A ∷ []
  blank f w e = ap (λ l. 0x3A ∷ l) (ap (written_format f) (append-nil w) ∙ (format_split f w ∙ e))

  tail_moved : (m : Mode) (y : Tail) → ((a : Alignment) (v : List ℕ) → u ≡ align_char a ∷ v → BlankTail m y → (r : List ℕ) × (t ≡ align_char a ∷ r)) →
      FitsTail m y (0x7D ∷ t) → FitsTail m y (0x7D ∷ u)
  tail_moved m bare p h = tt
  tail_moved Mode.Format (colon (format_spec f) w) p h = (format_moved f w (λ a v e z. p a v e (blank f w z)) h.0, h.1)
  tail_moved Mode.Format (colon unmodified w) p h = absurd h.0
  tail_moved Mode.Format (colon (modifier c r) w) p h = absurd h.0
  tail_moved Mode.Format (colon (free_text r) w) p h = absurd h.0
  tail_moved Mode.InlineAsm (colon (format_spec f) w) p h = absurd h.0
  tail_moved Mode.InlineAsm (colon unmodified w) p h = h
  tail_moved Mode.InlineAsm (colon (modifier c r) w) p h = h
  tail_moved Mode.InlineAsm (colon (free_text r) w) p h = absurd h.0
  tail_moved Mode.Diagnostic (colon (format_spec f) w) p h = absurd h.0
  tail_moved Mode.Diagnostic (colon unmodified w) p h = absurd h.0
  tail_moved Mode.Diagnostic (colon (modifier c r) w) p h = absurd h.0
  tail_moved Mode.Diagnostic (colon (free_text r) w) p h = ((h.0.0, brace_moved w h.0.1), h.1)

  -- AN ELEMENT MOVED
  pub fits_moved : (m : Mode) (e : Element) → (NextBrace t → NextBrace u) →
      ((a : Alignment) (v : List ℕ) → u ≡ align_char a ∷ v → Blank m e → (r : List ℕ) × (t ≡ align_char a ∷ r)) → Fits m e t → Fits m e u
  fits_moved m (run c r) n p h = (h.0, h.1, n h.2)
  fits_moved m (opened r) n p h = (h.0, n h.1)
  fits_moved m (closed r) n p h = (h.0, n h.1)
  fits_moved m (placeholder a) n p h = record { position = h.position; space = h.space; tail = tail_moved m a.tail p h.tail }

-- WRITTEN: the join is the one and then the other
met_written : (e : Element) (fs : List Element) (t : List ℕ) → written_all (met e fs) t ≡ written e (written_all fs t)
met_written e [] t = refl
met_written (run c r) (run d s ∷ fs) t = ap (λ l. c ∷ l) (append_assoc r (d ∷ s) (written_all fs t))
met_written (opened r) (run d s ∷ fs) t = ap (λ l. 0x7B ∷ 0x7B ∷ l) (append_assoc r (d ∷ s) (written_all fs t))
met_written (closed r) (run d s ∷ fs) t = ap (λ l. 0x7D ∷ 0x7D ∷ l) (append_assoc r (d ∷ s) (written_all fs t))
met_written (placeholder a) (run d s ∷ fs) t = refl
met_written e (opened s ∷ fs) t = refl
met_written e (closed s ∷ fs) t = refl
met_written e (placeholder b ∷ fs) t = refl

pub joined_written : (es fs : List Element) (t : List ℕ) → written_all (joined es fs) t ≡ written_all es (written_all fs t)
joined_written [] fs t = refl
joined_written (e ∷ []) fs t = met_written e fs t
joined_written (e ∷ g ∷ es) fs t = ap (written e) (joined_written (g ∷ es) fs t)

-- FITS
all_append : (P : ℕ → Type 0) (r s : List ℕ) → All P r → All P s → All P (r ++ s)
all_append P [] s a b = b
all_append P (c ∷ r) s a b = (a.0, all_append P r s a.1 b)

-- what an element begins with does not go by what follows it
brace_same : (e : Element) (t u : List ℕ) → NextBrace (written e t) → NextBrace (written e u)
brace_same (run c r) t u h = h
brace_same (opened r) t u h = h
brace_same (closed r) t u h = h
brace_same (placeholder a) t u h = h

align_same : (e : Element) (t u : List ℕ) (a : Alignment) (v : List ℕ) → written e u ≡ align_char a ∷ v → (r : List ℕ) × (written e t ≡ align_char a ∷ r)
align_same (run c r) t u a v e = (r ++ t, ap (λ j. j ∷ (r ++ t)) (head e))
align_same (opened r) t u a v e = absurd (open_align a (head e))
align_same (closed r) t u a v e = absurd (close_align a (head e))
align_same (placeholder b) t u a v e = absurd (open_align a (head e))

met_fits : (m : Mode) (e : Element) (fs : List Element) → ((a : Alignment) (v : List ℕ) → written_all fs [] ≡ align_char a ∷ v → Blank m e → ⊥) →
    Fits m e [] → FitsAll m fs [] → FitsAll m (met e fs) []
met_fits m e [] p h k = (h, tt)
met_fits m (run c r) (run d s ∷ fs) p h k = ((h.0, all_append Plain r (d ∷ s) h.1 (k.0.0, k.0.1), k.0.2), k.1)
met_fits m (opened r) (run d s ∷ fs) p h k = ((all_append Plain r (d ∷ s) h.0 (k.0.0, k.0.1), k.0.2), k.1)
met_fits m (closed r) (run d s ∷ fs) p h k = ((all_append Plain r (d ∷ s) h.0 (k.0.0, k.0.1), k.0.2), k.1)
met_fits m (placeholder a) (run d s ∷ fs) p h k =
    (record { position = h.position; space = h.space; tail = tail_moved [] (written_all (run d s ∷ fs) []) m a.tail (λ b v e z. absurd (p b v e z)) h.tail }, k)
met_fits m e (opened s ∷ fs) p h k = (fits_moved [] (written_all (opened s ∷ fs) []) m e (λ _. inl refl) (λ b v q z. absurd (p b v q z)) h, k)
met_fits m e (closed s ∷ fs) p h k = (fits_moved [] (written_all (closed s ∷ fs) []) m e (λ _. inr refl) (λ b v q z. absurd (p b v q z)) h, k)
met_fits m e (placeholder b ∷ fs) p h k = (fits_moved [] (written_all (placeholder b ∷ fs) []) m e (λ _. inl refl) (λ b v q z. absurd (p b v q z)) h, k)

pub joined_fits : (m : Mode) (es fs : List Element) → Apart m es (written_all fs []) → FitsAll m es [] → FitsAll m fs [] → FitsAll m (joined es fs) []
joined_fits m [] fs p h k = k
joined_fits m (e ∷ []) fs p h k = met_fits m e fs p h.0 k
joined_fits m (e ∷ g ∷ es) fs p h k =
    let t : List ℕ = written_all es [] in
    let u : List ℕ = written_all es (written_all fs []) in
    let q = joined_written (g ∷ es) fs [] in
    let x : Fits m e (written g u) = fits_moved (written g t) (written g u) m e (brace_same g t u) (λ a v i z. align_same g t u a v i) h.0 in
    (rw q x, joined_fits m (g ∷ es) fs p h.1 k)
