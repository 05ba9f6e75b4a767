-- The grammar theorem over codes: the parser's answer is a reading, and every reading is the parser's answer. Rests on Made and Given.
use Rattle.std.specs.Prelude.{◌≡◌, refl, List, [], ◌∷◌, ℕ, zero, suc, ◌<◌, length}
use Rattle.std.proofs.Common.{ap, sym, ◌∙◌, length-append, arith}
use Rattle.frame.specs.declared.Mode.{Mode}
use Rattle.grammar.specs.Grammar.{Element, written, written_all, FitsAll}
use Rattle.unique.specs.Device.Parser.{Step, piece, done, wrong, step, Answer, none, some, more, parse}
use Rattle.unique.specs.Device.Made.{Good, step_made, step_done}
use Rattle.unique.specs.Device.Given.{step_given}
use Rattle.unique.specs.Device.Splits.{split, some_written}

-- by cases on a step
pub case_s : {P : Type 0} (s : Step) → ((e : Element) (t : List ℕ) → s ≡ piece e t → P) → (s ≡ done → P) → (s ≡ wrong → P) → P
case_s (piece e t) f g h = f e t refl
case_s done f g h = g refl
case_s wrong f g h = h refl

-- an element is not empty
pub shorter : (e : Element) (t : List ℕ) → length t < length (written e t)
shorter e t = rw (split e t) (simp length-append (omega (arith, some_written e)))

pub step_shorter : (m : Mode) (cs : List ℕ) {e : Element} {t : List ℕ} → step m cs ≡ piece e t → length t < length cs
step_shorter m cs {e} {t} q = rw (step_made m cs q).spelled at (shorter e t)

-- the equations of the parser
pub parse_piece : (m : Mode) (k : ℕ) (cs : List ℕ) {e : Element} {t : List ℕ} → step m cs ≡ piece e t → parse m (suc k) cs ≡ more e (parse m k t)
unfolding parse
parse_piece m k cs q = rw (q, parse)

pub parse_done : (m : Mode) (k : ℕ) (cs : List ℕ) → step m cs ≡ done → parse m (suc k) cs ≡ some []
unfolding parse
parse_done m k cs q = rw (q, parse)

pub parse_wrong : (m : Mode) (k : ℕ) (cs : List ℕ) → step m cs ≡ wrong → parse m (suc k) cs ≡ none
unfolding parse
parse_wrong m k cs q = rw (q, parse)

-- a reading of codes
pub record Reads (m : Mode) (cs : List ℕ) (es : List Element) : Type 0 where
  pub spelled : written_all es [] ≡ cs
  pub fits : FitsAll m es []

none_some : {es : List Element} → none ≡ some es → ⊥
none_some h = let z : ◌≡◌ {A = ℕ} 0 1 = cc in omega arith

some_some : {es fs : List Element} → some es ≡ some fs → es ≡ fs
some_some h = cc

-- SOUND: what the parser gives is a reading
more_sound : (m : Mode) (cs : List ℕ) (e : Element) (t : List ℕ) (a : Answer) → Good m cs e t → ((fs : List Element) → a ≡ some fs → Reads m t fs) →
    (es : List Element) → more e a ≡ some es → Reads m cs es
unfolding more
more_sound m cs e t none g r es h = absurd (none_some h)
more_sound m cs e t (some fs) g r es h =
    let f = r fs refl in
    rw (← (some_some h)) (record { spelled = rw f.spelled g.spelled; fits = (rw f.spelled g.fits, f.fits) })

pub sound : (m : Mode) (k : ℕ) (cs : List ℕ) (es : List Element) → parse m k cs ≡ some es → Reads m cs es
unfolding parse
sound m zero cs es h = absurd (none_some h)
sound m (suc k) cs es h =
    case_s (step m cs)
    (λ e t q. more_sound m cs e t (parse m k t) (step_made m cs q) (λ fs p. sound m k t fs p) es (sym (parse_piece m k cs q) ∙ h))
    (λ q. rw (← (some_some (sym (parse_done m k cs q) ∙ h))) (record { spelled = sym (step_done m cs q); fits = tt }))
    (λ q. absurd (none_some (sym (parse_wrong m k cs q) ∙ h)))

-- COMPLETE: every reading is what the parser gives
pub complete : (m : Mode) (k : ℕ) (es : List Element) → FitsAll m es [] → length (written_all es []) < k → parse m k (written_all es []) ≡ some es
unfolding parse step more
complete m zero es f h = absurd (omega arith)
complete m (suc k) [] f h = refl
complete m (suc k) (e ∷ es) f h =
    let t : List ℕ = written_all es [] in
    parse_piece m k (written e t) (step_given m e t f.0) ∙ ap (more e) (complete m k es f.1 (omega (arith, shorter e t)))

pub reads_parse : (m : Mode) (k : ℕ) (cs : List ℕ) (es : List Element) → length cs < k → Reads m cs es → parse m k cs ≡ some es
reads_parse m k cs es h r = rw (← r.spelled) (complete m k es r.fits (rw r.spelled h))

pub none_reads : (m : Mode) (k : ℕ) (cs : List ℕ) → length cs < k → parse m k cs ≡ none → (es : List Element) → ¬ Reads m cs es
none_reads m k cs h q es r = none_some (sym q ∙ reads_parse m k cs es h r)

-- ONLY ONE: two readings are one
pub unique : (m : Mode) (cs : List ℕ) (es fs : List Element) → Reads m cs es → Reads m cs fs → es ≡ fs
unique m cs es fs r s =
    let k : ℕ = suc (length cs) in
    some_some (sym (reads_parse m k cs es (omega arith) r) ∙ reads_parse m k cs fs (omega arith) s)
