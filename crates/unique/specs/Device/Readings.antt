-- The theorems on readings: no error exactly where there is one, only one, and the pieces are it. Rests on Whole, Bytes and Unique.
use Rattle.std.specs.Prelude.{◌≡◌, refl, List, [], ◌∷◌, ℕ, ◌+◌, ◌≤◌, ◌<◌, length}
use Rattle.std.proofs.Common.{ap, ◌∙◌, arith}
use Rattle.utf8.specs.Utf8.{valid_prefix}
use Rattle.frame.specs.declared.Frame.{Frame}
use Rattle.frame.specs.declared.Mode.{Mode}
use Rattle.reading.specs.Steps.{start, reading}
use Rattle.reading.specs.Faults.{faults_of}
use Rattle.reading.specs.Lists.{gather, pieces, errors}
use Rattle.grammar.specs.Grammar.{Element, written_all, utf8, Reading}
use Rattle.grammar.specs.Pieces.{size, pieces_of}
use Rattle.unique.specs.Device.Parser.{Answer, none, some, parse}
use Rattle.unique.specs.Device.Unique.{sound, complete, unique}
use Rattle.unique.specs.Device.Stands.{wide_some, Stands, stands_size, stands_one}
use Rattle.unique.specs.Device.Whole.{Whole, errors_faults, faults_errors, whole}
use Rattle.unique.specs.Device.Bytes.{stands_in, codes, codes_text}

-- codes are no more than their bytes
few : (cs : List ℕ) → length cs ≤ size cs
unfolding size
few [] = omega arith
few (c ∷ cs) = omega (arith, few cs, wide_some c)

module _ (t : List ℕ) (f : Frame) (m : Mode) where
  enough : (cs : List ℕ) → Stands t 0 cs → length cs < length t + 1
  enough cs h = omega (arith, few cs, stands_size t 0 cs h)

  -- the whole reading beside the parser's answer
  beside : (cs : List ℕ) → Stands t 0 cs → Whole f.quote start (parse m (length t + 1) cs) (reading t f m)
  unfolding reading
  beside cs h = whole t f m (length t + 1) start cs h (enough cs h)

  module _ (v : valid_prefix t ≡ length t) where
    -- NO ERROR: there is a reading
    found : (a : Answer) → parse m (length t + 1) (codes t) ≡ a → Whole f.quote start a (reading t f m) →
        gather faults_of (reading t f m) ≡ [] →
        (es : List Element) × Reading m t es
    found none e w h = absurd (w h)
    found (some es) e w h =
        let r = sound m (length t + 1) (codes t) es e in
        (es, record { fits = r.fits; spelled = ap utf8 r.spelled ∙ codes_text t v })

    pub has_reading : errors t f m ≡ [] → (es : List Element) × Reading m t es
    has_reading h =
        found (parse m (length t + 1) (codes t)) refl (beside (codes t) (stands_in t (codes t) v (codes_text t v))) (errors_faults t f m h)

    -- A READING: no error, and the pieces are it
    read_whole : (es : List Element) → Reading m t es → Whole f.quote start (some es) (reading t f m)
    read_whole es r =
        let cs : List ℕ = written_all es [] in
        let h = stands_in t cs v r.spelled in
        let e = complete m (length t + 1) es r.fits (enough cs h) in
        rw e at (beside cs h)

    pub no_error : (es : List Element) → Reading m t es → errors t f m ≡ []
    no_error es r = faults_errors t f m (read_whole es r).0

    pub its_pieces : (es : List Element) → Reading m t es → pieces t f m ≡ pieces_of f.quote 0 0 es
    unfolding pieces
    its_pieces es r = (read_whole es r).1

-- ONLY ONE
pub only_one : (t : List ℕ) (m : Mode) → valid_prefix t ≡ length t → (es fs : List Element) → Reading m t es → Reading m t fs → es ≡ fs
only_one t m v es fs r s =
    let cs : List ℕ = written_all es [] in
    let q = stands_one t 0 (written_all fs []) cs (stands_in t (written_all fs []) v s.spelled) (stands_in t cs v r.spelled) in
    unique m cs es fs (record { spelled = refl; fits = r.fits }) (record { spelled = q; fits = s.fits })
