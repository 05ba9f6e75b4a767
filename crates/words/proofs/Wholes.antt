-- The parts of a count, a piece and an error record are laid one after another, and so the whole of it is. Rests on Laying and Layout.
use Rattle.std.specs.Prelude.{Option}
use Prim.Native.Nat.{ℕ, ◌+◌, ◌≤◌}
use mathlib.Core.Path.{◌≡◌}
use mathlib.Core.List.{List}
use native.Mathlib.Omega.{arith}
use lib.ListN.{length}
use Rattle.frame.specs.declared.TextRange.{TextRange}
use Rattle.scan.specs.declared.Count.{Count}
use Rattle.placeholder.specs.declared.Argument.{Argument}
use Rattle.reading.specs.declared.ErrorRecord.{ErrorRecord}
use Rattle.words.specs.Laid.{laid}
use Rattle.words.specs.Layout.{low_of, four, none, bit_of, align_of, sign_of, hex_of, place_tag, place_words, fill_words, span_words, count_data, name_span_end, count_words, range_words, head_words, spec_words, argument_words, zeros, literal_words, error_words}
use Rattle.words.specs.LaidLaws.{fill_words_length, place_words_length, span_words_length, count_data_length, count_words_length, range_words_length, argument_words_length, zeros_length, literal_words_length, error_words_length}
use Rattle.words.proofs.Laying.{laying_first, laying_on, laying_last}
use Rattle.frame.specs.declared.Span.{Span}

module _ (l : List ℕ) (k : ℕ) where
  module _ (c : Count) (s : Option Span) (room : k + 8 ≤ length l) {l₁ l₂ : List ℕ} where
    pub count_laid : l₁ ≡ laid l k (count_data c) → l₂ ≡ laid l₁ (k + 4) (span_words (name_span_end c) s) → l₂ ≡ laid l k (count_words c s)
    count_laid w₁ w₂ =
        let a = laying_first l k (count_words c s) (omega (arith, count_words_length c s)) in
        let b = laying_on (count_data c) (k + 4) a w₁ (omega (arith, count_data_length c)) in
        laying_last b w₂

  module _ (room : k + 24 ≤ length l) {l₁ l₂ l₃ l₄ l₅ l₆ : List ℕ} where
    pub zeros_laid : l₁ ≡ laid l k none → l₂ ≡ laid l₁ (k + 4) none → l₃ ≡ laid l₂ (k + 8) none → l₄ ≡ laid l₃ (k + 12) none → l₅ ≡ laid l₄ (k + 16) none → l₆ ≡ laid l₅ (k + 20) none → l₆ ≡ laid l k zeros
    unfolding zeros
    zeros_laid w₁ w₂ w₃ w₄ w₅ w₆ =
        let a = laying_first l k zeros (omega (arith, zeros_length)) in
        let b = laying_on none (k + 4) a w₁ (omega arith) in
        let c = laying_on none (k + 8) b w₂ (omega arith) in
        let d = laying_on none (k + 12) c w₃ (omega arith) in
        let e = laying_on none (k + 16) d w₄ (omega arith) in
        let f = laying_on none (k + 20) e w₅ (omega arith) in
        laying_last f w₆

  module _ (r : TextRange) (room : k + 40 ≤ length l) {l₁ l₂ l₃ l₄ l₅ : List ℕ} where
    pub literal_laid : l₁ ≡ laid l k (head_words 0 r 0) → l₂ ≡ laid l₁ (k + 4) none → l₃ ≡ laid l₂ (k + 8) zeros → l₄ ≡ laid l₃ (k + 32) none → l₅ ≡ laid l₄ (k + 36) none → l₅ ≡ laid l k (literal_words r)
    unfolding literal_words
    literal_laid w₁ w₂ w₃ w₄ w₅ =
        let a = laying_first l k (literal_words r) (omega (arith, literal_words_length r)) in
        let b = laying_on (head_words 0 r 0) (k + 4) a w₁ (omega arith) in
        let c = laying_on none (k + 8) b w₂ (omega arith) in
        let d = laying_on zeros (k + 32) c w₃ (omega (arith, zeros_length)) in
        let e = laying_on none (k + 36) d w₄ (omega arith) in
        laying_last e w₅

  module _ (x : Argument) (room : k + 40 ≤ length l) {l₁ l₂ l₃ l₄ l₅ l₆ l₇ l₈ : List ℕ} where
    pub argument_laid : l₁ ≡ laid l k (head_words 1 x.range (place_tag x.place))
        → l₂ ≡ laid l₁ (k + 4) (place_words x.place x.placespan)
        → l₃ ≡ laid l₂ (k + 8) (fill_words x.spec.fill)
        → l₄ ≡ laid l₃ (k + 12) (four (align_of x.spec.align) (sign_of x.spec.sign) (bit_of x.spec.alternate) (bit_of x.spec.zero))
        → l₅ ≡ laid l₄ (k + 16) (count_words x.spec.width x.spec.widthspan)
        → l₆ ≡ laid l₅ (k + 24) (count_words x.spec.precision x.spec.precisionspan)
        → l₇ ≡ laid l₆ (k + 32) (four (low_of x.spec.typetext.start.0) (low_of x.spec.typetext.end.0) (hex_of x.spec.hex) 0)
        → l₈ ≡ laid l₇ (k + 36) (span_words 0 x.spec.typespan)
        → l₈ ≡ laid l k (argument_words x)
    unfolding argument_words spec_words
    argument_laid w₁ w₂ w₃ w₄ w₅ w₆ w₇ w₈ =
        let s = x.spec in
        let a = laying_first l k (argument_words x) (omega (arith, argument_words_length x)) in
        let b = laying_on (head_words 1 x.range (place_tag x.place)) (k + 4) a w₁ (omega arith) in
        let c = laying_on (place_words x.place x.placespan) (k + 8) b w₂ (omega (arith, place_words_length x.place x.placespan)) in
        let d = laying_on (fill_words s.fill) (k + 12) c w₃ (omega (arith, fill_words_length s.fill)) in
        let e = laying_on (four (align_of s.align) (sign_of s.sign) (bit_of s.alternate) (bit_of s.zero)) (k + 16) d w₄ (omega arith) in
        let f = laying_on (count_words s.width s.widthspan) (k + 24) e w₅ (omega (arith, count_words_length s.width s.widthspan)) in
        let g = laying_on (count_words s.precision s.precisionspan) (k + 32) f w₆ (omega (arith, count_words_length s.precision s.precisionspan)) in
        let h = laying_on (four (low_of s.typetext.start.0) (low_of s.typetext.end.0) (hex_of s.hex) 0) (k + 36) g w₇ (omega arith) in
        laying_last h w₈

  module _ (x : ErrorRecord) (room : k + 16 ≤ length l) {l₁ l₂ l₃ l₄ : List ℕ} where
    pub error_laid : l₁ ≡ laid l k (four x.kind (low_of x.span.start.0) (low_of x.span.end.0) (low_of x.piece))
        → l₂ ≡ laid l₁ (k + 4) (span_words 0 x.second)
        → l₃ ≡ laid l₂ (k + 8) (range_words x.quoted)
        → l₄ ≡ laid l₃ (k + 12) (span_words 0 x.suggestion)
        → l₄ ≡ laid l k (error_words x)
    unfolding error_words
    error_laid w₁ w₂ w₃ w₄ =
        let a = laying_first l k (error_words x) (omega (arith, error_words_length x)) in
        let b = laying_on (four x.kind (low_of x.span.start.0) (low_of x.span.end.0) (low_of x.piece)) (k + 4) a w₁ (omega arith) in
        let c = laying_on (span_words 0 x.second) (k + 8) b w₂ (omega (arith, span_words_length 0 x.second)) in
        let d = laying_on (range_words x.quoted) (k + 12) c w₃ (omega (arith, range_words_length x.quoted)) in
        laying_last d w₄
