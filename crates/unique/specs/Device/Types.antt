-- The type of a Format spec, and the words that are a type, where codes stand. Rests on Words.
use Rattle.std.specs.Prelude.{◌≡◌, Bool, not, eqb, length, Option, None}
use Rattle.std.proofs.Math.Path.{refl}
use Rattle.std.proofs.Common.{ap, ◌∙◌, arith}
use mathlib.Core.List.{List, [], ◌∷◌}
use Rattle.std.proofs.Math.Bool.{true, false}
use Prim.Native.Nat.{ℕ, ◌+◌, ◌<◌}
use Rattle.utf8.specs.Choice.{pick}
use Rattle.letters.specs.Questions.{is_start, is_continue}
use Rattle.frame.specs.Places.{place, range_of}
use Rattle.frame.specs.declared.TextPlace.{TextPlace}
use Rattle.frame.specs.declared.TextRange.{TextRange}
use Rattle.frame.specs.declared.Frame.{Frame}
use Rattle.scan.specs.declared.Flaw.{Flaw}
use Rattle.placeholder.specs.Types.{hex_type, is_hex_or_hash, debug_type, word_type, type_read}
use Rattle.placeholder.specs.declared.Hex.{Hex}
use Rattle.placeholder.specs.declared.format.TypeRead.{TypeRead}
use Rattle.grammar.specs.Grammar.{Letter, lower, upper, Typing, untyped, debug}
use Rattle.grammar.specs.Pieces.{size, bytes, bytes_at, present, letter_of, type_text, type_span, hex_of as hexRecord}
use Rattle.unique.specs.Device.Runs.{case_b, take_w, drop_w, Stops}
use Rattle.unique.specs.Device.Parser.{Got, got, ok_word, ok_debug, hex_of, typed_of, typing_of}
use Rattle.unique.specs.Device.Stands.{Stands, is_at_lem, consume_yes, consume_no, past_ascii}
use Rattle.unique.specs.Device.Spans.{between_present}
use Rattle.unique.specs.Device.Words.{flawless, clean_pick, empty, not_empty, past_word, word_none, word_of, word_some}
use Rattle.frame.specs.declared.Span.{Span}

module _ (t : List ℕ) (f : Frame) where
  pub record TypingSame (at : TextPlace) (g : Got Typing) (r : TypeRead) : Type 0 where
    pub stands : Stands t r.at.0 g.rest
    pub clean : flawless r.flaw ≡ g.ok
    pub hex : r.hex ≡ hexRecord g.val
    pub typetext : r.typetext ≡ type_text at.0 g.val
    pub span : r.at.0 < length t → r.span ≡ type_span f.quote at.0 g.val

  -- `x`, `X`, `x?`, `X?`
  two_on : (i : ℕ) → bytes (i + 1) (i + 1 + 1) ≡ bytes (i + 1) (i + 2)
  two_on i = let e : i + 1 + 1 ≡ i + 2 = omega arith in ap (λ j. bytes (i + 1) j) e

  hex_same : (at : TextPlace) (x : Letter) (cs : List ℕ) → Stands t (at.0 + 1) cs →
      TypingSame at (hex_of x cs) (hex_type t (letter_of x) at (place (at.0 + 1)))
  unfolding hex_of hex_type pick
  hex_same at x [] h =
      rw (consume_no t (place (at.0 + 1)) 0x3F [] h refl) (record { stands = h; clean = refl; hex = refl; typetext = refl; span = λ l. refl })
  hex_same at x (c ∷ cs) h =
      let p : TextPlace = place (at.0 + 1) in
      case_b (eqb c 0x3F)
      (λ k.
      rw (consume_yes t p 0x3F (c ∷ cs) h k, k, hex_of)
      (record { stands = past_ascii t (at.0 + 1) 0x3F c cs (omega arith) h k; clean = refl; hex = refl; typetext = two_on at.0; span = λ l. refl }))
      (λ k. rw (consume_no t p 0x3F (c ∷ cs) h k, k, hex_of) (record { stands = h; clean = refl; hex = refl; typetext = refl; span = λ l. refl }))

  -- `?`
  clean_not : (b : Bool) (x : Flaw) → flawless x ≡ false → flawless (pick b x Flaw.Clean) ≡ not b
  unfolding pick
  clean_not true x h = h
  clean_not false x h = refl

  hex_or_hash : (at : TextPlace) (cs : List ℕ) → Stands t at.0 cs → not (is_hex_or_hash t at) ≡ ok_debug cs
  unfolding is_hex_or_hash ok_debug pick
  hex_or_hash at [] h = rw (is_at_lem t at 0x23 [] h, is_at_lem t at 0x78 [] h, is_at_lem t at 0x58 [] h)
  hex_or_hash at (c ∷ cs) h =
      rw (is_at_lem t at 0x23 (c ∷ cs) h, is_at_lem t at 0x78 (c ∷ cs) h, is_at_lem t at 0x58 (c ∷ cs) h)
      (case_b (eqb c 0x23) (λ k. rw k) (λ k. rw k (case_b (eqb c 0x78) (λ l. rw l) (λ l. rw l))))

  debug_same : (at : TextPlace) (cs : List ℕ) → Stands t (at.0 + 1) cs → TypingSame at (got debug cs (ok_debug cs)) (debug_type t at (place (at.0 + 1)))
  unfolding debug_type
  debug_same at cs h =
      let p : TextPlace = place (at.0 + 1) in
      record { stands = h; clean = clean_not (is_hex_or_hash t p) (Flaw.AfterDebug at) refl ∙ hex_or_hash p cs h; hex = refl; typetext = refl; span = λ l. refl }

  -- a word, or nothing
  pub record WordSame (range : TextRange) (s : Option Span) (u : List ℕ) (b : Bool) (x : TypeRead) : Type 0 where
    pub stands : Stands t x.at.0 u
    pub clean : flawless x.flaw ≡ b
    pub hex : x.hex ≡ Hex.Absent
    pub typetext : x.typetext ≡ range
    pub span : x.at.0 < length t → x.span ≡ s

  pub type_none_lem : (at : TextPlace) (cs : List ℕ) → Stands t at.0 cs → Stops is_start cs →
      WordSame (bytes at.0 at.0) None cs true (word_type t f at)
  unfolding word_type pick
  type_none_lem at cs h s = rw (word_none t at cs h s, empty at) (record { stands = h; clean = refl; hex = refl; typetext = refl; span = λ l. refl })

  pub type_some : (at : TextPlace) (c : ℕ) (cs : List ℕ) → Stands t at.0 (c ∷ cs) → is_start c ≡ true →
      let r = c ∷ take_w is_continue cs in
      WordSame (bytes_at at.0 r) (present f.quote at.0 (at.0 + size r)) (drop_w is_continue cs) (ok_word c (take_w is_continue cs)) (word_type t f at)
  unfolding word_type word_of pick
  type_some at c cs h s =
      let r : List ℕ = take_w is_continue cs in
      let e : TextPlace = place (at.0 + size (c ∷ r)) in
      rw (word_some t at c cs h s, not_empty at c r)
      (record {
        stands = past_word t at is_continue c cs h;
        clean = clean_pick (ok_word c r) (Flaw.Underscore (range_of at e)) refl;
        hex = refl;
        typetext = refl;
        span = between_present t f at e e.0 refl (omega arith);
      })

  no_type : (at : TextPlace) (cs : List ℕ) → Stands t at.0 cs → Stops is_start cs → TypingSame at (got untyped cs true) (word_type t f at)
  no_type at cs h s = let x = type_none_lem at cs h s in record { stands = x.stands; clean = x.clean; hex = x.hex; typetext = x.typetext; span = x.span }

  typed_same : (at : TextPlace) (cs : List ℕ) → Stands t at.0 cs → TypingSame at (typed_of cs) (word_type t f at)
  unfolding typed_of
  typed_same at [] h = no_type at [] h tt
  typed_same at (c ∷ cs) h =
      case_b (is_start c)
      (λ k.
      let s = type_some at c cs h k in
      rw (k, typed_of) (record { stands = s.stands; clean = s.clean; hex = s.hex; typetext = s.typetext; span = s.span }))
      (λ k. rw (k, typed_of) (no_type at (c ∷ cs) h k))

  pub typing_same : (at : TextPlace) (cs : List ℕ) → Stands t at.0 cs → TypingSame at (typing_of cs) (type_read t f at)
  unfolding typing_of typed_of type_read pick
  typing_same at [] h =
      rw (consume_no t at 0x78 [] h refl, consume_no t at 0x58 [] h refl, consume_no t at 0x3F [] h refl) (no_type at [] h tt)
  typing_same at (c ∷ cs) h =
      let us = c ∷ cs in
      case_b (eqb c 0x78)
      (λ k. rw (consume_yes t at 0x78 us h k, k, typing_of) (hex_same at lower cs (past_ascii t at.0 0x78 c cs (omega arith) h k)))
      (λ k.
      case_b (eqb c 0x58)
      (λ l.
      rw (consume_no t at 0x78 us h k, consume_yes t at 0x58 us h l, k, l, typing_of)
      (hex_same at upper cs (past_ascii t at.0 0x58 c cs (omega arith) h l)))
      (λ l.
      case_b (eqb c 0x3F)
      (λ m.
      rw (consume_no t at 0x78 us h k, consume_no t at 0x58 us h l, consume_yes t at 0x3F us h m, k, l, m, typing_of)
      (debug_same at cs (past_ascii t at.0 0x3F c cs (omega arith) h m)))
      (λ m.
      rw (consume_no t at 0x78 us h k, consume_no t at 0x58 us h l, consume_no t at 0x3F us h m, k, l, m, typing_of)
      (typed_same at us h))))
