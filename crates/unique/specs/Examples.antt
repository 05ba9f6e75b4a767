-- Worked readings, computed: the elements of nine texts, and seven texts that have none. Rests on grammar's Grammar, and on the parser of the proof.
use Rattle.std.specs.Prelude.{◌≡◌, refl, true, false, List, [], ◌∷◌, ℕ, suc, length}
use Rattle.std.proofs.Common.{ap, ◌∙◌, arith}
use Rattle.utf8.specs.Choice.{pick, within}
use Rattle.utf8.specs.Encode.{encode}
use Rattle.utf8.specs.Utf8.{sequence_of, sequence_at, valid, valid_prefix}
use Rattle.letters.specs.Questions.{is_space, is_start, is_continue}
use Rattle.letters.specs.Space.{space}
use Rattle.letters.specs.Start.{start}
use Rattle.letters.specs.Continue.{continue}
use Rattle.letters.specs.Table.{member}
use Rattle.scan.specs.Characters.{is_plain}
use Rattle.scan.specs.Words.{is_digit}
use Rattle.frame.specs.declared.Mode.{Mode}
use Rattle.grammar.specs.Grammar.{next, number, word, left, right, unaligned, aligned, filled, implied, fixed, by_argument, by_name, undotted, star, dot, lower, untyped, hex_debug, modifier, free_text, bare, colon, Element, opened, written_all, utf8, Reading}
use Rattle.grammar.specs.Cases.{held, format}
use Rattle.unique.specs.Device.Runs.{take_w, drop_w}
use Rattle.unique.specs.Device.Unique.{sound, none_reads}
use Rattle.unique.specs.Device.Stands.{stands_one}
use Rattle.unique.specs.Device.Bytes.{stands_in}
use Rattle.unique.specs.Device.Parser.{none, some, ok_number, ok_word, position_of, hash_word, raw_at, side, align_of, lead_of, sign_of, hash_of, zero_of, number_of, name_of, width_of, dot_of, precision_of, ok_debug, hex_of, typed_of, typing_of, format_of, modifier_of, spec_of, tail_of, inside_of, close_of, inside_step, open_step, close_step, step, more, parse}

-- elements are a reading of a text, by computing
has : (m : Mode) (t cs : List ℕ) (es : List Element) → utf8 cs ≡ t → parse m (suc (length cs)) cs ≡ some es → Reading m t es
has m t cs es u h = let r = sound m (suc (length cs)) cs es h in record { fits = r.fits; spelled = ap utf8 r.spelled ∙ u }

-- a text has no reading, by computing
lacks : (m : Mode) (t cs : List ℕ) → valid_prefix t ≡ length t → utf8 cs ≡ t → parse m (suc (length cs)) cs ≡ none → (es : List Element) → ¬ Reading m t es
lacks m t cs v u h es r =
    let q = stands_one t 0 (written_all es []) cs (stands_in t (written_all es []) v r.spelled) (stands_in t cs v u) in
    none_reads m (suc (length cs)) cs (omega arith) h es (record { spelled = q; fits = r.fits })

-- `{{a`, `{:.*}{}`, `{:0$}`, `{:0}`, `{65535}`, `{:}<}`, `{a:>7.b$x?}`, `{0:b }`, `{: b }`
pub readings :
    Reading Mode.Format (0x7B ∷ 0x7B ∷ 0x61 ∷ []) (opened (0x61 ∷ []) ∷ [])
    × Reading Mode.Format (0x7B ∷ 0x3A ∷ 0x2E ∷ 0x2A ∷ 0x7D ∷ 0x7B ∷ 0x7D ∷ []) (held next [] (format unaligned false implied star untyped) ∷ held next [] bare ∷ [])
    × Reading Mode.Format (0x7B ∷ 0x3A ∷ 0x30 ∷ 0x24 ∷ 0x7D ∷ []) (held next [] (format unaligned false (by_argument 0x30 []) undotted untyped) ∷ [])
    × Reading Mode.Format (0x7B ∷ 0x3A ∷ 0x30 ∷ 0x7D ∷ []) (held next [] (format unaligned true implied undotted untyped) ∷ [])
    × Reading Mode.Format (0x7B ∷ 0x36 ∷ 0x35 ∷ 0x35 ∷ 0x33 ∷ 0x35 ∷ 0x7D ∷ []) (held (number 0x36 (0x35 ∷ 0x35 ∷ 0x33 ∷ 0x35 ∷ [])) [] bare ∷ [])
    × Reading Mode.Format (0x7B ∷ 0x3A ∷ 0x7D ∷ 0x3C ∷ 0x7D ∷ []) (held next [] (format (filled 0x7D left) false implied undotted untyped) ∷ [])
    × Reading Mode.Format (0x7B ∷ 0x61 ∷ 0x3A ∷ 0x3E ∷ 0x37 ∷ 0x2E ∷ 0x62 ∷ 0x24 ∷ 0x78 ∷ 0x3F ∷ 0x7D ∷ []) (held (word 0x61 []) [] (format (aligned right) false (fixed 0x37 []) (dot (by_name 0x62 [])) (hex_debug lower)) ∷ [])
    × Reading Mode.InlineAsm (0x7B ∷ 0x30 ∷ 0x3A ∷ 0x62 ∷ 0x20 ∷ 0x7D ∷ []) (held (number 0x30 []) [] (colon (modifier 0x62 []) (0x20 ∷ [])) ∷ [])
    × Reading Mode.Diagnostic (0x7B ∷ 0x3A ∷ 0x20 ∷ 0x62 ∷ 0x20 ∷ 0x7D ∷ []) (held next [] (colon (free_text (0x20 ∷ 0x62 ∷ 0x20 ∷ [])) []) ∷ [])
unfolding utf8 encode valid_prefix valid sequence_at sequence_of is_space is_start is_continue space start continue member within pick is_plain is_digit take_w drop_w ok_number ok_word position_of hash_word raw_at side align_of lead_of sign_of hash_of zero_of number_of name_of width_of dot_of precision_of ok_debug hex_of typed_of typing_of format_of modifier_of spec_of tail_of inside_of close_of inside_step open_step close_step step more parse
readings = (
  has _ _ (0x7B ∷ 0x7B ∷ 0x61 ∷ []) _ refl refl,
  has _ _ (0x7B ∷ 0x3A ∷ 0x2E ∷ 0x2A ∷ 0x7D ∷ 0x7B ∷ 0x7D ∷ []) _ refl refl,
  has _ _ (0x7B ∷ 0x3A ∷ 0x30 ∷ 0x24 ∷ 0x7D ∷ []) _ refl refl,
  has _ _ (0x7B ∷ 0x3A ∷ 0x30 ∷ 0x7D ∷ []) _ refl refl,
  has _ _ (0x7B ∷ 0x36 ∷ 0x35 ∷ 0x35 ∷ 0x33 ∷ 0x35 ∷ 0x7D ∷ []) _ refl refl,
  has _ _ (0x7B ∷ 0x3A ∷ 0x7D ∷ 0x3C ∷ 0x7D ∷ []) _ refl refl,
  has _ _ (0x7B ∷ 0x61 ∷ 0x3A ∷ 0x3E ∷ 0x37 ∷ 0x2E ∷ 0x62 ∷ 0x24 ∷ 0x78 ∷ 0x3F ∷ 0x7D ∷ []) _ refl refl,
  has _ _ (0x7B ∷ 0x30 ∷ 0x3A ∷ 0x62 ∷ 0x20 ∷ 0x7D ∷ []) _ refl refl,
  has _ _ (0x7B ∷ 0x3A ∷ 0x20 ∷ 0x62 ∷ 0x20 ∷ 0x7D ∷ []) _ refl refl,
)

-- `}`, `{65536}`, `{:_}`, `{:x5}`, `{:}<`, `{a.b}`, `{r#a}`
pub no_readings :
    ((es : List Element) → ¬ Reading Mode.Format (0x7D ∷ []) es)
    × ((es : List Element) → ¬ Reading Mode.Format (0x7B ∷ 0x36 ∷ 0x35 ∷ 0x35 ∷ 0x33 ∷ 0x36 ∷ 0x7D ∷ []) es)
    × ((es : List Element) → ¬ Reading Mode.Format (0x7B ∷ 0x3A ∷ 0x5F ∷ 0x7D ∷ []) es)
    × ((es : List Element) → ¬ Reading Mode.Format (0x7B ∷ 0x3A ∷ 0x78 ∷ 0x35 ∷ 0x7D ∷ []) es)
    × ((es : List Element) → ¬ Reading Mode.Format (0x7B ∷ 0x3A ∷ 0x7D ∷ 0x3C ∷ []) es)
    × ((es : List Element) → ¬ Reading Mode.Format (0x7B ∷ 0x61 ∷ 0x2E ∷ 0x62 ∷ 0x7D ∷ []) es)
    × ((es : List Element) → ¬ Reading Mode.Format (0x7B ∷ 0x72 ∷ 0x23 ∷ 0x61 ∷ 0x7D ∷ []) es)
unfolding utf8 encode valid_prefix valid sequence_at sequence_of is_space is_start is_continue space start continue member within pick is_plain is_digit take_w drop_w ok_number ok_word position_of hash_word raw_at side align_of lead_of sign_of hash_of zero_of number_of name_of width_of dot_of precision_of ok_debug hex_of typed_of typing_of format_of modifier_of spec_of tail_of inside_of close_of inside_step open_step close_step step more parse
no_readings = (
  lacks _ _ (0x7D ∷ []) refl refl refl,
  lacks _ _ (0x7B ∷ 0x36 ∷ 0x35 ∷ 0x35 ∷ 0x33 ∷ 0x36 ∷ 0x7D ∷ []) refl refl refl,
  lacks _ _ (0x7B ∷ 0x3A ∷ 0x5F ∷ 0x7D ∷ []) refl refl refl,
  lacks _ _ (0x7B ∷ 0x3A ∷ 0x78 ∷ 0x35 ∷ 0x7D ∷ []) refl refl refl,
  lacks _ _ (0x7B ∷ 0x3A ∷ 0x7D ∷ 0x3C ∷ []) refl refl refl,
  lacks _ _ (0x7B ∷ 0x61 ∷ 0x2E ∷ 0x62 ∷ 0x7D ∷ []) refl refl refl,
  lacks _ _ (0x7B ∷ 0x72 ∷ 0x23 ∷ 0x61 ∷ 0x7D ∷ []) refl refl refl,
)
