-- Worked cases, each by computing, for any buffer that fits: a letter cut in two, a part of no bytes, a byte that is none, and a part that passes the
-- limit, with the one after it and the finish. Rests on Parts and Finishes.
use Rattle.std.specs.Prelude.{ℕ, ◌≡◌, refl, true, false, length, List, [], ◌∷◌, ◌++◌, None}
use Rattle.utf8.specs.Choice.{pick, within}
use Rattle.utf8.specs.Utf8.{low, high, sequence_of, sequence_at, valid}
use Rattle.utf8.specs.Utf8Laws.{valid_end}
use Rattle.pen.specs.Pens.{over}
use Rattle.uploads.specs.declared.Upload.{Upload}
use Rattle.reading.specs.Answers.{is_long}
use Rattle.reading.specs.Cases.{ask, rooms}
use Rattle.laws.specs.Deciding.{refused_as, early_number, late_answer}
use Rattle.uploads.specs.Finishes.{finish_answer}
use Rattle.uploads.specs.Parts.{nothing, is_unfit, is_too_much, grown, part_state, part_buffer, Held, held}

-- so many bytes taken, up to this place UTF-8
abbrev at : ℕ → ℕ → Upload
at count valid = record { count = count; valid = valid; over = false }

-- the limit: the 65,535th byte is taken and one more is not, and a part of no bytes never is too much
pub limits :
    (is_too_much (at 65534 0) (0x61 ∷ []) ≡ false) ×
    (is_too_much (at 65534 0) (0x61 ∷ 0x61 ∷ []) ≡ true) ×
    (is_too_much (at 65535 0) (0x61 ∷ []) ≡ true) ×
    (is_too_much (at 65535 0) [] ≡ false)
unfolding is_too_much
limits = (refl, refl, refl, refl)

-- 16: a count beyond the buffer, and a buffer that is too small
pub unfit : (is_unfit (at 1 0) [] ≡ true) × (is_unfit nothing (0 ∷ 0 ∷ []) ≡ true)
unfolding is_unfit
unfit = (refl, refl)

-- one byte less than the limit is too small, and the limit is not
pub by_one : (b c : List ℕ) → length b ≡ 65534 → length c ≡ 65535 → (is_unfit nothing b ≡ true) × (is_unfit nothing c ≡ false)
unfolding is_unfit
by_one b c e g = rw (e, g) (refl, refl)

-- what a part leaves, the buffer with it
abbrev pub left : Upload → List ℕ → List ℕ → Held
left u b p = held (part_state u b p) (part_buffer u b p)

module _ (rest : List ℕ) where
  abbrev buffer : List ℕ → List ℕ
  buffer first = first ++ rest

  -- `a` and the first byte of ø: the check stands before it
  pub cut : is_unfit nothing (buffer (0 ∷ 0 ∷ 0 ∷ 0 ∷ [])) ≡ false →
      left nothing (buffer (0 ∷ 0 ∷ 0 ∷ 0 ∷ [])) (0x61 ∷ 0xC3 ∷ []) ≡ held (at 2 1) (buffer (0x61 ∷ 0xC3 ∷ 0 ∷ 0 ∷ []))
  unfolding part_state part_buffer grown is_too_much valid_end valid sequence_at sequence_of within low high over pick
  cut f = rw f

  -- a part of no bytes
  pub empty : is_unfit (at 2 1) (buffer (0x61 ∷ 0xC3 ∷ 0 ∷ 0 ∷ [])) ≡ false →
      left (at 2 1) (buffer (0x61 ∷ 0xC3 ∷ 0 ∷ 0 ∷ [])) [] ≡ held (at 2 1) (buffer (0x61 ∷ 0xC3 ∷ 0 ∷ 0 ∷ []))
  unfolding part_state part_buffer grown is_too_much valid_end valid sequence_at sequence_of within low high over pick
  empty f = rw f

  -- its second byte: the check is past the letter
  pub whole : is_unfit (at 2 1) (buffer (0x61 ∷ 0xC3 ∷ 0 ∷ 0 ∷ [])) ≡ false →
      left (at 2 1) (buffer (0x61 ∷ 0xC3 ∷ 0 ∷ 0 ∷ [])) (0xB8 ∷ []) ≡ held (at 3 3) (buffer (0x61 ∷ 0xC3 ∷ 0xB8 ∷ 0 ∷ []))
  unfolding part_state part_buffer grown is_too_much valid_end valid sequence_at sequence_of within low high over pick
  whole f = rw f

  -- another byte there: it stays where it stood
  pub broken : is_unfit (at 2 1) (buffer (0x61 ∷ 0xC3 ∷ 0 ∷ 0 ∷ [])) ≡ false →
      left (at 2 1) (buffer (0x61 ∷ 0xC3 ∷ 0 ∷ 0 ∷ [])) (0x61 ∷ []) ≡ held (at 3 1) (buffer (0x61 ∷ 0xC3 ∷ 0x61 ∷ 0 ∷ []))
  unfolding part_state part_buffer grown is_too_much valid_end valid sequence_at sequence_of within low high over pick
  broken f = rw f

  -- a part that passes the limit writes nothing and is remembered, and one that would fit is ignored then
  pub passed : is_unfit (at 65535 3) rest ≡ false → left (at 65535 3) rest (0x61 ∷ []) ≡ held (record { count = 65535; valid = 3; over = true }) rest
  unfolding part_state part_buffer is_too_much pick
  passed f = rw f

  -- the finish says so, and 1 and 2 before it
  pub finished : is_unfit (record { count = 0; valid = 0; over = true }) rest ≡ false →
      (finish_answer (record { count = 0; valid = 0; over = true }) rest [] (ask 0 None false false) (rooms 0 0 0 0) ≡ refused_as 3 0) ×
      (finish_answer (record { count = 0; valid = 0; over = true }) rest [] (ask 3 None true false) (rooms 0 0 0 0) ≡ refused_as 1 0) ×
      (finish_answer (record { count = 0; valid = 0; over = true }) rest [] (ask 0 None true false) (rooms 0 0 0 0) ≡ refused_as 2 0)
  unfolding finish_answer early_number late_answer is_long pick
  finished f = (rw f, rw f, rw f)

  pub ignored : is_unfit (record { count = 3; valid = 3; over = true }) rest ≡ false →
      left (record { count = 3; valid = 3; over = true }) rest (0x61 ∷ []) ≡ held (record { count = 3; valid = 3; over = true }) rest
  unfolding part_state part_buffer pick
  ignored f = rw f
