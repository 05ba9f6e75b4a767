-- UTF-8: the sequence that four bytes begin with, the character at a place, and the longest valid prefix, for any bytes. Rests on Choice.
use Rattle.std.specs.Prelude.{ℕ, zero, suc, pred, ◌+◌, ◌-◌, ◌*◌, List, [], ◌∷◌, ltb, eqb, get_or, drop, Option, Some, None}
use Rattle.utf8.specs.Choice.{pick, within}
use Rattle.utf8.specs.declared.Sequence.{Sequence}
use Rattle.utf8.specs.declared.Char.{Char}

-- the least second byte after the first byte b
unfoldable pub low : ℕ → ℕ
low b = pick (eqb b 0xE0) 0xA0 (pick (eqb b 0xF0) 0x90 0x80)

-- the greatest second byte after the first byte b
unfoldable pub high : ℕ → ℕ
high b = pick (eqb b 0xED) 0x9F (pick (eqb b 0xF4) 0x8F 0xBF)

-- a sequence of its code and its width in bytes
abbrev pub seq : ℕ → ℕ → Sequence
seq c w = record { code = c; width = w }

-- the code of two bytes
abbrev pub code2 : ℕ → ℕ → ℕ
code2 b c = (b - 0xC0) * 64 + (c - 0x80)

-- the code of three bytes
abbrev pub code3 : ℕ → ℕ → ℕ → ℕ
code3 b c d = (b - 0xE0) * 4096 + (c - 0x80) * 64 + (d - 0x80)

-- the code of four bytes
abbrev pub code4 : ℕ → ℕ → ℕ → ℕ → ℕ
code4 b c d e = (b - 0xF0) * 262144 + (c - 0x80) * 4096 + (d - 0x80) * 64 + (e - 0x80)

-- the well-formed sequence that b c d e begin with; width 0: none (R3.1)
unfoldable pub sequence_of : ℕ → ℕ → ℕ → ℕ → Sequence
sequence_of b c d e =
    pick (ltb b 0x80) (seq b 1)
    (pick (ltb b 0xC2) (seq 0 0)
    (pick (within c (low b) (high b))
    (pick (ltb b 0xE0) (seq (code2 b c) 2)
    (pick (within d 0x80 0xBF)
    (pick (ltb b 0xF0) (seq (code3 b c d) 3)
    (pick (within e 0x80 0xBF) (pick (ltb b 0xF5) (seq (code4 b c d e) 4) (seq 0 0)) (seq 0 0)))
    (seq 0 0)))
    (seq 0 0)))

-- the well-formed sequence at the start of a list of bytes; width 0: none
unfoldable pub sequence_at : List ℕ → Sequence
sequence_at [] = seq 0 0
sequence_at (b ∷ r) = sequence_of b (get_or r 0 0) (get_or r 1 0) (get_or r 2 0)

-- a character by its code and its width
abbrev pub char : ℕ → ℕ → Char
char c w = record { code = c; width = w }

-- a sequence as a character: where there is none it is U+FFFD, one byte wide (R3.2)
unfoldable pub char_of : Sequence → Option Char
char_of s = pick (eqb s.width 0) (Some (char 0xFFFD 1)) (Some (char s.code s.width))

-- the character at the start of a list of bytes
unfoldable pub decode : List ℕ → Option Char
decode [] = None
decode (b ∷ r) = char_of (sequence_at (b ∷ r))

-- the character at place i of a text (R3.2)
unfoldable pub peek_at : List ℕ → ℕ → Option Char
peek_at t i = decode (drop i t)

-- how many bytes from the start are well-formed sequences, where the first k bytes belong to the sequence before
unfoldable pub valid : ℕ → List ℕ → ℕ
valid k [] = 0
valid zero (b ∷ r) = pick (eqb (sequence_at (b ∷ r)).width 0) 0 ((sequence_at (b ∷ r)).width + valid (pred (sequence_at (b ∷ r)).width) r)
valid (suc k) (b ∷ r) = valid k r

-- the length of the longest prefix that is well-formed (R1.5, R3.1)
unfoldable pub valid_prefix : List ℕ → ℕ
valid_prefix t = valid 0 t
