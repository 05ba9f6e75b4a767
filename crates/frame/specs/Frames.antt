-- The frame of a reading: the quote offset, the source literal and "end", as document 01's section "Spans" has them.
-- Rests on the choice by a test of `utf8`.
use Rattle.std.specs.Prelude.{ℕ, ◌+◌, ◌-◌, Bool, true, false, List, [], ◌∷◌, ◌++◌, length, take, replicate, eqb, Option, Some, None}
use Prim.Native.Char.{code}
use Rattle.utf8.specs.Choice.{pick, both}
use Rattle.frame.specs.declared.Frame.{Frame}
use Rattle.frame.specs.Places.{snippet}

-- how many hashes a style has
abbrev pub hashes_of : Option ℕ → ℕ
hashes_of None = 0
hashes_of (Some h) = h

-- "q is 1 with no style, hashes+2 with one" (R6.2)
abbrev pub quote_offset : Option ℕ → ℕ
quote_offset None = 1
quote_offset (Some h) = h + 2

-- "the text less an appended newline": its last byte, when marked (R6.4)
unfoldable pub body : List ℕ → Bool → List ℕ
body t newline = pick newline (take (length t - 1) t) t

-- so many hashes
unfoldable pub hash_marks : ℕ → List ℕ
hash_marks h = replicate h (code "#")

-- "`r`, hashes, quote"
unfoldable pub opening : ℕ → List ℕ
opening h = code "r" ∷ (hash_marks h ++ (code "\"" ∷ []))

-- "quote, hashes"
unfoldable pub closing : ℕ → List ℕ
closing h = code "\"" ∷ hash_marks h

-- "`r`, hashes, quote, the text less an appended newline, quote, hashes" (R6.4)
unfoldable pub raw_literal : ℕ → List ℕ → List ℕ
raw_literal h b = opening h ++ (b ++ closing h)

-- two lists are equal
unfoldable pub same : List ℕ → List ℕ → Bool
same [] [] = true
same [] (y ∷ ys) = false
same (x ∷ xs) [] = false
same (x ∷ xs) (y ∷ ys) = both (eqb x y) (same xs ys)

-- a source literal: a raw string's snippet is given, and is that "exactly" (R6.4)
unfoldable pub is_literal : List ℕ → Option ℕ → Bool → List ℕ → Bool → Bool
is_literal t None given s newline = false
is_literal t (Some h) given s newline = both given (same s (raw_literal h (body t newline)))

-- "End" is: "text length (less 1 if a newline is appended) without a snippet; snippet length less hashes less 1
-- if the snippet is" a source literal; "else snippet length" (R6.5)
unfoldable pub end_of : List ℕ → Option ℕ → Bool → List ℕ → Bool → ℕ
end_of t style given s newline =
    pick given
    (pick (is_literal t style given s newline) (length s - hashes_of style - 1) (length s))
    (length (body t newline))

-- the three together (R6.2, R6.4, R6.5)
unfoldable pub frame_of : List ℕ → Option ℕ → Bool → List ℕ → Bool → Frame
frame_of t style given s newline =
    record {
      quote = quote_offset style;
      end = snippet (end_of t style given s newline);
      literal = is_literal t style given s newline;
    }
