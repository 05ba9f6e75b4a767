-- Parts of a text taken into a lent buffer, one after another. Rests on `pen`'s bytes laid over a buffer and on `utf8`'s check.
use Rattle.std.specs.Prelude.{ℕ, ◌+◌, ◌≡◌, Bool, true, false, List, [], ◌∷◌, ◌++◌, ltb, length, take}
use Rattle.utf8.specs.Choice.{pick, either}
use Rattle.utf8.specs.Utf8Laws.{valid_end}
use Rattle.pen.specs.Pens.{over}
use Rattle.uploads.specs.declared.Upload.{Upload}
use Rattle.uploads.specs.declared.Taken.{Taken}

-- before the first part (R16.1)
abbrev pub nothing : Upload
nothing = record { count = 0; valid = 0; over = false }

-- 16: "a count beyond the buffer or a buffer under 65,535 bytes" (R16.2)
unfoldable pub is_unfit : Upload → List ℕ → Bool
is_unfit u b = either (ltb (length b) u.count) (ltb (length b) 65535)

-- "A part that would pass 65,535 bytes" (R16.4)
unfoldable pub is_too_much : Upload → List ℕ → Bool
is_too_much u p = ltb 65535 (u.count + length p)

-- "this is remembered" (R16.4)
abbrev pub marked : Upload → Upload
marked u = record { count = u.count; valid = u.valid; over = true }

-- the part is taken, and the check goes on from where it stood (R16.3)
unfoldable pub grown : Upload → List ℕ → List ℕ → Upload
grown u b p =
    let n = u.count + length p in
    record { count = n; valid = valid_end (take n (over b u.count p)) u.valid; over = false }

-- what a part leaves: one thing where it is refused, one where it "writes nothing" or is "ignored", one where it is taken (R16.2 to R16.4)
abbrev pub leaves : {A : Type 0} → Upload → List ℕ → List ℕ → A → A → A → A
leaves u b p refused ignored taken = pick (is_unfit u b) refused (pick (either u.over (is_too_much u p)) ignored taken)

unfoldable pub part_number : Upload → List ℕ → ℕ
part_number u b = pick (is_unfit u b) 16 0

unfoldable pub part_state : Upload → List ℕ → List ℕ → Upload
part_state u b p = leaves u b p u (marked u) (grown u b p)

unfoldable pub part_buffer : Upload → List ℕ → List ℕ → List ℕ
part_buffer u b p = leaves u b p b b (over b u.count p)

-- A PART: its answer and the buffer at exit, for any state and any buffer (R16.2 to R16.4)
pub record Part (u : Upload) (b b' p : List ℕ) (r : Taken) : Type 0 where
  pub number : r.number ≡ part_number u b
  pub state : r.state ≡ part_state u b p
  pub buffer : b' ≡ part_buffer u b p

-- what stands between two calls
pub record Held : Type 0 where
  pub state : Upload
  pub buffer : List ℕ

abbrev pub held : Upload → List ℕ → Held
held u b = record { state = u; buffer = b }

-- "each call gets the state and buffer the last one left" (R16.5)
unfoldable pub after : Held → List (List ℕ) → Held
after h [] = h
after h (p ∷ ps) = after (held (part_state h.state h.buffer p) (part_buffer h.state h.buffer p)) ps

-- the joined text
unfoldable pub joined : List (List ℕ) → List ℕ
joined [] = []
joined (p ∷ ps) = p ++ joined ps
