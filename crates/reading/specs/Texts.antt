-- A literal's bytes: "A range that is reversed, passes the end, or has a bound standing before a byte 80 to BF (hex), gives the empty part at the start."
use Rattle.std.specs.Prelude.{ℕ, ◌-◌, Bool, true, false, List, [], eqb, leb, ltb, length, get_or, take, drop}
use Rattle.utf8.specs.Choice.{pick, both, within}
use Rattle.frame.specs.declared.TextRange.{TextRange}

-- a bound within the text that stands before no byte 80 to BF (R1.10)
unfoldable pub is_boundary : List ℕ → ℕ → Bool
is_boundary t i = pick (ltb i (length t)) (pick (within (get_or t i 0) 0x80 0xBF) false true) (eqb i (length t))

-- (R1.10)
unfoldable pub literal_text : List ℕ → TextRange → List ℕ
literal_text t r =
    let s = r.start.0 in
    let e = r.end.0 in
    pick (both (leb s e) (both (is_boundary t s) (is_boundary t e))) (take (e - s) (drop s t)) []
