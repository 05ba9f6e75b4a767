-- How a number is carried while its digits are read: modulo 65,536, its overflow noted beside it. What is answered is `numeral` (Words), and the
-- law below joins the two, so nothing here need be believed.
use Rattle.std.specs.Prelude.{◌≡◌, ℕ, ◌%◌, Bool, true, false, nat_lt, refl}
use Rattle.std.proofs.Common.{suc-le-suc, ap, mod-eq_of_lt, ltb-false}
use Rattle.utf8.specs.Choice.{pick}
use Rattle.scan.specs.Words.{numeral}
use Rattle.scan.specs.declared.Noted.{Noted}
use Rattle.scan.specs.declared.Numeral.{Numeral}

-- a number that wraps on purpose
unfoldable pub noted : ℕ → Noted
noted n = record { value = n % 65536; over = nat_lt 65535 n }

-- what is answered of it: nothing of the remainder
unfoldable pub told : Noted → Numeral
told k = pick k.over Numeral.Over (Numeral.Within k.value)

-- IT IS THE NUMBER'S: over range where the number is, else the number itself
pub told_noted : (n : ℕ) → told (noted n) ≡ numeral n
unfolding told noted numeral pick
told_noted n = go (nat_lt 65535 n) refl
  where
    go : (b : Bool) → nat_lt 65535 n ≡ b → pick b Numeral.Over (Numeral.Within (n % 65536)) ≡ pick b Numeral.Over (Numeral.Within n)
    go true e = refl
    go false e = ap Numeral.Within (mod-eq_of_lt (suc-le-suc (ltb-false 65535 n e)))
