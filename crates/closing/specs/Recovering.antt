-- What is said and passed where a closing brace is missing, as it is decided: after a `?`, then of a sign, then of a field; and that this is the
-- table of Recovery. Rests on Recovery.
use Rattle.std.specs.Prelude.{ℕ, ◌≡◌, refl, Bool, true, false, List, ltb, length}
use Prim.Native.Char.{code}
use Rattle.std.proofs.Common.{sym}
use Rattle.utf8.specs.Choice.{pick, both}
use Rattle.frame.specs.declared.TextPlace.{TextPlace}
use Rattle.frame.specs.declared.Frame.{Frame}
use Rattle.frame.specs.declared.Mode.{Mode}
use Rattle.scan.specs.Characters.{is_at, past_at, consumed}
use Rattle.scan.specs.Words.{word_read}
use Rattle.placeholder.specs.Parts.{is_align}
use Rattle.closing.specs.Recovery.{passed_to, debug_first, field_read, recover_read}
use Rattle.closing.specs.declared.recover.Hint.{Hint}
use Rattle.closing.specs.declared.recover.Recovery.{Recovery}

-- nothing is said
abbrev pub is_silent : Hint → Bool
is_silent Hint.Silent = true
is_silent (Hint.DebugFirst p r) = false
is_silent (Hint.NoColon p) = false
is_silent (Hint.Equals p) = false
is_silent (Hint.Misplaced p) = false
is_silent (Hint.PlusFirst p) = false
is_silent (Hint.Field a b) = false
is_silent (Hint.TupleIndex a b) = false
is_silent (Hint.Comma p) = false

-- "8 `?` before `:`; 9 `?}` without colon"; any other `?` is passed and nothing is said
unfoldable pub after_question : List ℕ → TextPlace → TextPlace → ℕ → Recovery
after_question t at past n =
    let colon = consumed t past (code ":") in
    pick (is_at t past (code "}")) (passed_to past n (Hint.NoColon at))
    (pick colon.ate (debug_first at n (word_read t colon.at)) (passed_to past n Hint.Silent))

-- "10 `=}`; 11 align misplaced; 12 `+` without colon; 15 `,`"
unfoldable pub sign_hint : List ℕ → TextPlace → TextPlace → Hint
sign_hint t at past =
    pick (is_align t at) (Hint.Misplaced at)
    (pick (is_at t at (code ",")) (Hint.Comma at)
    (pick (is_at t at (code "+")) (Hint.PlusFirst at)
    (pick (both (is_at t at (code "=")) (is_at t past (code "}"))) (Hint.Equals at) Hint.Silent)))

-- what is said and passed, as it is decided
unfoldable pub recovering : List ℕ → Frame → Mode → TextPlace → Bool → TextPlace → ℕ → Recovery
recovering t f m from identifier at n =
    let past = past_at t at in
    let hint = sign_hint t at past in
    pick (ltb past.0 (length t))
    (pick (is_at t at (code "?")) (after_question t at past n)
    (pick (is_silent hint)
    (pick identifier (field_read t f m from at n) (passed_to at n Hint.Silent))
    (passed_to past n hint)))
    (passed_to at n Hint.Silent)

-- whatever the tests say: a `?`, a `}` and a `:` after it, an align, a `,`, a `+`, an `=`, a bare name, a `.`
in_turn : (two q c1 c2 al cm pl eq i dot : Bool) (n : ℕ) (at past : TextPlace) (debug field : Recovery) → (dot ≡ false → field ≡ passed_to at n Hint.Silent) →
    let hint =
    pick al (Hint.Misplaced at) (pick cm (Hint.Comma at) (pick pl (Hint.PlusFirst at) (pick (both eq c1) (Hint.Equals at) Hint.Silent)))
    in
    let stays = passed_to at n Hint.Silent in
    pick two
    (pick (both q c1) (passed_to past n (Hint.NoColon at))
    (pick (both q c2) debug
    (pick q (passed_to past n Hint.Silent)
    (pick al (passed_to past n (Hint.Misplaced at))
    (pick cm (passed_to past n (Hint.Comma at))
    (pick pl (passed_to past n (Hint.PlusFirst at))
    (pick (both eq c1) (passed_to past n (Hint.Equals at))
    (pick (both i dot) field
    stays))))))))
    stays ≡
    pick two
    (pick q (pick c1 (passed_to past n (Hint.NoColon at)) (pick c2 debug (passed_to past n Hint.Silent)))
    (pick (is_silent hint) (pick i field stays) (passed_to past n hint)))
    stays
unfolding pick
in_turn false q c1 c2 al cm pl eq i dot n at past debug field h = refl
in_turn true true true c2 al cm pl eq i dot n at past debug field h = refl
in_turn true true false true al cm pl eq i dot n at past debug field h = refl
in_turn true true false false al cm pl eq i dot n at past debug field h = refl
in_turn true false c1 c2 true cm pl eq i dot n at past debug field h = refl
in_turn true false c1 c2 false true pl eq i dot n at past debug field h = refl
in_turn true false c1 c2 false false true eq i dot n at past debug field h = refl
in_turn true false true c2 false false false true i dot n at past debug field h = refl
in_turn true false false c2 false false false true true true n at past debug field h = refl
in_turn true false false c2 false false false true true false n at past debug field h = sym (h refl)
in_turn true false false c2 false false false true false dot n at past debug field h = refl
in_turn true false c1 c2 false false false false true true n at past debug field h = refl
in_turn true false c1 c2 false false false false true false n at past debug field h = sym (h refl)
in_turn true false c1 c2 false false false false false dot n at past debug field h = refl

module _ (t : List ℕ) (f : Frame) (m : Mode) (from : TextPlace) (i : Bool) (at : TextPlace) (n : ℕ) where
  -- without a dot no field is read
  no_field : is_at t at (code ".") ≡ false → field_read t f m from at n ≡ passed_to at n Hint.Silent
  unfolding field_read consumed pick
  no_field e = rw e

  -- THE TABLE, as it is decided
  pub recover_table : recover_read t f m from i at n ≡ recovering t f m from i at n
  unfolding recover_read recovering after_question sign_hint consumed
  recover_table =
      let past = past_at t at in
      in_turn (ltb past.0 (length t)) (is_at t at (code "?")) (is_at t past (code "}")) (is_at t past (code ":")) (is_align t at)
      (is_at t at (code ",")) (is_at t at (code "+")) (is_at t at (code "=")) i (is_at t at (code ".")) n at past _ (field_read t f m from at n) no_field
