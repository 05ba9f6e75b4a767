-- What the program `alike` goes by: the plain forms of two texts are the same bytes exactly when the texts say the same. Rests on tidiness's page and the
-- frame's `same`, by which `equal` compares.
use Rattle.std.specs.Prelude.{◌≡◌, ◌↔◌, true, List, ℕ}
use Rattle.frame.specs.Frames.{same}
use Rattle.frame.specs.FrameLaws.{same_exactly}
use Rattle.reading.specs.Answers.{mode_of}
use Rattle.plain.specs.Plainly.{sayings}
use Rattle.tidiness.specs.Tidies.{unstyled, Tidies}
use Rattle.tidiness.proofs.Tidiness.{wrote, exactly}
use Rattle.tidiness.specs.declared.Tidied.{Tidied}

pub alike_exactly : {t u out out' o o' : List ℕ} {mode : ℕ} {r s : Tidied} →
    Tidies t mode out out' r → r.number ≡ 0 → Tidies u mode o o' s → s.number ≡ 0 →
    (same (wrote r out') (wrote s o') ≡ true) ↔ (sayings (mode_of mode) (unstyled t) t ≡ sayings (mode_of mode) (unstyled u) u)
alike_exactly {out' = out'} {o' = o'} {r = r} {s = s} c z d y =
    let a = same_exactly (wrote r out') (wrote s o') in
    let b = exactly c z d y in
    (λ e. b.0 (a.0 e), λ e. a.1 (b.1 e))
