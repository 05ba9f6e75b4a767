-- The numbers of the modes.
use Rattle.std.specs.Prelude.{ℕ, ◌<◌, ◌≡◌, Result, MatchResult}
use Rattle.frame.specs.declared.Mode.{Mode}
use Rattle.frame.specs.declared.UnknownMode.{UnknownMode}

-- "a mode (0 Format, 1 InlineAsm, 2 Diagnostic)" (R1.1)
abbrev pub mode_number : Mode → ℕ
mode_number Mode.Format = 0
mode_number Mode.InlineAsm = 1
mode_number Mode.Diagnostic = 2

-- the mode with this number, or the number itself, which is no mode's
abbrev pub Decodes : ℕ → Result Mode UnknownMode → Type 0
Decodes number r = MatchResult r (λ mode. mode_number mode ≡ number) (λ e. (e.0 ≡ number) × (2 < number))
