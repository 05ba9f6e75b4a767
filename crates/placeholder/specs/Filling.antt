-- A fill by its code and its span.
use Rattle.std.specs.Prelude.{ℕ, Option, Some}
use Rattle.frame.specs.declared.Span.{Span}
use Rattle.placeholder.specs.declared.Fill.{Fill}

abbrev pub filling : ℕ → Span → Option Fill
filling c s = Some (record { code = c; span = s })
