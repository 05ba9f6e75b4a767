-- `quick::no_spec` meets its contract: its counts are nothing, and its type is empty where reading stood.
use mathlib.Core.Path.{refl, ap}
use Rattle.quick.specs.declared.TypeTold.{TypeTold}
use Rattle.quick.proofs.no_spec.Goals as goal

pub returns : goal.returns
returns c =
    record {
      wide = c.no_count.ensures;
      precise = c.no_count-2.ensures;
      typed = ap (λ (k : TypeTold). k.blank) c.no_type.ensures;
      ends = ap (λ (k : TypeTold). k.end) c.no_type.ensures;
      given = refl;
    }
