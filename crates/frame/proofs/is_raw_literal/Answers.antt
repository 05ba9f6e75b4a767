-- `frame::is_raw_literal` meets its contract: the opening, the body and the closing are taken off in order. Assumes nothing.
use Rattle.std.proofs.Common.{sym, ◌∙◌, arith}
use Rattle.frame.proofs.Same.{lengths_differ}
use Rattle.frame.proofs.Literal.{length_literal, literal_parts, literal_missed, literal_unopened, cut, stripped, not_stripped}
use Rattle.frame.proofs.is_raw_literal.Goals as goal

pub returns-in_default : goal.returns-in_default
returns-in_default c =
    sym (lengths_differ _ _ (λ e. omega (arith, c.in_default.ensures.cases, length_literal c.args.hashes c.args.inside.now)))

pub returns-then-not-opens : goal.returns-then-not-opens
returns-then-not-opens c =
    let p = c.in-Some.ensures.cases in
    sym (literal_unopened _ _ _ _ _ (cut _ _ _ _ p.1 p.2) p.3 (sym c.opens.ensures ∙ c.if-not-opens.true))

pub returns-in_default-strip_prefix : goal.returns-in_default-strip_prefix
returns-in_default-strip_prefix c =
    let p = c.in-Some.ensures.cases in
    sym (literal_missed _ _ _ _ _ (cut _ _ _ _ p.1 p.2) p.3 (not_stripped _ _ c.in_default-strip_prefix.ensures.cases))

pub returns : goal.returns
returns c =
    let p = c.in-Some.ensures.cases in
    let q = c.in-Some-strip_prefix.ensures.cases in
    rw (literal_parts _ _ _ _ _ c.args.hashes (cut _ _ _ _ p.1 p.2) p.3 (stripped _ _ _ q.0 q.1), ← c.opens.ensures, c.if-not-opens.false) c.closes.ensures
