-- `fills::lane::pass_brace` meets its contract: the placeholder there is passed where nothing is wrong in it.
use mathlib.Core.Path.{sym, ◌∙◌}
use mathlib.Core.Logic.{inl}
use Rattle.fills.proofs.Passing.{open_fits, open_left, open_passed}
use Rattle.fills.proofs.lane.pass_brace.Goals as goal

pub pass_doubled-requires : goal.pass_doubled-requires
pass_doubled-requires c =
    let s = c.requires in
    (s.0, s.2, inl (s.3, sym c.byte.ensures ∙ c.if-byte-eq123.true))

pub write-requires : goal.write-requires
write-requires c =
    let s = c.requires in
    let a = c.args in
    (s.0, s.4, s.1, open_fits a.text.now a.frame a.mode a.state a.n a.pieces.now s.4 s.3 (λ e. c.if-byte-eq123.false (c.byte.ensures ∙ e)) s.2)

pub returns-in_default : goal.returns-in_default
returns-in_default c =
    let s = c.requires in
    let a = c.args in
    let room = open_fits a.text.now a.frame a.mode a.state a.n a.pieces.now s.4 s.3 (λ e. c.if-byte-eq123.false (c.byte.ensures ∙ e)) s.2 in
    open_left a.text.now a.frame a.mode a.state a.n a.pieces.now s.4 s.3 (λ e. c.if-byte-eq123.false (c.byte.ensures ∙ e)) room c.write.ensures.0

pub returns-then-not-speaks : goal.returns-then-not-speaks
returns-then-not-speaks c =
    let s = c.requires in
    let a = c.args in
    open_left a.text.now a.frame a.mode a.state a.n a.pieces.now s.4 s.3 (λ e. c.if-byte-eq123.false (c.byte.ensures ∙ e))
    (open_fits a.text.now a.frame a.mode a.state a.n a.pieces.now s.4 s.3 (λ e. c.if-byte-eq123.false (c.byte.ensures ∙ e)) s.2) c.write.ensures.0

pub returns : goal.returns
returns c =
    let s = c.requires in
    let a = c.args in
    let z = sym c.speaks.ensures ∙ c.if-not-speaks.false in
    open_passed a.text.now a.frame a.mode a.state a.n a.pieces.now s.4 s.3 (λ e. c.if-byte-eq123.false (c.byte.ensures ∙ e)) c.in-Some.ensures.1 z c.after_told.ensures
