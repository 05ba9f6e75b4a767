-- `literal::plain_of_four` meets its contract: each byte that is no brace is passed, and the first brace ends literal text.
use Prim.Native.Nat.{◌+◌}
use mathlib.Core.Path.{sym, ◌∙◌}
use native.Mathlib.Omega.{arith}
use Rattle.literal.proofs.Literals.{Plain, plain_none, plain_more, plain_stop}
use Rattle.literal.proofs.plain_of_four.Goals as goal

pub returns-then-plain-eq0 : goal.returns-then-plain-eq0
returns-then-plain-eq0 c =
    let a = c.args in
    let t = a.text.now in
    let h = c.requires in
    let none : Plain t a.at 0 = plain_none in
    record { same_end = (none.on, omega arith); found = λ _. plain_stop none a.at (omega arith) (omega (arith, h)) (sym c.plain.ensures.0 ∙ c.if-plain-eq0.true) }

pub returns-then-plain-eq0-2 : goal.returns-then-plain-eq0-2
returns-then-plain-eq0-2 c =
    let a = c.args in
    let t = a.text.now in
    let h = c.requires in
    let one : Plain t a.at 1 = plain_more plain_none a.at (omega arith) (omega (arith, h)) (λ z. c.if-plain-eq0.false (c.plain.ensures.0 ∙ z)) in
    record { same_end = (one.on, omega arith); found = λ _. plain_stop one (a.at + 1) (omega arith) (omega (arith, h)) (sym c.plain-2.ensures.0 ∙ c.if-plain-eq0-2.true) }

pub returns-then-plain-eq0-3 : goal.returns-then-plain-eq0-3
returns-then-plain-eq0-3 c =
    let a = c.args in
    let t = a.text.now in
    let h = c.requires in
    let one : Plain t a.at 1 = plain_more plain_none a.at (omega arith) (omega (arith, h)) (λ z. c.if-plain-eq0.false (c.plain.ensures.0 ∙ z)) in
    let two : Plain t a.at 2 = plain_more one (a.at + 1) (omega arith) (omega (arith, h)) (λ z. c.if-plain-eq0-2.false (c.plain-2.ensures.0 ∙ z)) in
    record { same_end = (two.on, omega arith); found = λ _. plain_stop two (a.at + 2) (omega arith) (omega (arith, h)) (sym c.plain-3.ensures.0 ∙ c.if-plain-eq0-3.true) }

pub returns-then-plain-eq0-4 : goal.returns-then-plain-eq0-4
returns-then-plain-eq0-4 c =
    let a = c.args in
    let t = a.text.now in
    let h = c.requires in
    let one : Plain t a.at 1 = plain_more plain_none a.at (omega arith) (omega (arith, h)) (λ z. c.if-plain-eq0.false (c.plain.ensures.0 ∙ z)) in
    let two : Plain t a.at 2 = plain_more one (a.at + 1) (omega arith) (omega (arith, h)) (λ z. c.if-plain-eq0-2.false (c.plain-2.ensures.0 ∙ z)) in
    let three : Plain t a.at 3 = plain_more two (a.at + 2) (omega arith) (omega (arith, h)) (λ z. c.if-plain-eq0-3.false (c.plain-3.ensures.0 ∙ z)) in
    record { same_end = (three.on, omega arith); found = λ _. plain_stop three (a.at + 3) (omega arith) (omega (arith, h)) (sym c.plain-4.ensures.0 ∙ c.if-plain-eq0-4.true) }

pub returns : goal.returns
returns c =
    let a = c.args in
    let t = a.text.now in
    let h = c.requires in
    let one : Plain t a.at 1 = plain_more plain_none a.at (omega arith) (omega (arith, h)) (λ z. c.if-plain-eq0.false (c.plain.ensures.0 ∙ z)) in
    let two : Plain t a.at 2 = plain_more one (a.at + 1) (omega arith) (omega (arith, h)) (λ z. c.if-plain-eq0-2.false (c.plain-2.ensures.0 ∙ z)) in
    let three : Plain t a.at 3 = plain_more two (a.at + 2) (omega arith) (omega (arith, h)) (λ z. c.if-plain-eq0-3.false (c.plain-3.ensures.0 ∙ z)) in
    let four : Plain t a.at 4 = plain_more three (a.at + 3) (omega arith) (omega (arith, h)) (λ z. c.if-plain-eq0-4.false (c.plain-4.ensures.0 ∙ z)) in
    record { same_end = (four.on, omega arith); found = λ l. absurd (omega (arith, l)) }
