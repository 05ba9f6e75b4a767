-- The calls leave no choice: two results that the contract of one allows for the same call, with every list at exit, are equal. Rests on Calls.
use Rattle.std.specs.Prelude.{ℕ, ◌≡◌, List}
use Rattle.std.proofs.Common.{sym, ◌∙◌, ap}
use Rattle.reading.specs.Exits.{at_exit}
use Rattle.reading.specs.declared.Request.{Request}
use Rattle.arrivals.specs.Calls.{Sent, Closed}

pub sent_one : {k i j b c d p : List ℕ} {r n : ℕ} → Sent k i b c p r → Sent k j b d p n → (r ≡ n) × (i ≡ j) × (c ≡ d)
sent_one x y = (x.number ∙ sym y.number, x.state ∙ sym y.state, x.buffer ∙ sym y.buffer)

pub closed_one : {k b s : List ℕ} {q : Request} {ps a c es d e ls f g ns m n out o u : List ℕ} {r v : ℕ} →
    Closed k b s q ps a es d ls f ns m out o r → Closed k b s q ps c es e ls g ns n out u v →
    (r ≡ v) × (o ≡ u) × (a ≡ c) × (d ≡ e) × (f ≡ g) × (m ≡ n)
closed_one {ps = ps} {es = es} {ls = ls} {ns = ns} {r = r} {v = v} x y = (
  same,
  x.answer ∙ sym y.answer,
  to _ ps x.pieces y.pieces,
  to _ es x.errors y.errors,
  to _ ls x.places y.places,
  to _ ns x.lines y.lines,
)
  where
    same : r ≡ v
    same = x.number ∙ sym y.number

    to : {h i : List ℕ} (new old : List ℕ) → h ≡ at_exit r new old → i ≡ at_exit v new old → h ≡ i
    to new old h i = h ∙ ap (λ (z : ℕ). at_exit z new old) same ∙ sym i
