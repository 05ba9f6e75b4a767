-- Two texts without errors, joined: no error, and the pieces of both, met. Rests on Bytes, Moves, Meets and unique's Readings.
use Rattle.std.specs.Prelude.{◌≡◌, List, [], ◌++◌, ℕ, length}
use Rattle.std.proofs.Common.{ap, ◌∙◌}
use Rattle.utf8.specs.Table37.{WellFormed}
use Rattle.frame.specs.declared.Frame.{Frame}
use Rattle.frame.specs.declared.Mode.{Mode}
use Rattle.reading.specs.Lists.{pieces, errors}
use Rattle.laws.specs.BrokenLaws.{well_whole}
use Rattle.grammar.specs.Grammar.{Element, Reading}
use Rattle.grammar.specs.Pieces.{pieces_of}
use Rattle.unique.specs.Device.Readings.{has_reading, no_error, its_pieces}
use Rattle.joins.specs.Joins.{number_of_both, is_doubled, join, Premise}
use Rattle.joins.proofs.Device.Elements.{joined}
use Rattle.joins.proofs.Device.Bytes.{well_append, joined_reading}
use Rattle.joins.proofs.Device.Moves.{pieces_moved}
use Rattle.joins.proofs.Device.Meets as M

module _ (m : Mode) (t u : List ℕ) (f g h : Frame) (v : WellFormed t) (w : WellFormed u) where
  pub joined_errors : errors t f m ≡ [] → errors u g m ≡ [] → Premise m t u → errors (t ++ u) h m ≡ []
  joined_errors e i p =
      let r = has_reading t f m (well_whole t v) e in
      let s = has_reading u g m (well_whole u w) i in
      no_error (t ++ u) h m (well_whole (t ++ u) (well_append v w)) (joined r.0 s.0) (joined_reading t u r.0 s.0 m r.1 s.1 p)

  -- of readings
  read_pieces : (q : ℕ) (es fs : List Element) → Reading m t es → Reading m u fs →
      pieces_of q 0 0 (joined es fs) ≡ join t u (pieces_of q 0 0 es) (pieces_of q 0 0 fs)
  read_pieces q es fs r s =
      let k : ℕ = number_of_both (pieces_of q 0 0 es) in
      let moved = pieces_moved q (length t) k 0 (M.end_all 0 es) 0 fs (M.end_length m t es r) in
      cc (M.joined_pieces q (is_doubled u) 0 0 es fs (M.says m u fs s), M.past_count q 0 0 es, moved)

  pub joined_pieces : f.quote ≡ h.quote → g.quote ≡ h.quote → errors t f m ≡ [] → errors u g m ≡ [] → Premise m t u →
      pieces (t ++ u) h m ≡ join t u (pieces t f m) (pieces u g m)
  joined_pieces x y e i p =
      let r = has_reading t f m (well_whole t v) e in
      let s = has_reading u g m (well_whole u w) i in
      let j = joined_reading t u r.0 s.0 m r.1 s.1 p in
      let a : pieces t f m ≡ pieces_of h.quote 0 0 r.0 = its_pieces t f m (well_whole t v) r.0 r.1 ∙ ap (λ q. pieces_of q 0 0 r.0) x in
      let b : pieces u g m ≡ pieces_of h.quote 0 0 s.0 = its_pieces u g m (well_whole u w) s.0 s.1 ∙ ap (λ q. pieces_of q 0 0 s.0) y in
      rw (a, b) (its_pieces (t ++ u) h m (well_whole (t ++ u) (well_append v w)) (joined r.0 s.0) j ∙ read_pieces h.quote r.0 s.0 r.1 s.1)
