-- An accepted text, its plain form and what both say, from its reading. Rests on Says, Same, Forms, Codes, Lengths and unique's Readings.
use Rattle.std.specs.Prelude.{◌≡◌, List, [], ℕ, ◌≤◌, length}
use Rattle.std.proofs.Common.{ap, sym, subst, ◌∙◌}
use Rattle.utf8.specs.Table37.{WellFormed}
use Rattle.frame.specs.declared.Frame.{Frame}
use Rattle.frame.specs.declared.Mode.{Mode}
use Rattle.reading.specs.Lists.{pieces, errors}
use Rattle.laws.specs.BrokenLaws.{well_whole}
use Rattle.grammar.specs.Grammar.{Element, written_all, utf8, Reading}
use Rattle.unique.specs.Device.Readings.{no_error, its_pieces}
use Rattle.joins.proofs.Device.Meets.{utf8_length}
use Rattle.plain.specs.Said.{said}
use Rattle.plain.specs.Plain.{plain_form}
use Rattle.plain.proofs.Device.Elements.{plainly, plainly_fits}
use Rattle.plain.proofs.Device.Says.{of_all, pieces_said}
use Rattle.plain.proofs.Device.Same.{all_same}
use Rattle.plain.proofs.Device.Forms.{all_form}
use Rattle.plain.proofs.Device.Codes.{reals, well, plainly_real}
use Rattle.plain.proofs.Device.Lengths.{plainly_short}

-- what a text with a reading says
read_said : (m : Mode) (t : List ℕ) (f : Frame) (es : List Element) → WellFormed t → Reading m t es → said t (pieces t f m) ≡ of_all 0 es
read_said m t f es w r =
    ap (said t) (its_pieces t f m (well_whole t w) es r) ∙ pieces_said t f.quote 0 0 es (sym r.spelled)

-- the plain form, as one text
module _ (m : Mode) (t : List ℕ) (f : Frame) (w : WellFormed t) (es : List Element) (r : Reading m t es) where
  written_plain : plain_form (said t (pieces t f m)) ≡ utf8 (written_all (plainly es) [])
  written_plain = ap plain_form (read_said m t f es w r) ∙ all_form m 0 es r.fits

  plain_reading : Reading m (plain_form (said t (pieces t f m))) (plainly es)
  plain_reading = record { fits = plainly_fits m es r.fits; spelled = sym written_plain }

  pub plain_well : WellFormed (plain_form (said t (pieces t f m)))
  plain_well = subst WellFormed (sym written_plain) (well (written_all (plainly es) []) (plainly_real m es r.fits (reals w (written_all es []) r.spelled)))

  pub plain_clean : (g : Frame) → errors (plain_form (said t (pieces t f m))) g m ≡ []
  plain_clean g = no_error _ g m (well_whole _ plain_well) (plainly es) plain_reading

  pub plain_said : (g : Frame) → said (plain_form (said t (pieces t f m))) (pieces (plain_form (said t (pieces t f m))) g m) ≡ said t (pieces t f m)
  plain_said g = read_said m _ g (plainly es) plain_well plain_reading ∙ (all_same m 0 es r.fits ∙ sym (read_said m t f es w r))

  pub plain_short : length (plain_form (said t (pieces t f m))) ≤ length t
  plain_short = rw (written_plain, ← r.spelled, utf8_length (written_all (plainly es) []), utf8_length (written_all es [])) (plainly_short m es r.fits)
