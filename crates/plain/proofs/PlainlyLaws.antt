-- ONE WAY TO WRITE A TEMPLATE: "Reading the plain form gives the same pieces, literals, names and words compared by their text, spans and byte
-- ranges aside. Two accepted texts of one mode have equal plain forms exactly when their pieces are so equal, and writing twice changes nothing."
-- What pieces say is Said, the plain form Plain, both of a text Plainly; the work is in Device.
use Rattle.std.specs.Prelude.{◌≡◌, ◌↔◌, List, ℕ, ◌≤◌, length}
use Rattle.std.proofs.Common.{ap, sym, ◌∙◌}
use Rattle.frame.specs.declared.Frame.{Frame}
use Rattle.frame.specs.declared.Mode.{Mode}
use Rattle.laws.specs.BrokenLaws.{well_whole}
use Rattle.unique.specs.Device.Readings.{has_reading}
use Rattle.plain.specs.Plain.{plain_form}
use Rattle.plain.specs.Plainly.{Accepted, sayings, plain_of}
use Rattle.plain.proofs.Device.Texts.{plain_well, plain_clean, plain_said, plain_short}
use Rattle.plain.proofs.Device.Frames.{said_any}

-- ANY TEXT, errors or not, says the same in every frame (style, snippet and mark), so its plain form is the same in every frame too.
pub any_frame : (m : Mode) (f g : Frame) (t : List ℕ) → (sayings m f t ≡ sayings m g t) × (plain_of m f t ≡ plain_of m g t)
any_frame m f g t = let e = said_any m f g t in (e, ap plain_form e)

-- AN ACCEPTED TEXT t, in the frame f; its plain form is read in any frame g
module _ {m : Mode} {f : Frame} {t : List ℕ} (a : Accepted m f t) (g : Frame) where
  -- "Reading the plain form gives the same pieces"
  pub same_pieces : sayings m g (plain_of m f t) ≡ sayings m f t
  same_pieces = let r = has_reading t f m (well_whole t a.is_utf8) a.no_error in plain_said m t f a.is_utf8 r.0 r.1 g

  -- it is accepted,
  pub accepted : Accepted m g (plain_of m f t)
  accepted =
      let r = has_reading t f m (well_whole t a.is_utf8) a.no_error in
      record { is_utf8 = plain_well m t f a.is_utf8 r.0 r.1; no_error = plain_clean m t f a.is_utf8 r.0 r.1 g }

  -- and no longer than the text: whoever lends as many bytes as the text has lends enough, and the length limit holds
  pub no_longer : length (plain_of m f t) ≤ length t
  no_longer = let r = has_reading t f m (well_whole t a.is_utf8) a.no_error in plain_short m t f a.is_utf8 r.0 r.1

  -- "writing twice changes nothing"
  pub twice : plain_of m g (plain_of m f t) ≡ plain_of m f t
  twice = ap plain_form same_pieces

-- "TWO ACCEPTED TEXTS of one mode have equal plain forms exactly when their pieces are so equal"
pub exactly : {m : Mode} {f g : Frame} {t u : List ℕ} → Accepted m f t → Accepted m g u → (plain_of m f t ≡ plain_of m g u) ↔ (sayings m f t ≡ sayings m g u)
exactly {m} {f} {g} {t} {u} a b = (λ e. sym (same_pieces a f) ∙ (ap (sayings m f) e ∙ same_pieces b f), λ e. ap plain_form e)
