-- DEMAND 3 IS MET: for every text that is UTF-8, every frame (style, snippet and mark) and every mode, by the lists that the public call's
-- contract cites. The page is grammar's Demand; the work is in Device/Readings, Numbers, Within, Covering and AnyFrame.
use Rattle.std.specs.Prelude.{◌≡◌, List, [], ℕ, length}
use Rattle.std.proofs.Common.{sym, ◌∙◌}
use Rattle.utf8.specs.Table37.{WellFormed}
use Rattle.utf8.specs.Utf8.{valid_prefix}
use Rattle.frame.specs.declared.Frame.{Frame}
use Rattle.frame.specs.declared.Mode.{Mode}
use Rattle.reading.specs.Lists.{pieces, errors}
use Rattle.reading.specs.declared.Piece.{Piece}
use Rattle.reading.specs.declared.ErrorRecord.{ErrorRecord}
use Rattle.laws.specs.BrokenLaws.{well_whole}
use Rattle.grammar.specs.Numbering.{numbers, UpFrom}
use Rattle.grammar.specs.Demand.{Demand}
use Rattle.grammar.specs.Ranges.{NoneOver}
use Rattle.grammar.specs.Spanless as S
use Rattle.unique.specs.Device.Readings.{has_reading, no_error, its_pieces, only_one}
use Rattle.unique.specs.Device.Numbers.{numbered}
use Rattle.unique.specs.Device.Within.{none_over}
use Rattle.unique.specs.Device.Covering.{covered}
use Rattle.unique.specs.Device.AnyFrame.{pieces_any, kinds_any, quotes_any, numbers_any}

-- THE THEOREM, for a text that is UTF-8 as table 3-7 of the Unicode Standard has it (its cover holds of any bytes)
pub demand : (text : List ℕ) (frame : Frame) (mode : Mode) → WellFormed text →
    Demand mode frame.quote text (pieces text frame mode) (errors text frame mode)
demand text frame mode w =
    record {
      exactly = (has_reading text frame mode v, λ r. no_error text frame mode v r.0 r.1);
      the_only = only_one text mode v;
      the_pieces = its_pieces text frame mode v;
      the_numbers = in_order;
      the_cover = covered text frame mode;
    }
  where
    v : valid_prefix text ≡ length text
    v = well_whole text w

    in_order : errors text frame mode ≡ [] → UpFrom 0 (numbers (pieces text frame mode))
    in_order e =
        let r = has_reading text frame mode v e in
        rw (its_pieces text frame mode v r.0 r.1) (numbered frame.quote 0 0 r.0)

-- NO FREEDOM where no error is recorded: lists that the page allows for one text, mode and quote offset are the same.
pub no_freedom : {mode : Mode} {quote : ℕ} {text : List ℕ} {ps ps₂ : List Piece} {es es₂ : List ErrorRecord} →
    Demand mode quote text ps es → Demand mode quote text ps₂ es₂ → es ≡ [] → (es₂ ≡ []) × (ps ≡ ps₂)
no_freedom d d₂ e =
    let r = d.exactly.0 e in
    (d₂.exactly.1 r, d.the_pieces r.0 r.1 ∙ sym (d₂.the_pieces r.0 r.1))

-- NO ERROR MEANS NO OVER-RANGE CASE: neither as a place nor as a width nor as a precision of any piece.
pub all_within : {mode : Mode} {quote : ℕ} {text : List ℕ} {ps : List Piece} {es : List ErrorRecord} → Demand mode quote text ps es → es ≡ [] → NoneOver ps
all_within {quote = quote} d e =
    let r = d.exactly.0 e in
    rw (d.the_pieces r.0 r.1) (none_over quote 0 0 r.0)

-- Style, snippet and mark change neither the pieces nor the errors' kinds, what they quote and the pieces before them: spans alone.
pub same_pieces : (text : List ℕ) (frame other : Frame) (mode : Mode) → S.pieces (pieces text frame mode) ≡ S.pieces (pieces text other mode)
same_pieces text frame other mode = pieces_any text frame other mode

pub same_kinds : (text : List ℕ) (frame other : Frame) (mode : Mode) → S.kinds (errors text frame mode) ≡ S.kinds (errors text other mode)
same_kinds text frame other mode = kinds_any text frame other mode

pub same_quotes : (text : List ℕ) (frame other : Frame) (mode : Mode) → S.quotes (errors text frame mode) ≡ S.quotes (errors text other mode)
same_quotes text frame other mode = quotes_any text frame other mode

pub same_before : (text : List ℕ) (frame other : Frame) (mode : Mode) → S.before (errors text frame mode) ≡ S.before (errors text other mode)
same_before text frame other mode = numbers_any text frame other mode
