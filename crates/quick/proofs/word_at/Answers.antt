-- `quick::word_at` meets its contract: an ASCII byte is its own character, and 0, which stands past the end too, starts no word and continues none;
-- where another letter follows, the word goes on from there.
use mathlib.Core.Path.{◌≡◌, sym, ◌∙◌, ap}
use mathlib.Core.Bool.{true≢false}
use native.Mathlib.Omega.{arith}
use Rattle.frame.specs.Places.{place}
use Rattle.scan.specs.Words.{word_end, word_from}
use Rattle.scan.specs.ScanLaws.{word_on}
use Rattle.frame.specs.declared.TextPlace.{TextPlace}
use Rattle.scan.specs.AsciiWordLaws.{word_start, word_none, continue_stop}
use Rattle.quick.proofs.Bytes.{word_anew, word_further, no_chars, start_chars}
use Rattle.quick.proofs.word_at.Goals.{then-b-lt128+else-not-ascii_start+else-byte-lt128, else-b-lt128}
use Rattle.quick.proofs.word_at.Goals as goal

pub returns-then-not-ascii_start : goal.returns-then-not-ascii_start
returns-then-not-ascii_start c =
    record {
      ends = sym (word_none _ _ c.byte-b.ensures c.if-b-lt128.true (sym c.ascii_start.ensures ∙ c.if-not-ascii_start.true));
      on = omega arith;
      chars = λ _. omega (arith, no_chars c.args.text.now c.args.at);
    }

pub returns-then-byte-lt128 : goal.returns-then-byte-lt128
returns-then-byte-lt128 c =
    let e = c.ascii_end-known.ensures in
    let start = sym c.ascii_start.ensures ∙ c.if-not-ascii_start.false in
    let low = c.if-b-lt128.true in
    record {
      ends = sym (continue_stop _ _ c.byte.ensures c.if-byte-lt128.true e.ends) ∙ e.run ∙ sym (word_start _ _ c.byte-b.ensures low start);
      on = omega (arith, e.on);
      chars = λ _. start_chars _ _ c.byte-b.ensures low start e;
    }

pub returns : goal.returns
returns c =
    let t = c.args.text.now in
    let at = c.args.at in
    let known : (word_from t (place at) c.if-b-lt128.known).0 ≡ (word_end t (place at)).0 =
    elim c.if-b-lt128.branch [
      | then-b-lt128+else-not-ascii_start+else-byte-lt128 w ↦
          rw w.known-is (word_further t at c.byte-b.ensures w.if-b-lt128.true (sym w.ascii_start.ensures ∙ w.if-not-ascii_start.false) w.ascii_end-known.ensures)
      | else-b-lt128 w ↦ word_anew t at w.known-is
    ] in
    let e = rw c.whole.ensures at (ap (λ (p : TextPlace). p.0) c.word_from-end.ensures) ∙ known in
    record { ends = e; on = rw e (word_on _ _); chars = λ y. absurd (true≢false (sym y)) }
