use Rattle.std.proofs.Common.{◌∷◌, [], ◌++◌, ◌∙◌, List, ℕ, ap, refl, slice_index, subst, sym}
use Rattle.std.specs.Io.KnownBytes.{Appends}
use Rattle.hex.specs.Hex.{encode_lower}
use Rattle.cli_printing.specs.GeneralText.{begun_octets}
use Rattle.cli_printing.proofs.Appending.{appends_both}
use Rattle.cli_printing.proofs.Masks.{mask_all, mask_more}
use Rattle.cli_printing.proofs.general.write_mask.Goals as goal

pub loop-preserved : goal.loop-preserved
loop-preserved g c =
    let was = c.loop.invariant in
    let octet = slice_index begun_octets c.from.result in
    record {
      text = was.text ++ encode_lower (octet ∷ []);
      whole = mask_more _ was.text c.args.count c.loop.counter c.loop.left _ octet c.loop-test.true c.saturating_sub-left.ensures
          (ap (slice_index begun_octets) (c.from.ensures ∙ c.min.ensures)) was.whole;
      written = appends_both _ _ _ _ _ _ was.written c.in_ok-write_digits.ensures refl;
    }

pub returns : goal.returns
returns g c =
    subst (λ (text : List ℕ). Appends (g.W.Write.contents c.args.writer.now) (g.W.Write.contents c.loop.writer) text)
    (sym (mask_all _ c.loop.invariant.text c.args.count c.loop.counter c.loop.left c.loop-test.false c.loop.invariant.whole)) c.loop.invariant.written
