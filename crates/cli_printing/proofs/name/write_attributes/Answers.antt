use Rattle.std.proofs.Common.{◌++◌, ap, refl}
use Rattle.asn.specs.Place.{seen_tlv}
use Rattle.asn.specs.Members.{Members}
use Rattle.cli_printing.specs.NameText.{next_attribute_text}
use Rattle.cli_printing.proofs.Appending.{appends_both}
use Rattle.cli_printing.proofs.Joining.{joined_more}
use Rattle.cli_printing.proofs.name.write_attributes.Goals as goal

pub loop-attribute-preserved : goal.loop-attribute-preserved
loop-attribute-preserved g c =
    let was = c.loop-attribute.invariant in
    let place = seen_tlv c.in-Some-next.attribute in
    let step = ap (λ (m : Members). m.values) c.in-Some-next.ensures.step in
    record {
      text = was.text ++ next_attribute_text place;
      whole = joined_more next_attribute_text _ was.text place _ _ step was.whole;
      written = appends_both _ _ _ _ _ _ was.written
          (appends_both _ _ _ _ _ _ c.in_ok-write_all.ensures.bytes c.in_ok-write_attribute-2.ensures refl) refl;
    }
