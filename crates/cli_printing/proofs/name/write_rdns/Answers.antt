use Rattle.std.proofs.Common.{◌++◌, ap, refl}
use Rattle.asn.specs.Place.{seen_tlv}
use Rattle.asn.specs.Members.{Members}
use Rattle.cli_printing.specs.NameText.{rdn_text}
use Rattle.cli_printing.proofs.Appending.{appends_both}
use Rattle.cli_printing.proofs.Joining.{joined_more}
use Rattle.cli_printing.proofs.name.write_rdns.Goals as goal

pub loop-rdn-preserved : goal.loop-rdn-preserved
loop-rdn-preserved g c =
    let was = c.loop-rdn.invariant in
    let place = seen_tlv c.in-Some.rdn in
    let step = ap (λ (m : Members). m.values) c.in-Some.ensures.step in
    record {
      text = was.text ++ rdn_text place;
      whole = joined_more rdn_text _ was.text place _ _ step was.whole;
      written = appends_both _ _ _ _ _ _ was.written c.in_ok-write_rdn.ensures refl;
    }
