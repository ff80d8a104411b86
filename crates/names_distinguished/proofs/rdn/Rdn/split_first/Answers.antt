use Rattle.std.proofs.Common.{◌∷◌, map, sym, ap, ◌∙◌}
use Rattle.std.proofs.Math.Logic.{∥∥₁_elim, ∥∥₁_map}
use Rattle.std.proofs.Props.{props}
use Rattle.asn.specs.Members.{Members, left}
use Rattle.asn.specs.Place.{seen_tlv}
use Rattle.names_distinguished.specs.DistinguishedName.{ComparedAttribute}
use Rattle.names_distinguished.specs.NameParts.{entry_in, entry_at}
use Rattle.names_distinguished.specs.NameView.{entries_of}
use Rattle.names_distinguished.proofs.Distinct.{others_distinct}
use Rattle.names_distinguished.proofs.Reading.{first_attribute, no_fault}
use Rattle.names_distinguished.proofs.rdn.Rdn.split_first.Goals as goal

pub invariant_of-result : goal.invariant_of-result
invariant_of-result c = record {
  read = ∥∥₁_map c.args.self.now.read (λ are. (first_attribute (left c.args.self.now.attributes) (left c.next.new.self) (seen_tlv c.in_ok-attribute.attribute) c.in_ok-attribute.ensures.step are).1);
  distinct = others_distinct (left c.args.self.now.attributes) (left c.next.new.self) (seen_tlv c.in_ok-attribute.attribute) c.in_ok-attribute.ensures.step c.args.self.now.distinct;
}

pub unreachable-requires : goal.unreachable-requires
unreachable-requires c =
    ∥∥₁_elim c.args.self.now.read (hlevel props) (λ are.
    no_fault (seen_tlv c.in_ok-attribute.attribute) c.in-Err.field-0 c.in-Err.ensures
    (first_attribute (left c.args.self.now.attributes) (left c.next.new.self) (seen_tlv c.in_ok-attribute.attribute) c.in_ok-attribute.ensures.step are).0)

pub returns : goal.returns
unfolding entries_of entry_at
returns c =
    ap (λ (m : Members). map entry_at m.values) c.in_ok-attribute.ensures.step
    ∙ ap (λ (e : ComparedAttribute). e ∷ map entry_at (left c.next.new.self).values) (ap entry_in c.in-Ok.ensures ∙ sym c.attribute.ensures)
