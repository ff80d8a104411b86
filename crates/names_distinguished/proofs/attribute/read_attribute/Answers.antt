use Rattle.std.proofs.Common.{◌≡◌, ℕ, List, false, sym, ◌∙◌, subst}
use Rattle.asn.specs.Place.{seen_tlv}
use Rattle.asn.specs.Members.{left}
use Rattle.names_distinguished.specs.NameLayout.{has_kind_before}
use Rattle.names_distinguished.specs.AttributeView.{seen_members}
use Rattle.names_distinguished.proofs.NewKinds.{kind_of_members}
use Rattle.names_distinguished.proofs.attribute.read_attribute.Goals as goal

pub check_order-requires : goal.check_order-requires
check_order-requires c = λ below. subst (λ (kind : List ℕ). has_kind_before kind c.args.tlv.at (left c.args.all).values ≡ false)
    (kind_of_members (seen_tlv c.args.tlv) (seen_members c.in_ok-members.members) c.in_ok-members.ensures ∙ sym c.in_ok-members.members.kind.body_is) (c.requires below)
