use Rattle.std.proofs.Common.{◌≡◌, ◌∙◌, List, [], ◌∷◌, true, refl, ap, sym}
use Rattle.asn.specs.Members.{Members, left, none_in, none_left}
use Rattle.asn.specs.Place.{Place, seen_tlv}
use Rattle.names_distinguished.proofs.OnlyAttribute.{only_is}
use Rattle.names_distinguished.proofs.name.read_attributes.Goals as goal

none_are : (places : List Place) → none_in places ≡ true → places ≡ []
none_are [] e = refl
none_are (place ∷ places) e = absurd cc

none_are_left : (members : Members) → none_left members ≡ true → members.values ≡ []
unfolding none_left
none_are_left members e = none_are members.values e

pub returns-in-Some : goal.returns-in-Some
returns-in-Some c =
    let rest = left c.next.new.self in
    rw (only_is ((left c.args.all).values) rest.values (seen_tlv c.in-Some.tlv) (ap (λ (m : Members). m.values) c.in-Some.ensures.step) (none_are_left rest (sym c.end.ensures.none ∙ c.if-end.true))) c.read_only_attribute.ensures
