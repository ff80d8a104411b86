use Rattle.std.proofs.Common.{refl, map, sym, ap, ◌∙◌, subst, arith}
use Rattle.asn.specs.Members.{Members, octets_of_each}
use Rattle.asn.specs.Place.{seen_tlv}
use Rattle.asn.proofs.Laws.{members_same}
use Rattle.names_distinguished.specs.NameParts.{AreRdns, map_at, rdns_at}
use Rattle.names_distinguished.specs.NameView.{maps_of}
use Rattle.names_distinguished.specs.NameOctets.{raw_of, offset_of, rdns_of}
use Rattle.names_distinguished.proofs.Reading.{rdns_read}
use Rattle.names_distinguished.proofs.name.Name.at.Goals as goal

pub invariant_of-result : goal.invariant_of-result
invariant_of-result c = record {
  read = ∣ subst (λ (m : Members). AreRdns m.values) (sym c.in_ok-rdns.ensures.rdns) (rdns_read (seen_tlv c.args.tlv) tt c.in_ok-rdns.ensures.walk) ∣₁;
  short = let s = c.in_ok-rdns.ensures.short in omega arith;
}

pub invariant_of-result-2 : goal.invariant_of-result-2
invariant_of-result-2 c =
    let value = seen_tlv c.args.tlv in
    record { members = ap (λ (m : Members). octets_of_each m.values) c.in_ok-rdns.ensures.rdns ∙ members_same value (record { octets = value.octets; at = 0 }) refl }

pub returns-clause-raw : goal.returns-clause-raw
unfolding raw_of
returns-clause-raw c = refl

pub returns-clause-offset : goal.returns-clause-offset
unfolding offset_of
returns-clause-offset c = refl

pub returns-clause-rdns : goal.returns-clause-rdns
unfolding rdns_of maps_of rdns_at
returns-clause-rdns c = ap (λ (m : Members). map map_at m.values) c.in_ok-rdns.ensures.rdns
