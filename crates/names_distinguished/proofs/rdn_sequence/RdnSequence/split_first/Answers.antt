use Rattle.std.proofs.Common.{◌≡◌, ◌∷◌, map, length, sym, ap, ◌∙◌, subst, arith, true, false, IsTrue}
use Rattle.std.proofs.Math.Logic.{∥∥₁_elim, ∥∥₁_map}
use Rattle.std.proofs.Props.{props}
use Rattle.std.proofs.lemmas.List.{length-append}
use Rattle.asn.specs.Identifier.{is_constructed}
use Rattle.asn.specs.Members.{Members, left}
use Rattle.asn.specs.Place.{seen_tlv}
use Rattle.names_distinguished.specs.DistinguishedName.{rdn_map}
use Rattle.names_distinguished.specs.NameParts.{AreAttributes, are_distinct, entry_at, map_at}
use Rattle.names_distinguished.specs.NameView.{entries_of, maps_of}
use Rattle.names_distinguished.proofs.Reading.{first_rdn}
use Rattle.names_distinguished.proofs.rdn_sequence.RdnSequence.split_first.Goals as goal

pub invariant_of-result : goal.invariant_of-result
invariant_of-result c = record {
  read = ∥∥₁_map c.args.self.now.read (λ are.
      let f = first_rdn (left c.args.self.now.rdns) (left c.next.new.self) (seen_tlv c.in_ok-rdn.rdn) c.in_ok-rdn.ensures.step are in
      subst (λ (m : Members). AreAttributes m.values) (sym c.in-Some.ensures.left) f.0.1);
  distinct = ∥∥₁_elim c.args.self.now.read (hlevel props) (λ are.
      let f = first_rdn (left c.args.self.now.rdns) (left c.next.new.self) (seen_tlv c.in_ok-rdn.rdn) c.in_ok-rdn.ensures.step are in
      subst (λ (m : Members). IsTrue (are_distinct (map entry_at m.values))) (sym c.in-Some.ensures.left) f.0.2);
}

pub invariant_of-result-in-Some : goal.invariant_of-result-in-Some
invariant_of-result-in-Some c = record {
  read = ∥∥₁_map c.args.self.now.read (λ are. (first_rdn (left c.args.self.now.rdns) (left c.next.new.self) (seen_tlv c.in_ok-rdn.rdn) c.in_ok-rdn.ensures.step are).1);
  short = omega (arith, c.args.self.now.short, ap length c.in_ok-rdn.ensures.splits.octets, length-append (seen_tlv c.in_ok-rdn.rdn).octets c.next.new.self.octets.now);
}

pub unreachable-requires : goal.unreachable-requires
unreachable-requires c =
    ∥∥₁_elim c.args.self.now.read (hlevel props) (λ are.
    let f = first_rdn (left c.args.self.now.rdns) (left c.next.new.self) (seen_tlv c.in_ok-rdn.rdn) c.in_ok-rdn.ensures.step are in
    let form : is_constructed c.in_ok-rdn.rdn.tag ≡ true = ap is_constructed c.in_ok-rdn.rdn.tag_is ∙ f.0.0 in
    let wrong : false ≡ true = c.in-None.ensures.constructed.1 form in
    cc)

pub returns : goal.returns
unfolding maps_of entries_of map_at
returns c =
    ap (λ (m : Members). map map_at m.values) c.in_ok-rdn.ensures.step
    ∙ ap (λ (m : Members). rdn_map (map entry_at m.values) ∷ map map_at (left c.next.new.self).values) (sym c.in-Some.ensures.left)
