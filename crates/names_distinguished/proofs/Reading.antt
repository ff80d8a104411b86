-- What a name that was read holds: attributes in sets, sets in the sequence.
use Rattle.std.proofs.Common.{◌≡◌, ℕ, List, [], ◌∷◌, Ok, Err, sym, ap, ◌∙◌, subst}
use Rattle.asn.specs.Identifier.{is_constructed}
use Rattle.asn.specs.Place.{Place, tag, body}
use Rattle.asn.specs.Members.{Members, members, with_first}
use Rattle.asn.specs.Walk.{◌>>=◌, each, is_a, some, check_that}
use Rattle.asn.proofs.Laws.{bind_ok, is_a_ok, each_next}
use Rattle.names_distinguished.specs.declared.fault.NameRule.{NameRule}
use Rattle.names_distinguished.specs.declared.fault.NameRule.TheVariants.{NameLayout, Text}
use Rattle.names_distinguished.specs.NameLayout.{attribute_members, attribute_order, is_string, attribute, attributes, rdn, one_more_rdn, name}
use Rattle.names_distinguished.specs.NameParts.{IsAttribute, AreAttributes, IsRdn, AreRdns}
use Rattle.names_distinguished.proofs.Distinct.{set_distinct}

attribute_read : (all : List Place) (before : List ℕ) (place : Place) (x : List ℕ) → attribute all before place ≡ Ok x → IsAttribute place
unfolding attribute
attribute_read all before place x e =
    let b = bind_ok (attribute_members place) (λ parts. attribute_order all before (body parts.kind) place >>= λ ordered. check_that (is_string (tag parts.value) (body parts.value)) Text parts.value.at >>= λ string. Ok place.octets) x e in
    (b.0, b.1)

attributes_read : (all : List Place) (places : List Place) (before : List ℕ) (x : List ℕ) → each (attribute all) before places ≡ Ok x → AreAttributes places
attributes_read all [] before x e = tt
attributes_read all (p ∷ ps) before x e =
    let s = each_next (attribute all) before p ps x e in
    (attribute_read all before p s.0 s.1, attributes_read all ps s.0 x s.2)

rdn_read : (place : Place) (u : Unit {0}) → rdn place ≡ Ok u → IsRdn place
unfolding rdn attributes
rdn_read place u e =
    let b = bind_ok (is_a 0x31 NameLayout place) (λ set. some NameLayout (members place) >>= λ one. attributes ((members place).values)) u e in
    let c = bind_ok (some NameLayout (members place)) (λ one. attributes ((members place).values)) u b.2 in
    let d = bind_ok (each (attribute ((members place).values)) [] ((members place).values)) (λ last. Ok tt) u c.2 in
    (ap is_constructed (is_a_ok 0x31 NameLayout place b.0 b.1), attributes_read ((members place).values) ((members place).values) [] d.0 d.1, set_distinct place d.0 d.1)

rdns_each : (places : List Place) (before u : Unit {0}) → each one_more_rdn before places ≡ Ok u → AreRdns places
rdns_each [] before u e = tt
rdns_each (p ∷ ps) before u e =
    let s = each_next one_more_rdn before p ps u e in
    (rdn_read p s.0 s.1, rdns_each ps s.0 u s.2)

pub rdns_read : (place : Place) (u : Unit {0}) → name place ≡ Ok u → AreRdns (members place).values
unfolding name
rdns_read place u e =
    let b = bind_ok (is_a 0x30 NameLayout place) (λ sequence. each one_more_rdn tt ((members place).values)) u e in
    rdns_each ((members place).values) tt u b.2

-- the first of attributes or sets, and those behind it
pub first_attribute : (old new : Members) (place : Place) → old ≡ with_first place new → AreAttributes old.values → IsAttribute place × AreAttributes new.values
first_attribute old new place e are =
    let all : AreAttributes (place ∷ new.values) = subst (λ (m : Members). AreAttributes m.values) e are in
    (all.0, all.1)

pub first_rdn : (old new : Members) (place : Place) → old ≡ with_first place new → AreRdns old.values → IsRdn place × AreRdns new.values
first_rdn old new place e are =
    let all : AreRdns (place ∷ new.values) = subst (λ (m : Members). AreRdns m.values) e are in
    (all.0, all.1)

pub no_fault : (place : Place) (fault : NameRule × ℕ) → attribute_members place ≡ Err fault → IsAttribute place → ⊥
no_fault place fault e (parts, read) = let both : Err fault ≡ Ok parts = sym e ∙ read in cc
