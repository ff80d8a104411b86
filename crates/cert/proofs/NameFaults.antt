-- Names, general names and the bases of subtrees.
use Rattle.std.proofs.Common.{◌≡◌, ℕ, ◌==◌, List, [], Bool, true, false, Option, Some, None, Result, Ok, Err, not, if◌then◌else◌, eqb-true, refl, ap}
use Rattle.asn.specs.Identifier.{is_constructed}
use Rattle.asn.specs.Place.{Place, tag, body}
use Rattle.asn.specs.Members.{members}
use Rattle.asn.specs.Walk.{check_that, is_a, required, next_or, ended, some, each}
use Rattle.asn.proofs.Laws.{IsEncodedPart}
use Rattle.names.specs.NameRule.TheVariants.{NameLayout, RdnRepeat, SetOrder, Text, DnsForm, IpForm}
use Rattle.names.specs.NameLayout.{AttributePlaces, attribute_members, has_kind_before, is_less, is_string, attribute_order, attribute, attributes, rdn, one_more_rdn, name}
use Rattle.names.specs.Bases.{DomainNames, AddressRange, is_dns_name, is_ip_address, names_of_base, range_of_base}
use Rattle.names.specs.declared.general.Form.{Form}
use Rattle.names.specs.declared.general.Form.TheVariants as F
use Rattle.names.specs.declared.ip.IpFault.{IpFault}
use Rattle.names.specs.declared.ip.IpFault.TheVariants as I
use Rattle.names.specs.GeneralLayout.{form_of_identifier, explicit_name, dns_name_at, ip_address_at, general_of, general, dns_base_of, dns_base_at, ip_base_of, ip_base_at, base_of, base}
use Rattle.cert.proofs.FaultPlaces.{begins_at, members_left}
use Rattle.cert.proofs.FaultSteps.{Within, Any, and_then, Next, NextIs, check_within, is_a_within, required_within, next_within, ended_within, some_within, each_within}

-- attributes
record Parts (text : List ℕ) (parts : AttributePlaces) : Type 0 where
  pub kind : IsEncodedPart text parts.kind
  pub value : IsEncodedPart text parts.value

members_within : (text : List ℕ) (place : Place) → IsEncodedPart text place → Within text (Parts text) (attribute_members place)
unfolding attribute_members
members_within text place is =
    and_then text (λ _. tag place ≡ 0x30) (Parts text) (is_a 0x30 NameLayout place) _ (is_a_within text 0x30 NameLayout place is) (λ _ sequence.
    and_then text (NextIs text 6) (Parts text) (required 6 NameLayout (members place)) _ (required_within text 6 NameLayout (members place) (members_left text place (ap is_constructed sequence) is)) (λ kind first.
    and_then text (Next text) (Parts text) (next_or NameLayout kind.1) _ (next_within text NameLayout kind.1 first.left) (λ value second.
    and_then text Any (Parts text) (ended NameLayout value.1) _ (ended_within text NameLayout value.1 second.left) (λ _ _. record { kind = first.value; value = second.value }))))

order_within : (text : List ℕ) (all : List Place) (before kind : List ℕ) (place : Place) → IsEncodedPart text place → Within text Any (attribute_order all before kind place)
unfolding attribute_order
order_within text all before kind place is =
    and_then text Any Any (check_that (not (has_kind_before kind place.at all)) RdnRepeat place.at) _ (check_within text (not (has_kind_before kind place.at all)) RdnRepeat place.at (begins_at text place is))
    (λ _ _. check_within text (not (is_less place.octets before)) SetOrder place.at (begins_at text place is))

attribute_within : (text : List ℕ) (all : List Place) (before : List ℕ) (place : Place) → IsEncodedPart text place → Within text Any (attribute all before place)
unfolding attribute
attribute_within text all before place is =
    and_then text (Parts text) Any (attribute_members place) _ (members_within text place is) (λ parts stand.
    and_then text Any Any (attribute_order all before (body parts.kind) place) _ (order_within text all before (body parts.kind) place is) (λ _ _.
    and_then text Any Any (check_that (is_string (tag parts.value) (body parts.value)) Text parts.value.at) _
    (check_within text (is_string (tag parts.value) (body parts.value)) Text parts.value.at (begins_at text parts.value stand.value)) (λ _ _. tt)))

-- RDNs and names
rdn_within : (text : List ℕ) (place : Place) → IsEncodedPart text place → Within text Any (rdn place)
unfolding rdn attributes
rdn_within text place is =
    and_then text (λ _. tag place ≡ 0x31) Any (is_a 0x31 NameLayout place) _ (is_a_within text 0x31 NameLayout place is) (λ _ set.
    let inside = members_left text place (ap is_constructed set) is in
    and_then text Any Any (some NameLayout (members place)) _ (some_within text NameLayout (members place) inside) (λ _ _.
    and_then text Any Any (each (attribute ((members place).values)) [] ((members place).values)) _
    (each_within text (attribute ((members place).values)) (attribute_within text ((members place).values)) [] ((members place).values) inside.parts) (λ _ _. tt)))

pub name_within : (text : List ℕ) (place : Place) → IsEncodedPart text place → Within text Any (name place)
unfolding name
name_within text place is =
    and_then text (λ _. tag place ≡ 0x30) Any (is_a 0x30 NameLayout place) _ (is_a_within text 0x30 NameLayout place is) (λ _ sequence.
    each_within text one_more_rdn (λ _ rdn. rdn_within text rdn) tt ((members place).values) (members_left text place (ap is_constructed sequence) is).parts)

-- general names and bases
explicit_within : (text : List ℕ) (value : Place) → tag value ≡ 0xA4 → IsEncodedPart text value → Within text Any (explicit_name value)
unfolding explicit_name
explicit_within text value form is =
    and_then text (Next text) Any (next_or NameLayout (members value)) _ (next_within text NameLayout (members value) (members_left text value (ap is_constructed form) is)) (λ first next.
    and_then text Any Any (name first.0) _ (name_within text first.0 next.value) (λ _ _.
    and_then text Any Any (ended NameLayout first.1) _ (ended_within text NameLayout first.1 next.left) (λ _ _. tt)))

dns_within : (text : List ℕ) (value : Place) → IsEncodedPart text value → Within text Any (dns_name_at value)
unfolding dns_name_at
dns_within text value is =
    and_then text Any Any (check_that (is_dns_name (body value)) DnsForm value.at) _ (check_within text (is_dns_name (body value)) DnsForm value.at (begins_at text value is)) (λ _ _. tt)

ip_within : (text : List ℕ) (value : Place) → IsEncodedPart text value → Within text Any (ip_address_at value)
unfolding ip_address_at
ip_within text value is =
    and_then text Any Any (check_that (is_ip_address (body value)) IpForm value.at) _ (check_within text (is_ip_address (body value)) IpForm value.at (begins_at text value is)) (λ _ _. tt)

dns_base_within : (text : List ℕ) (value : Place) → IsEncodedPart text value → Within text Any (dns_base_at value)
unfolding dns_base_at
dns_base_within text value is = by (names_of_base (body value))
  where
    by : (found : Option DomainNames) → Within text Any (dns_base_of value.at found)
    by None = begins_at text value is
    by (Some names) = tt

ip_base_within : (text : List ℕ) (value : Place) → IsEncodedPart text value → Within text Any (ip_base_at value)
unfolding ip_base_at
ip_base_within text value is = by (range_of_base (body value))
  where
    by : (found : Result AddressRange IpFault) → Within text Any (ip_base_of value.at found)
    by (Ok range) = tt
    by (Err I.Length) = begins_at text value is
    by (Err I.Mask) = begins_at text value is

-- a value of a form: a name in directoryName has its tag
abbrev HasTagOf : Place → Option Form → Type 0
HasTagOf value (Some F.Directory) = tag value ≡ 0xA4
HasTagOf value form = Unit {0}

tag_of_form : (value : Place) → HasTagOf value (form_of_identifier (tag value))
unfolding form_of_identifier
tag_of_form value = by (tag value == 0xA0) (tag value == 0x81) (tag value == 0x82) (tag value == 0xA3) (tag value == 0xA4) (tag value == 0xA5) (tag value == 0x86) (tag value == 0x87) (tag value == 0x88) refl
  where
    by : (a b c d e f g h i : Bool) → (tag value == 0xA4) ≡ e → HasTagOf value (if a then Some (F.Other 0) else (if b then Some (F.Other 1) else (if c then Some F.Dns else (if d then Some (F.Other 3) else (if e then Some F.Directory else (if f then Some (F.Other 5) else (if g then Some (F.Other 6) else (if h then Some F.Ip else (if i then Some (F.Other 8) else None)))))))))
    by true b c d e f g h i same = tt
    by false true c d e f g h i same = tt
    by false false true d e f g h i same = tt
    by false false false true e f g h i same = tt
    by false false false false true f g h i same = eqb-true (tag value) 0xA4 same
    by false false false false false true g h i same = tt
    by false false false false false false true h i same = tt
    by false false false false false false false true i same = tt
    by false false false false false false false false true same = tt
    by false false false false false false false false false same = tt

pub general_within : (text : List ℕ) (value : Place) → IsEncodedPart text value → Within text Any (general value)
unfolding general
general_within text value is = by (form_of_identifier (tag value)) (tag_of_form value)
  where
    by : (form : Option Form) → HasTagOf value form → Within text Any (general_of form value)
    by None has = begins_at text value is
    by (Some F.Directory) has = and_then text Any Any (explicit_name value) _ (explicit_within text value has is) (λ _ _. tt)
    by (Some F.Dns) has = dns_within text value is
    by (Some F.Ip) has = ip_within text value is
    by (Some (F.Other number)) has = tt

pub base_within : (text : List ℕ) (value : Place) → IsEncodedPart text value → Within text Any (base value)
unfolding base
base_within text value is = by (form_of_identifier (tag value)) (tag_of_form value)
  where
    by : (form : Option Form) → HasTagOf value form → Within text Any (base_of form value)
    by None has = begins_at text value is
    by (Some F.Directory) has = and_then text Any Any (explicit_name value) _ (explicit_within text value has is) (λ _ _. tt)
    by (Some F.Dns) has = dns_base_within text value is
    by (Some F.Ip) has = ip_base_within text value is
    by (Some (F.Other number)) has = tt
