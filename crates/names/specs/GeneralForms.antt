-- General names, and the bases of subtrees, by their forms (RFC 5280, 4.2.1.6 and 4.2.1.10).
use Rattle.std.specs.Prelude.{◌≡◌, ◌↔◌, [], ◌∷◌, Some, Ok}
use Rattle.asn.specs.Place.{Place, tag, body}
use Rattle.asn.specs.Members.{members}
use Rattle.names.specs.declared.general.Form.TheVariants as F
use Rattle.names.specs.Dns.{IsDnsName}
use Rattle.names.specs.Ip.{IsIpAddress}
use Rattle.names_distinguished.specs.NameForms.{IsName}
use Rattle.names.specs.Bases.{AreNamesOf, AreAddressesOf}
use Rattle.names.specs.GeneralLayout.{NameContents, GeneralName, SubtreeBase, directory_name, dns_name, ip_address, other_name, directory_base, dns_base, ip_base, other_base, contents_at, form_of_identifier, general, base}

-- the value holds a name and nothing else
pub record HoldsName (value : Place) (contents : NameContents) : Type 0 where
  pub place : Place
  pub alone : (members value).values ≡ place ∷ []
  pub is_name : IsName place
  pub read : contents ≡ contents_at place

-- the value is a general name that says this
abbrev pub IsGeneralName : Place → GeneralName → Type 0
IsGeneralName value (directory_name contents) =
    (form_of_identifier (tag value) ≡ Some F.Directory) × HoldsName value contents
IsGeneralName value (dns_name text) =
    (form_of_identifier (tag value) ≡ Some F.Dns) × (body value ≡ text) × IsDnsName text
IsGeneralName value (ip_address octets) =
    (form_of_identifier (tag value) ≡ Some F.Ip) × (body value ≡ octets) × IsIpAddress octets
IsGeneralName value (other_name number contents) =
    (form_of_identifier (tag value) ≡ Some (F.Other number)) × (body value ≡ contents)

-- the value is the base of a subtree that says this
abbrev pub IsSubtreeBase : Place → SubtreeBase → Type 0
IsSubtreeBase value (directory_base contents) =
    (form_of_identifier (tag value) ≡ Some F.Directory) × HoldsName value contents
IsSubtreeBase value (dns_base names) = (form_of_identifier (tag value) ≡ Some F.Dns) × AreNamesOf (body value) names
IsSubtreeBase value (ip_base range) = (form_of_identifier (tag value) ≡ Some F.Ip) × AreAddressesOf (body value) range
IsSubtreeBase value (other_base number contents) =
    (form_of_identifier (tag value) ≡ Some (F.Other number)) × (body value ≡ contents)

-- laws: what is read is such a value, and each such value is read

abbrev pub GeneralNamesAreRead : Type 0
GeneralNamesAreRead = (value : Place) (said : GeneralName) → ((general value ≡ Ok said) ↔ IsGeneralName value said)

abbrev pub SubtreeBasesAreRead : Type 0
SubtreeBasesAreRead = (value : Place) (said : SubtreeBase) → ((base value ≡ Ok said) ↔ IsSubtreeBase value said)
