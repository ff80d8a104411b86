-- How a general name, and the base of a subtree, is read, with the first fault and its place (RFC 5280, 4.2.1.6 and 4.2.1.10).
use Rattle.std.specs.Prelude.{ℕ, ◌==◌, List, Option, Some, None, Result, Ok, Err, if◌then◌else◌}
use Rattle.asn.specs.Place.{Place, tag, body}
use Rattle.asn.specs.Members.{members}
use Rattle.asn.specs.Walk.{◌>>=◌, next_or, ended, check_that}
use Rattle.names_distinguished.specs.declared.fault.NameRule.{NameRule}
use Rattle.names_distinguished.specs.declared.fault.NameRule.TheVariants.{NameLayout, DnsForm, IpForm, MaskForm}
use Rattle.names.specs.declared.general.Form.{Form}
use Rattle.names.specs.declared.general.Form.TheVariants as F
use Rattle.names.specs.declared.ip.IpFault.{IpFault}
use Rattle.names.specs.declared.ip.IpFault.TheVariants as I
use Rattle.names_distinguished.specs.DistinguishedName.{RdnMap}
use Rattle.names_distinguished.specs.NameLayout.{name}
use Rattle.names_distinguished.specs.NameParts.{rdns_at}
use Rattle.names.specs.Bases.{DomainNames, AddressRange, is_dns_name, is_ip_address, names_of_base, range_of_base}

-- a name: its whole encoding, its offset in the whole input, and its sets of attributes, as they are compared
pub record NameContents : Type 0 where
  pub octets : List ℕ
  pub at : ℕ
  pub rdns : List RdnMap

abbrev pub contents_at : Place → NameContents
contents_at place = record { octets = place.octets; at = place.at; rdns = rdns_at place }

-- what a general name says; another name is the number of its form, with its contents
pub data GeneralName : Type 0 where
  directory_name : NameContents → GeneralName
  dns_name : List ℕ → GeneralName
  ip_address : List ℕ → GeneralName
  other_name : ℕ → List ℕ → GeneralName

-- what the base of a subtree says
pub data SubtreeBase : Type 0 where
  directory_base : NameContents → SubtreeBase
  dns_base : DomainNames → SubtreeBase
  ip_base : AddressRange → SubtreeBase
  other_base : ℕ → List ℕ → SubtreeBase

-- GeneralName ::= CHOICE { otherName [0], rfc822Name [1], dNSName [2], x400Address [3], directoryName [4], ediPartyName [5],
-- uniformResourceIdentifier [6], iPAddress [7], registeredID [8] }; forms 0, 3, 4 and 5 are constructed
unfoldable pub form_of_identifier : ℕ → Option Form
form_of_identifier identifier =
    if identifier == 0xA0 then Some (F.Other 0)
    else (if identifier == 0x81 then Some (F.Other 1)
    else (if identifier == 0x82 then Some F.Dns
    else (if identifier == 0xA3 then Some (F.Other 3)
    else (if identifier == 0xA4 then Some F.Directory
    else (if identifier == 0xA5 then Some (F.Other 5)
    else (if identifier == 0x86 then Some (F.Other 6)
    else (if identifier == 0x87 then Some F.Ip
    else (if identifier == 0x88 then Some (F.Other 8) else None))))))))

-- directoryName [4] EXPLICIT Name
unfoldable pub explicit_name : Place → Result NameContents (NameRule × ℕ)
explicit_name value = do
  first ← next_or NameLayout (members value)
  read ← name first.0
  one ← ended NameLayout first.1
  Ok (contents_at first.0)

-- dNSName [2] IA5String
unfoldable pub dns_name_at : Place → Result GeneralName (NameRule × ℕ)
dns_name_at value = do
  form ← check_that (is_dns_name (body value)) DnsForm value.at
  Ok (dns_name (body value))

-- iPAddress [7] OCTET STRING
unfoldable pub ip_address_at : Place → Result GeneralName (NameRule × ℕ)
ip_address_at value = do
  form ← check_that (is_ip_address (body value)) IpForm value.at
  Ok (ip_address (body value))

-- a general name of this form
abbrev pub general_of : Option Form → Place → Result GeneralName (NameRule × ℕ)
general_of None value = Err (NameLayout, value.at)
general_of (Some F.Directory) value = explicit_name value >>= λ contents. Ok (directory_name contents)
general_of (Some F.Dns) value = dns_name_at value
general_of (Some F.Ip) value = ip_address_at value
general_of (Some (F.Other number)) value = Ok (other_name number (body value))

unfoldable pub general : Place → Result GeneralName (NameRule × ℕ)
general value = general_of (form_of_identifier (tag value)) value

-- the bases of constraints on DNS names and on IP addresses
abbrev pub dns_base_of : ℕ → Option DomainNames → Result SubtreeBase (NameRule × ℕ)
dns_base_of at None = Err (DnsForm, at)
dns_base_of at (Some names) = Ok (dns_base names)

unfoldable pub dns_base_at : Place → Result SubtreeBase (NameRule × ℕ)
dns_base_at value = dns_base_of value.at (names_of_base (body value))

abbrev pub ip_base_of : ℕ → Result AddressRange IpFault → Result SubtreeBase (NameRule × ℕ)
ip_base_of at (Ok range) = Ok (ip_base range)
ip_base_of at (Err I.Length) = Err (IpForm, at)
ip_base_of at (Err I.Mask) = Err (MaskForm, at)

unfoldable pub ip_base_at : Place → Result SubtreeBase (NameRule × ℕ)
ip_base_at value = ip_base_of value.at (range_of_base (body value))

-- a base of this form
abbrev pub base_of : Option Form → Place → Result SubtreeBase (NameRule × ℕ)
base_of None value = Err (NameLayout, value.at)
base_of (Some F.Directory) value = explicit_name value >>= λ contents. Ok (directory_base contents)
base_of (Some F.Dns) value = dns_base_at value
base_of (Some F.Ip) value = ip_base_at value
base_of (Some (F.Other number)) value = Ok (other_base number (body value))

-- the base of a GeneralSubtree
unfoldable pub base : Place → Result SubtreeBase (NameRule × ℕ)
base value = base_of (form_of_identifier (tag value)) value
