-- Which names lie in which subtrees, by what both say (RFC 5280, 4.2.1.10).
use Rattle.std.specs.Prelude.{◌≡◌, ◌↔◌, ◌<◌, IsTrue, ◌==◌, ◌&&◌, ◌⊎◌, ℕ, List, Bool, true, false, nat_le, length}
use Rattle.names.specs.declared.general.General.{General}
use Rattle.names.specs.declared.general.Form.{Form}
use Rattle.names.specs.declared.general.Form.TheVariants as F
use Rattle.names.specs.declared.subtree.Subtree.{Subtree}
use Rattle.names_distinguished.specs.DistinguishedName.{IsWithin, is_within}
use Rattle.names.specs.Dns.{EndsIn, EndsInMore, labels, ends_in_labels, ends_in_more_labels}
use Rattle.names.specs.Ip.{bit, agree}
use Rattle.names.specs.GeneralName.{form_of_name, IsProcessed}
use Rattle.names.specs.GeneralSubtree.{form_of, is_in_subtree, is_subtree_inside, has_form}
use Rattle.names.specs.Bases.{DomainNames, every_name, names_within, names_below, AddressRange}
use Rattle.names.specs.GeneralLayout.{GeneralName, SubtreeBase, directory_name, dns_name, ip_address, other_name, directory_base, dns_base, ip_base, other_base}
use Rattle.names.specs.GeneralView.{general_name, subtree_base}

abbrev pub form_of_general_name : GeneralName → Form
form_of_general_name (directory_name contents) = F.Directory
form_of_general_name (dns_name text) = F.Dns
form_of_general_name (ip_address octets) = F.Ip
form_of_general_name (other_name number contents) = F.Other number

abbrev pub form_of_base : SubtreeBase → Form
form_of_base (directory_base contents) = F.Directory
form_of_base (dns_base names) = F.Dns
form_of_base (ip_base range) = F.Ip
form_of_base (other_base number contents) = F.Other number

-- the name is one of these
unfoldable pub is_domain_among : List ℕ → DomainNames → Bool
is_domain_among name every_name = true
is_domain_among name (names_within base) = ends_in_labels name base
is_domain_among name (names_below base) = ends_in_more_labels name base

-- each of the first is one of the second
unfoldable pub are_among : DomainNames → DomainNames → Bool
are_among inner every_name = true
are_among every_name (names_within outer) = false
are_among every_name (names_below outer) = false
are_among (names_within inner) (names_within outer) = ends_in_labels inner outer
are_among (names_within inner) (names_below outer) = ends_in_more_labels inner outer
are_among (names_below inner) (names_within outer) = ends_in_labels inner outer
are_among (names_below inner) (names_below outer) = ends_in_labels inner outer

-- the address begins with the bits of the range
unfoldable pub is_address_of : List ℕ → AddressRange → Bool
is_address_of address range = (length address == length range.address) && agree range.prefix range.address address

unfoldable pub is_range_of : AddressRange → AddressRange → Bool
is_range_of inner outer =
    (length inner.address == length outer.address) && (nat_le outer.prefix inner.prefix && agree outer.prefix outer.address inner.address)

-- the name lies in the subtree
unfoldable pub is_covered : GeneralName → SubtreeBase → Bool
is_covered (directory_name name) (directory_base base) = is_within name.rdns base.rdns
is_covered (dns_name name) (dns_base names) = is_domain_among name names
is_covered (ip_address address) (ip_base range) = is_address_of address range
is_covered _ _ = false

-- the first subtree is a part of the second
unfoldable pub is_base_inside : SubtreeBase → SubtreeBase → Bool
is_base_inside (directory_base inner) (directory_base outer) = is_within inner.rdns outer.rdns
is_base_inside (dns_base inner) (dns_base outer) = are_among inner outer
is_base_inside (ip_base inner) (ip_base outer) = is_range_of inner outer
is_base_inside _ _ = false

-- the subtree is about names of the form
unfoldable pub is_of_form : SubtreeBase → Form → Bool
is_of_form (directory_base base) F.Directory = true
is_of_form (dns_base names) F.Dns = true
is_of_form (ip_base range) F.Ip = true
is_of_form (other_base number contents) (F.Other wanted) = number == wanted
is_of_form _ _ = false

-- the same as relations

abbrev pub IsAmong : List ℕ → DomainNames → Type 0
IsAmong name every_name = Unit {0}
IsAmong name (names_within base) = EndsIn (labels name) (labels base)
IsAmong name (names_below base) = EndsInMore (labels name) (labels base)

pub record IsInAddressRange (address : List ℕ) (range : AddressRange) : Type 0 where
  pub same_length : length address ≡ length range.address
  pub agree : (i : ℕ) → i < range.prefix → bit range.address i ≡ bit address i

-- the name and the subtree are of one processed form, and there the name lies in the subtree
abbrev pub LiesInSubtree : GeneralName → SubtreeBase → Type 0
LiesInSubtree (directory_name name) (directory_base base) = IsWithin name.rdns base.rdns
LiesInSubtree (dns_name name) (dns_base names) = IsAmong name names
LiesInSubtree (ip_address address) (ip_base range) = IsInAddressRange address range
LiesInSubtree _ _ = ⊥

abbrev pub CoverageTestIsExact : Type 0
CoverageTestIsExact = (name : GeneralName) (base : SubtreeBase) → (IsTrue (is_covered name base) ↔ LiesInSubtree name base)

-- laws: it is what names and subtrees say that decides

abbrev pub CoverageIsOfContents : Type 0
CoverageIsOfContents = (name : General) (s : Subtree) → is_in_subtree name s ≡ is_covered (general_name name) (subtree_base s)

abbrev pub InsideIsOfContents : Type 0
InsideIsOfContents = (s t : Subtree) → is_subtree_inside s t ≡ is_base_inside (subtree_base s) (subtree_base t)

abbrev pub NameFormIsOfContents : Type 0
NameFormIsOfContents = (name : General) → form_of_name name ≡ form_of_general_name (general_name name)

abbrev pub BaseFormIsOfContents : Type 0
BaseFormIsOfContents = (s : Subtree) → form_of s ≡ form_of_base (subtree_base s)

abbrev pub FormTestIsOfContents : Type 0
FormTestIsOfContents = (s : Subtree) (form : Form) → has_form s form ≡ is_of_form (subtree_base s) form

-- every name in the first is in the second
abbrev pub BaseInsideIsSound : Type 0
BaseInsideIsSound = (name : GeneralName) (s t : SubtreeBase) → IsTrue (is_base_inside s t) → LiesInSubtree name s → LiesInSubtree name t

-- two that share a name are nested, one way or the other
abbrev pub SharedBasesAreNested : Type 0
SharedBasesAreNested =
    (name : GeneralName) (s t : SubtreeBase) → LiesInSubtree name s → LiesInSubtree name t →
    IsTrue (is_base_inside s t) ⊎ IsTrue (is_base_inside t s)

-- a name lies in subtrees of its own form alone, and that form is processed
abbrev pub CoveredIsOfForm : Type 0
CoveredIsOfForm = (name : GeneralName) (s : SubtreeBase) → LiesInSubtree name s → form_of_base s ≡ form_of_general_name name

abbrev pub CoveredIsProcessed : Type 0
CoveredIsProcessed = (name : GeneralName) (s : SubtreeBase) → LiesInSubtree name s → IsProcessed (form_of_base s)

abbrev pub BaseFormTestIsExact : Type 0
BaseFormTestIsExact = (s : SubtreeBase) (form : Form) → (IsTrue (is_of_form s form) ↔ (form_of_base s ≡ form))
