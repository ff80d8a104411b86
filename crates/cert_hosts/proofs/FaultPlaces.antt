-- The first malformed base of a certificate stands in it.
use Rattle.std.proofs.Common.{◌≡◌, ◌==◌, ◌≤◌, ℕ, Bool, true, false, List, [], ◌∷◌, ◌++◌, length, Option, Some, None, Result, Ok, if◌then◌else◌, refl, sym, ap, ◌∙◌, subst}
use Rattle.std.specs.List.{AllByRecursion}
use Rattle.asn.specs.DerLaws.{AreOctets}
use Rattle.asn.specs.Identifier.{is_constructed}
use Rattle.asn.specs.Members.{Members, members}
use Rattle.asn.specs.Outermost.{nested}
use Rattle.asn.specs.Place.{Place, tag, body}
use Rattle.asn.specs.Walk.{◌>>=◌, is_a, optional, next_or, or_fault, each}
use Rattle.asn.proofs.Laws.{IsEncodedPart, AllParts}
use Rattle.names.specs.NameRule.TheVariants.{MailForm, UriForm}
use Rattle.names_hosts.specs.Hosts.{host_base_of}
use Rattle.names_hosts.specs.Mail.{mail_base_of}
use Rattle.cert.specs.declared.extension_kind.ExtensionKind.TheVariants as Kind
use Rattle.cert.specs.declared.fault.CertRule.{CertRule}
use Rattle.cert.specs.declared.fault.CertRule.TheVariants.{ExtensionValue, Name}
use Rattle.cert.specs.Certificate.{Certificate}
use Rattle.cert.specs.CertificateHosts.{CertificateHosts}
use Rattle.cert.specs.ExtensionValues.{ExtensionValues, read_if_there}
use Rattle.cert.specs.Fault.{as_der}
use Rattle.cert.proofs.Laws.{begins_at, Left, members_left, Within, Any, and_then, refused, Next, StandsWhereThere, is_a_within, optional_stands, next_within, or_fault_within, nested_within}
use Rattle.cert.proofs.StandingValues.{value_stands}
use Rattle.cert_hosts.specs.BaseLists.{BaseLists, no_bases}
use Rattle.cert_hosts.specs.Bases.{Base, mail_base, host_base, base_found, one_subtree, in_list, next_list, in_constraints, bases_in}
use Rattle.cert_hosts.specs.HostsWalk.{with_base, with_bases, base_lists, certificate_hosts}
use Rattle.cert_hosts.specs.Taken.{HostFaultIsWithin}

-- ---- bases that were found

abbrev place_of : Base → Place
place_of (mail_base permitted value) = value
place_of (host_base permitted value) = value

-- each begins in the text, or at its end
abbrev Begin : List ℕ → List Base → Type 0
Begin text found = AllByRecursion (λ said. (place_of said).at ≤ length text) found

both : (text : List ℕ) (earlier found : List Base) → Begin text earlier → Begin text found → Begin text (earlier ++ found)
both text [] found before here = here
both text (said ∷ earlier) found before here = (before.0, both text earlier found before.1 here)

-- a walk over values keeps it
each_begin : (text : List ℕ) (step : List Base → Place → Result (List Base) (CertRule × ℕ))
    → ((earlier : List Base) (value : Place) → Begin text earlier → IsEncodedPart text value → Within text (Begin text) (step earlier value))
    → (earlier : List Base) (values : List Place) → Begin text earlier → AllParts text values → Within text (Begin text) (each step earlier values)
each_begin text step one earlier [] before parts = before
each_begin text step one earlier (value ∷ values) before parts =
    and_then text (Begin text) (Begin text) (step earlier value) _ (one earlier value before parts.0)
    (λ next begin. each_begin text step one next values begin parts.1)

-- one value, if it is of interest
one_if : (text : List ℕ) (value : Place) (said : Place → Base) → ((v : Place) → place_of (said v) ≡ v) → value.at ≤ length text → (taken : Bool) (rest : List Base) → Begin text rest
    → Begin text (if taken then said value ∷ [] else rest)
one_if text value said same low true rest others = (subst (λ (v : Place). v.at ≤ length text) (sym (same value)) low, tt)
one_if text value said same low false rest others = others

base_begins : (text : List ℕ) (permitted : Bool) (base : Place) → IsEncodedPart text base → Begin text (base_found permitted base)
base_begins text permitted base is =
    let low = begins_at text base is in
    one_if text base (mail_base permitted) (λ v. refl) low (tag base == 0x81) _ (one_if text base (host_base permitted) (λ v. refl) low (tag base == 0x86) [] tt)

subtree_within : (text : List ℕ) (permitted : Bool) (earlier : List Base) (value : Place) → Begin text earlier → IsEncodedPart text value → Within text (Begin text) (one_subtree permitted earlier value)
unfolding one_subtree
subtree_within text permitted earlier value before is =
    and_then text (λ _. tag value ≡ 0x30) (Begin text) (is_a 0x30 ExtensionValue value) _ (is_a_within text 0x30 ExtensionValue value is) (λ _ sequence.
    and_then text (Next text) (Begin text) (next_or ExtensionValue (members value)) _ (next_within text ExtensionValue (members value) (members_left text value (ap is_constructed sequence) is)) (λ base next.
    both text earlier (base_found permitted base.0) before (base_begins text permitted base.0 next.value)))

-- what was found in a list, and the values behind it
record BeginBefore (text : List ℕ) (found : List Base × Members) : Type 0 where
  pub said : Begin text found.0
  pub left : Left text found.1

list_within : (text : List ℕ) (permitted : Bool) (identifier : ℕ) → is_constructed identifier ≡ true → (earlier : List Base) (left : Members) → Begin text earlier → Left text left
    → Within text (BeginBefore text) (next_list permitted identifier earlier left)
unfolding next_list
list_within text permitted identifier form earlier left before is =
    let o = optional_stands text identifier left is in by (optional identifier left).0 (optional identifier left).1 o.0 o.1
  where
    by : (list : Option Place) (others : Members) → StandsWhereThere text identifier list → Left text others → Within text (BeginBefore text) (in_list permitted earlier list others)
    by None others here rest = record { said = before; left = rest }
    by (Some list) others here rest =
        and_then text (Begin text) (BeginBefore text) (each (one_subtree permitted) earlier (members list).values) _
        (each_begin text (one_subtree permitted) (subtree_within text permitted) earlier (members list).values before (members_left text list (ap is_constructed here.1 ∙ form) here.0).parts)
        (λ found begin. record { said = begin; left = rest })

constraints_within : (text : List ℕ) → AreOctets text → (earlier : List Base) (value : Place) → Begin text earlier → IsEncodedPart text value → Within text (Begin text) (in_constraints earlier value)
unfolding in_constraints
constraints_within text octets earlier value before is =
    and_then text (IsEncodedPart text) (Begin text) (as_der (nested value)) _ (nested_within text value octets is) (λ inner whole.
    and_then text (λ _. tag inner ≡ 0x30) (Begin text) (is_a 0x30 ExtensionValue inner) _ (is_a_within text 0x30 ExtensionValue inner whole) (λ _ sequence.
    and_then text (BeginBefore text) (Begin text) (next_list true 0xA0 earlier (members inner)) _ (list_within text true 0xA0 refl earlier (members inner) before (members_left text inner (ap is_constructed sequence) whole)) (λ permitted first.
    and_then text (BeginBefore text) (Begin text) (next_list false 0xA1 permitted.0 permitted.1) _ (list_within text false 0xA1 refl permitted.0 permitted.1 first.said first.left) (λ excluded second. second.said))))

bases_within : (text : List ℕ) → AreOctets text → (values : ExtensionValues) → ((value : Place) → values.name_constraints ≡ Some value → IsEncodedPart text value)
    → Within text (Begin text) (bases_in values)
unfolding bases_in
bases_within text octets values stands = by values.name_constraints refl
  where
    by : (value : Option Place) → values.name_constraints ≡ value → Within text (Begin text) (read_if_there [] (in_constraints []) value)
    by None e = tt
    by (Some value) e = constraints_within text octets [] value tt (stands value e)

-- ---- what they say

base_within : (text : List ℕ) (before : BaseLists) (base : Base) → (place_of base).at ≤ length text → Within text (Any {A = BaseLists}) (with_base before base)
base_within text before (mail_base permitted value) low =
    and_then text Any Any (or_fault (mail_base_of (body value)) (Name MailForm) value.at) _ (or_fault_within text (mail_base_of (body value)) (Name MailForm) value.at low) (λ _ _. tt)
base_within text before (host_base permitted value) low =
    and_then text Any Any (or_fault (host_base_of (body value)) (Name UriForm) value.at) _ (or_fault_within text (host_base_of (body value)) (Name UriForm) value.at low) (λ _ _. tt)

all_within : (text : List ℕ) (before : BaseLists) (bases : List Base) → Begin text bases → Within text (Any {A = BaseLists}) (with_bases before bases)
all_within text before [] begin = tt
all_within text before (base ∷ bases) begin =
    and_then text Any Any (with_base before base) _ (base_within text before base begin.0) (λ next _. all_within text next bases begin.1)

hosts_within : (text : List ℕ) → AreOctets text → (c : Certificate) → ((value : Place) → c.extensions.values.name_constraints ≡ Some value → IsEncodedPart text value)
    → Within text (Any {A = CertificateHosts}) (certificate_hosts c)
unfolding certificate_hosts base_lists
hosts_within text octets c stands =
    and_then text Any Any (bases_in c.extensions.values >>= λ bases. with_bases no_bases bases) _
    (and_then text (Begin text) Any (bases_in c.extensions.values) _ (bases_within text octets c.extensions.values stands) (λ bases begin. all_within text no_bases bases begin))
    (λ _ _. tt)

pub fault_is_within : HostFaultIsWithin
fault_is_within octets certificate rule at fits is e =
    refused octets Any (certificate_hosts certificate) rule at
    (hosts_within octets fits certificate (λ value kept. value_stands octets certificate fits is Kind.NameConstraints value kept)) e
