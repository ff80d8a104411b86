-- The constraints that hold behind the certificates passed so far (RFC 5280, 6.1.2 (b) and (c)): for each processed form the
-- permitted subtrees, where some certificate had any, and the excluded subtrees.
use Rattle.std.specs.Prelude.{◌≡◌, ◌+◌, ◌++◌, ◌||◌, ℕ, List, [], Bool, true, false, Option, Some, None, length, filter, slice_index_or}
use Rattle.std.specs.List.{list_all, list_any}
use Rattle.names.specs.declared.general.Form.{Form}
use Rattle.names.specs.declared.general.Form.TheVariants as F
use Rattle.names.specs.GeneralLayout.{NameContents, GeneralName, SubtreeBase, directory_name, dns_name, ip_address, other_name}
use Rattle.names.specs.GeneralCoverage.{form_of_general_name, is_of_form}
use Rattle.names.specs.DistinguishedName.{HasKind}
use Rattle.cert.specs.Certificate.{Certificate, seen_certificate}
use Rattle.cert.specs.CertificateHosts.{seen_hosts}
use Rattle.cert.specs.NameConstraints.{NameConstraints}
use Rattle.cert.specs.declared.certificate.Certificate as read
use Rattle.path_host_constraints.specs.HostConstraints.{HostConstraints, DoNotExclude, HasNoBase, Narrows, Permit, no_constraints as no_host_constraints}
use Rattle.path_conditions.specs.declared.constraints.Constraints as code
use Rattle.path_conditions.specs.declared.form_set.FormSet.{FormSet}
use Rattle.path_conditions.specs.NamesOf.{IsInOneOf, BearsForm, names_of, subject_names, email_address}
use Rattle.path_conditions.specs.Narrowing.{bases_of, is_in_one_of, are_about, has_processed, is_processed_base, changed, change_of}

pub record Constraints : Type 0 where
  pub directory : Option (List SubtreeBase)
  pub dns : Option (List SubtreeBase)
  pub ip : Option (List SubtreeBase)
  pub excluded : List SubtreeBase
  -- on mail addresses and hosts
  pub hosts : HostConstraints

abbrev pub seen_constraints : code.Constraints → Constraints
seen_constraints held = record {
  directory = held.directory;
  dns = held.dns;
  ip = held.ip;
  excluded = held.excluded;
  hosts = held.hosts;
}

-- those before the first certificate, which admit every name
abbrev pub no_constraints : Constraints
no_constraints = record { directory = None; dns = None; ip = None; excluded = []; hosts = no_host_constraints }

-- the permitted subtrees for names of the form
abbrev pub permitted_for : Constraints → Form → Option (List SubtreeBase)
permitted_for held F.Directory = held.directory
permitted_for held F.Dns = held.dns
permitted_for held F.Ip = held.ip
permitted_for held (F.Other number) = None

-- no list permits every name, a list those that lie in one of it; an empty list permits none
abbrev pub PermitsIn : Option (List SubtreeBase) → GeneralName → Type 0
PermitsIn None name = Unit {0}
PermitsIn (Some list) name = IsInOneOf list name

abbrev pub AdmitsName : Constraints → GeneralName → Type 0
AdmitsName held name = PermitsIn (permitted_for held (form_of_general_name name)) name × ¬ IsInOneOf held.excluded name

-- how many subtrees there are
abbrev pub size_of : Option (List SubtreeBase) → ℕ
size_of None = 0
size_of (Some list) = length list

abbrev pub subtree_count : Constraints → ℕ
subtree_count held = size_of held.directory + size_of held.dns + size_of held.ip + length held.excluded

-- the constraints behind one more certificate, with those on mail addresses and hosts as they are
abbrev pub narrowed_by : NameConstraints → Constraints → Constraints
narrowed_by carried held = record held {
  directory = changed held.directory (change_of F.Directory held.directory carried.permitted);
  dns = changed held.dns (change_of F.Dns held.dns carried.permitted);
  ip = changed held.ip (change_of F.Ip held.ip carried.permitted);
  excluded = held.excluded ++ filter (λ base. is_processed_base base) carried.excluded;
}

-- behind one more certificate
pub record AreNarrowed (c : Certificate) (old new : Constraints) : Type 0 where
  pub lists : new ≡ record (narrowed_by c.extensions.name_constraints old) { hosts = new.hosts }
  pub hosts : Narrows c.hosts old.hosts new.hosts

-- the same of those that are held
abbrev pub IsNarrowedBy : read.Certificate → code.Constraints → code.Constraints → Type 0
IsNarrowedBy c old new = AreNarrowed (seen_certificate c) (seen_constraints old) (seen_constraints new)

-- a certificate carries no subtree of a processed form
pub record HasNoProcessed (c : read.Certificate) : Type 0 where
  pub permitted : has_processed (bases_of c.extensions.name_constraints.permitted.items) ≡ false
  pub excluded : has_processed (bases_of c.extensions.name_constraints.excluded.items) ≡ false
  pub hosts : HasNoBase (seen_hosts c.hosts)

-- tests

abbrev pub permits_in : Option (List SubtreeBase) → GeneralName → Bool
permits_in None name = true
permits_in (Some list) name = is_in_one_of list name

abbrev pub permits_name : Constraints → GeneralName → Bool
permits_name held (directory_name name) = permits_in held.directory (directory_name name)
permits_name held (dns_name name) = permits_in held.dns (dns_name name)
permits_name held (ip_address name) = permits_in held.ip (ip_address name)
permits_name held (other_name number name) = true

-- the constraints that are held permit all names, and exclude one of them
abbrev pub permits_each : Constraints → List GeneralName → Bool
permits_each held names = list_all (λ name. permits_name held name) names

abbrev pub excludes_one : Constraints → List GeneralName → Bool
excludes_one held names = list_any (λ name. is_in_one_of held.excluded name) names

-- they permit, and exclude none of, the names of a certificate, its mail addresses and hosts
pub record PermitsEach (held : Constraints) (c : Certificate) : Type 0 where
  pub names : permits_each held (names_of c) ≡ true
  pub hosts : Permit held.hosts c.hosts

pub record ExcludesNone (held : Constraints) (c : Certificate) : Type 0 where
  pub names : excludes_one held (names_of c) ≡ false
  pub hosts : DoNotExclude held.hosts c.hosts

-- the subject as a name, where it is not empty
abbrev pub names_in_subject : NameContents → List GeneralName
names_in_subject subject = subject_names subject subject.rdns

-- the number is in the set
abbrev pub has_number : FormSet → ℕ → Bool
has_number set number = slice_index_or set.numbers number false

-- the set has the form of a subtree as well, or the forms of several, where they are not processed
abbrev pub AddsForm : SubtreeBase → FormSet → FormSet → Type 0
AddsForm base old new =
    (number : ℕ) → has_number new number ≡ (has_number old number || is_of_form base (F.Other number))

abbrev pub AddsForms : List SubtreeBase → FormSet → FormSet → Type 0
AddsForms bases old new =
    (number : ℕ) → has_number new number ≡ (has_number old number || are_about bases (F.Other number))

-- the same of the subtrees that a certificate carries, permitted and excluded
abbrev pub AddsFormsOf : NameConstraints → FormSet → FormSet → Type 0
AddsFormsOf constraints old new =
    (number : ℕ) → has_number new number
    ≡ ((has_number old number || are_about constraints.permitted (F.Other number))
    || are_about constraints.excluded (F.Other number))

-- the form of rfc822Name is in the set, and the subject has an emailAddress
abbrev pub HasFormOfEmail : FormSet → NameContents → Type 0
HasFormOfEmail set subject = (has_number set 1 ≡ true) × HasKind email_address subject.rdns

abbrev pub has_form_of : FormSet → GeneralName → Bool
has_form_of set (directory_name name) = false
has_form_of set (dns_name name) = false
has_form_of set (ip_address name) = false
has_form_of set (other_name number name) = has_number set number

-- the certificate bears a name of a form of the set
abbrev pub BearsOneOf : FormSet → Certificate → Type 0
BearsOneOf set c = (number : ℕ) × (has_number set number ≡ true) × BearsForm c number
