-- What a certificate of a path has to meet (RFC 5280, 6.1.3 to 6.1.5), each looked at over the whole path; those on it alone
-- stand in CertificateConditions.
use Rattle.std.specs.Prelude.{◌≡◌, ◌≢◌, ◌⊎◌, ◌<◌, ◌≤◌, ◌-◌, ℕ, List, false, not, IsTrue, Some, count_by, take, drop}
use Rattle.names.specs.GeneralLayout.{NameContents}
use Rattle.names.specs.DistinguishedName.{NamesMatch}
use Rattle.cert.specs.Certificate.{Certificate, is_self_issued}
use Rattle.cert.specs.CertificateHosts.{CertificateHosts}
use Rattle.cert.specs.NameConstraints.{NameConstraints}
use Rattle.path_host_constraints.specs.HostConditions.{PermitHosts, ExcludeNoHost, HaveHosts}
use Rattle.path.specs.declared.reason.Reason.{Reason}
use Rattle.path.specs.declared.reason.Reason.TheVariants.{Repeated, Signature, NotYet, Expired, Issuer, NotPermitted, Excluded, ConstraintForm, NotCa, PathLength, KeyCertSign, Policy, CriticalUnknown, Purpose, Empty, TooLong, NoValidPolicy, AnyPolicyMapped, NoUserPolicy}
use Rattle.path.specs.Query.{Query, Accepts, count, certificate_numbered}
use Rattle.path_conditions.specs.NamesOf.{PermitsNamesOf, ExcludesNoNameOf, ConstrainsNoFormOf}
use Rattle.path_conditions.specs.CertificateConditions.{HasBegun, HasNotExpired, IsCa, path_length_of, MaySignCertificates, NeedsNoPolicyTree, CriticalExtensionsAreKnown, AllowsPurpose}

-- no earlier certificate of the path has the same octets (a choice of the profile)
abbrev pub IsNotRepeated : Query → ℕ → Type 0
IsNotRepeated q j = (i : ℕ) → 1 ≤ i → i < j → (certificate_numbered q i).octets ≢ (certificate_numbered q j).octets

-- the signature is accepted under the key of the issuer (6.1.3 (a) (1))
abbrev pub IsSignedByIssuer : Accepts → Certificate → List ℕ → Type 0
IsSignedByIssuer accepts c key = IsTrue (accepts c.algorithm.value.octets key c.tbs.octets c.signature.octets)

-- the issuer has the name (6.1.3 (a) (4))
abbrev pub IsNamedByIssuer : Certificate → NameContents → Type 0
IsNamedByIssuer c name = NamesMatch c.issuer.rdns name.rdns

-- the names of certificate j are checked: it is the last one, or not self-issued (6.1.3 (b) and (c))
abbrev pub AreNamesChecked : Query → ℕ → Type 0
AreNamesChecked q j = (j ≡ count q) ⊎ (is_self_issued (certificate_numbered q j) ≡ false)

-- the constraints of certificate i; the anchor has none
abbrev pub constraints_at : Query → ℕ → NameConstraints
constraints_at q i = (certificate_numbered q i).extensions.name_constraints

-- A certificate permits each name of a processed form of a later one (6.1.3 (b)), and, where that is processed, each mail address and host.
pub record PermitNames (above c : Certificate) : Type 0 where
  pub names : PermitsNamesOf above.extensions.name_constraints c
  pub hosts : PermitHosts above.hosts c.hosts

-- it excludes none of them (6.1.3 (c))
pub record ExcludeNoName (above c : Certificate) : Type 0 where
  pub names : ExcludesNoNameOf above.extensions.name_constraints c
  pub hosts : ExcludeNoHost above.hosts c.hosts

-- It constrains no form that is not processed and that a name has, and no URIs if one has no host that is a DNS name (4.2.1.10).
pub record ConstrainNoOtherForm (above c : Certificate) : Type 0 where
  pub names : ConstrainsNoFormOf above.extensions.name_constraints c
  pub hosts : HaveHosts above.hosts c.hosts

-- each earlier certificate does
abbrev pub NamesArePermitted : Query → ℕ → Type 0
NamesArePermitted q j = (i : ℕ) → 1 ≤ i → i < j → PermitNames (certificate_numbered q i) (certificate_numbered q j)

abbrev pub NamesAreNotExcluded : Query → ℕ → Type 0
NamesAreNotExcluded q j = (i : ℕ) → 1 ≤ i → i < j → ExcludeNoName (certificate_numbered q i) (certificate_numbered q j)

abbrev pub ConstraintsAreProcessed : Query → ℕ → Type 0
ConstraintsAreProcessed q j = (i : ℕ) → 1 ≤ i → i < j → ConstrainNoOtherForm (certificate_numbered q i) (certificate_numbered q j)

-- what certificate i says of mail addresses and hosts, where that is processed
abbrev pub hosts_at : Query → ℕ → CertificateHosts
hosts_at q i = (certificate_numbered q i).hosts

-- how many of the certificates i + 1 to j are not self-issued
abbrev pub others_between : Query → ℕ → ℕ → ℕ
others_between q i j = count_by (λ c. not (is_self_issued c)) (drop i (take j q.certificates))

-- behind each certificate with a path length come no more that are not self-issued (6.1.4 (l) and (m))
abbrev pub IsWithinPathLength : Query → ℕ → Type 0
IsWithinPathLength q j =
    (i most : ℕ) → 1 ≤ i → i < j → path_length_of (certificate_numbered q i) ≡ Some most → others_between q i j ≤ most

-- the condition whose breach is the reason, on certificate j
abbrev pub MeetsCondition : Accepts → Query → ℕ → Reason → Type 0
MeetsCondition accepts q j Repeated = IsNotRepeated q j
MeetsCondition accepts q j Signature = IsSignedByIssuer accepts (certificate_numbered q j) (certificate_numbered q (j - 1)).key_info.value.octets
MeetsCondition accepts q j NotYet = HasBegun (certificate_numbered q j) q.moment
MeetsCondition accepts q j Expired = HasNotExpired (certificate_numbered q j) q.moment
MeetsCondition accepts q j Issuer = IsNamedByIssuer (certificate_numbered q j) (certificate_numbered q (j - 1)).subject
MeetsCondition accepts q j NotPermitted = AreNamesChecked q j → NamesArePermitted q j
MeetsCondition accepts q j Excluded = AreNamesChecked q j → NamesAreNotExcluded q j
MeetsCondition accepts q j ConstraintForm = AreNamesChecked q j → ConstraintsAreProcessed q j
MeetsCondition accepts q j NotCa = j < count q → IsCa (certificate_numbered q j)
MeetsCondition accepts q j PathLength = j < count q → IsWithinPathLength q j
MeetsCondition accepts q j KeyCertSign = j < count q → MaySignCertificates (certificate_numbered q j)
MeetsCondition accepts q j Policy = NeedsNoPolicyTree (certificate_numbered q j)
MeetsCondition accepts q j CriticalUnknown = CriticalExtensionsAreKnown q.options.profile (certificate_numbered q j)
MeetsCondition accepts q j Purpose = j ≡ count q → AllowsPurpose q.options.profile (certificate_numbered q j) q.purpose
MeetsCondition accepts q j Empty = Unit {0}
MeetsCondition accepts q j TooLong = Unit {0}
MeetsCondition accepts q j NoValidPolicy = Unit {0}
MeetsCondition accepts q j AnyPolicyMapped = Unit {0}
MeetsCondition accepts q j NoUserPolicy = Unit {0}

abbrev pub MeetsConditions : Accepts → Query → ℕ → Type 0
MeetsConditions accepts q j = (reason : Reason) → MeetsCondition accepts q j reason
