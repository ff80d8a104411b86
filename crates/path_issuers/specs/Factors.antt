-- What a valid path is made of, seen from its target upward: what each certificate meets alone, and what each meets with those below it
-- (RFC 5280, 6.1.3 to 6.1.5), as a path meets it that is built in the forward direction (RFC 4158).
use Rattle.std.specs.Prelude.{◌≡◌, ◌≢◌, ◌↔◌, ◌≤◌, ◌-◌, ◌++◌, ℕ, ℤ, List, [], ◌∷◌, Option, Some, false, not, count_by, length, take}
use Rattle.std.specs.List.{AllByRecursion}
use Rattle.cert.specs.Certificate.{Certificate, is_self_issued}
use Rattle.path_conditions.specs.CertificateConditions.{HasBegun, HasNotExpired, IsCa, path_length_of, MaySignCertificates, NeedsNoPolicyTree, CriticalExtensionsAreKnown, AllowsPurpose}
use Rattle.path.specs.declared.options.Options.{Options}
use Rattle.path.specs.Conditions.{ConstrainNoOtherForm, ExcludeNoName, IsNamedByIssuer, IsSignedByIssuer, PermitNames}
use Rattle.path.specs.Query.{Accepts, Query}
use Rattle.path.specs.Validity.{IsServed, IsValidPath}

-- what each certificate of a path meets alone
pub record IsRightAlone (options : Options) (moment : ℤ) (c : Certificate) : Type 0 where
  pub begun : HasBegun c moment
  pub not_expired : HasNotExpired c moment
  pub policy : NeedsNoPolicyTree c
  pub known : CriticalExtensionsAreKnown options.profile c

-- the target, which is the last one
pub record IsRightAsTarget (options : Options) (moment : ℤ) (purpose : Option (List ℕ)) (c : Certificate) : Type 0 where
  pub alone : IsRightAlone options moment c
  pub allowed : AllowsPurpose options.profile c purpose

-- each other one, an authority
pub record IsRightAsAuthority (options : Options) (moment : ℤ) (c : Certificate) : Type 0 where
  pub alone : IsRightAlone options moment c
  pub ca : IsCa c
  pub may_sign : MaySignCertificates c

-- the issuer's name is in the certificate, and the issuer's key accepts its signature (6.1.3 (a) (1) and (4))
pub record Issues (accepts : Accepts) (issuer c : Certificate) : Type 0 where
  pub named : IsNamedByIssuer c issuer.subject
  pub signed : IsSignedByIssuer accepts c issuer.key_info.value.octets

-- the issuer issues the first of certificates that are in order down to a target
abbrev pub IssuesFirst : Accepts → Certificate → List Certificate → Type 0
IssuesFirst accepts issuer [] = ⊥
IssuesFirst accepts issuer (c ∷ below) = Issues accepts issuer c

-- the constraints of one certificate let the names of another pass
pub record AdmitNames (above c : Certificate) : Type 0 where
  pub permitted : PermitNames above c
  pub not_excluded : ExcludeNoName above c
  pub processed : ConstrainNoOtherForm above c

-- of certificates that are in order down to a target, the fact holds of the target, and of each above it that is not self-issued
abbrev pub HoldsOfNamed : (Certificate → Type 0) → List Certificate → Type 0
HoldsOfNamed Holds [] = Unit {0}
HoldsOfNamed Holds (target ∷ []) = Holds target
HoldsOfNamed Holds (c ∷ next ∷ below) = (is_self_issued c ≡ false → Holds c) × HoldsOfNamed Holds (next ∷ below)

-- the constraints let their names pass
abbrev pub AdmitNamesBelow : Certificate → List Certificate → Type 0
AdmitNamesBelow above below = HoldsOfNamed (AdmitNames above) below

-- how many certificates above the target are not self-issued
abbrev pub others_above_target : List Certificate → ℕ
others_above_target certificates = count_by (λ c. not (is_self_issued c)) (take (length certificates - 1) certificates)

-- if the certificate has a path length, it allows as many (6.1.4 (l) and (m))
abbrev pub AllowsLength : Certificate → List Certificate → Type 0
AllowsLength c below = (most : ℕ) → path_length_of c ≡ Some most → others_above_target below ≤ most

-- no certificate has the octets (a choice of the profile)
abbrev pub Lacks : List ℕ → List Certificate → Type 0
Lacks octets certificates = AllByRecursion (λ c. c.octets ≢ octets) certificates

-- the certificate is right above others that are in order down to a target
pub record IsRightAbove (options : Options) (accepts : Accepts) (moment : ℤ) (c : Certificate) (below : List Certificate) : Type 0 where
  pub authority : IsRightAsAuthority options moment c
  pub issues : IssuesFirst accepts c below
  pub different : Lacks c.octets below
  pub length : AllowsLength c below
  pub names : AdmitNamesBelow c below

-- certificates in order down to a target are right, whatever stands above them
abbrev pub AreRight : Options → Accepts → ℤ → Option (List ℕ) → List Certificate → Type 0
AreRight options accepts moment purpose [] = ⊥
AreRight options accepts moment purpose (target ∷ []) = IsRightAsTarget options moment purpose target
AreRight options accepts moment purpose (c ∷ next ∷ below) =
    IsRightAbove options accepts moment c (next ∷ below) × AreRight options accepts moment purpose (next ∷ below)

-- laws

-- a path is valid exactly if it is served, its anchor issues its first certificate, and its certificates are right
abbrev pub ValidPathFactors : Type 0
ValidPathFactors =
    (accepts : Accepts) (q : Query) →
    IsValidPath accepts q
    ↔ (IsServed q × IssuesFirst accepts q.anchor q.certificates × AreRight q.options accepts q.moment q.purpose q.certificates)

-- the last certificates of a valid path are right
abbrev pub TailIsRight : Type 0
TailIsRight =
    (accepts : Accepts) (q : Query) (above below : List Certificate) →
    IsValidPath accepts q → q.certificates ≡ above ++ below → below ≢ [] →
    AreRight q.options accepts q.moment q.purpose below
