-- What a certificate of a path has to meet alone (RFC 5280, 6.1.3 to 6.1.5).
use Rattle.std.specs.Prelude.{◌≡◌, ◌⊎◌, ◌||◌, ◌==◌, ◌≤ℤ◌, ℕ, ℤ, List, [], ◌∷◌, Bool, true, false, Option, Some, None, MatchOption, Contains, length, if◌then◌else◌}
use Rattle.std.specs.List.{list_all, list_any}
use Rattle.std.specs.Option.{option_copied}
use Rattle.std.specs.Borrow.{Bor}
use Rattle.std.specs.Str.{bytes_eq}
use Rattle.cert.specs.declared.version.Version.TheVariants.{V3}
use Rattle.cert.specs.Certificate.{Certificate}
use Rattle.cert.specs.BasicConstraints.{BasicConstraints, path_len_constraint}
use Rattle.cert.specs.Extensions.{Extensions}
use Rattle.cert.specs.KeyUsage.{has_bit}
use Rattle.cert_policies.specs.ProcessedPolicies.{ArePoliciesProcessed}
use Rattle.statements_facts.specs.declared.profile.Profile.{Profile}
use Rattle.statements_facts.specs.declared.profile.Profile.TheVariants.{Stated, Wide}

-- the validity includes the moment (6.1.3 (a) (2))
abbrev pub HasBegun : Certificate → ℤ → Type 0
HasBegun c moment = c.validity.not_before ≤ℤ moment

abbrev pub HasNotExpired : Certificate → ℤ → Type 0
HasNotExpired c moment = moment ≤ℤ c.validity.not_after

-- version 3, and basicConstraints with cA (6.1.4 (k))
abbrev pub HasCa : Option BasicConstraints → Type 0
HasCa constraints = MatchOption constraints ⊥ (λ found. found.ca ≡ true)

abbrev pub IsCa : Certificate → Type 0
IsCa c = (c.version ≡ V3) × HasCa c.extensions.basic_constraints

-- pathLenConstraint
abbrev pub path_length_of : Certificate → Option ℕ
path_length_of c = path_len_constraint c.extensions.basic_constraints

-- where there is a keyUsage, it has keyCertSign (5) (6.1.4 (n))
abbrev pub MaySignCertificates : Certificate → Type 0
MaySignCertificates c = MatchOption c.extensions.key_usage (Unit {0}) (λ bits. has_bit bits 5 ≡ true)

-- neither policyMappings, policyConstraints nor inhibitAnyPolicy: the profile builds no policy tree
abbrev pub NeedsNoPolicyTree : Certificate → Type 0
NeedsNoPolicyTree c = c.extensions.needs_policy_processing ≡ false

-- cRLDistributionPoints (4.2.1.13): 2.5.29.31
abbrev pub distribution_points : List ℕ
distribution_points = 0x55 ∷ 0x1D ∷ 0x1F ∷ []

-- The wide profile knows cRLDistributionPoints too, and processes certificatePolicies where it is critical (4.2, 4.2.1.4).
pub record AreKnownInWide (said : Extensions) : Type 0 where
  pub types : list_all (λ type. bytes_eq type distribution_points) said.unrecognised ≡ true
  pub policies : said.critical_policies ≡ true → MatchOption said.values.policies (Unit {0}) ArePoliciesProcessed

-- each critical extension is recognised (6.1.4 (o) and 6.1.5 (f))
abbrev pub CriticalExtensionsAreKnown : Profile → Certificate → Type 0
CriticalExtensionsAreKnown Stated c = c.extensions.unrecognised ≡ []
CriticalExtensionsAreKnown Wide c = AreKnownInWide c.extensions

-- anyExtendedKeyUsage (4.2.1.12): 2.5.29.37.0
abbrev pub any_purpose : List ℕ
any_purpose = 0x55 ∷ 0x1D ∷ 0x25 ∷ 0x00 ∷ []

-- where a purpose is asked for and there is an extKeyUsage, that lists it, or any (4.2.1.12)
abbrev pub ListsPurpose : Certificate → Option (List ℕ) → Type 0
ListsPurpose c None = Unit {0}
ListsPurpose c (Some purpose) =
    (c.extensions.purposes ≡ []) ⊎ (Contains c.extensions.purposes purpose ⊎ Contains c.extensions.purposes any_purpose)

-- id-kp (4.2.1.12), 1.3.6.1.5.5.7.3, and one number behind it
abbrev pub id_kp : ℕ → List ℕ
id_kp number = 0x2B ∷ 0x06 ∷ 0x01 ∷ 0x05 ∷ 0x05 ∷ 0x07 ∷ 0x03 ∷ number ∷ []

-- The bits of keyUsage that may go with a purpose (4.2.1.12): with serverAuth (1) digitalSignature (0), keyEncipherment (2) and keyAgreement
-- (4); with clientAuth (2) the first and the last of these; with codeSigning (3) digitalSignature; with emailProtection (4) all of these
-- and nonRepudiation (1); with timeStamping (8) and OCSPSigning (9) digitalSignature and nonRepudiation. Of other purposes nothing is said.
abbrev pub bits_for : List ℕ → List ℕ
bits_for purpose =
    if bytes_eq purpose (id_kp 1) then 0 ∷ 2 ∷ 4 ∷ []
    else (if bytes_eq purpose (id_kp 2) then 0 ∷ 4 ∷ []
    else (if bytes_eq purpose (id_kp 3) then 0 ∷ []
    else (if bytes_eq purpose (id_kp 4) then 0 ∷ 1 ∷ 2 ∷ 4 ∷ []
    else (if bytes_eq purpose (id_kp 8) then 0 ∷ 1 ∷ []
    else (if bytes_eq purpose (id_kp 9) then 0 ∷ 1 ∷ [] else [])))))

-- one of them is there, if something is said
abbrev pub has_one_of : List ℕ → List ℕ → Bool
has_one_of wanted bits = length wanted == 0 || list_any (λ index. has_bit bits index) wanted

-- where a purpose is asked for and there is a keyUsage, one of the bits that go with it is there (4.2.1.12)
abbrev pub GoesWithKeyUsage : Certificate → Option (List ℕ) → Type 0
GoesWithKeyUsage c None = Unit {0}
GoesWithKeyUsage c (Some purpose) =
    MatchOption c.extensions.key_usage (Unit {0}) (λ bits. has_one_of (bits_for purpose) bits ≡ true)

-- the certificate is for the purpose, by extKeyUsage, and in the wide profile by keyUsage too (4.2.1.12)
abbrev pub AllowsPurpose : Profile → Certificate → Option (List ℕ) → Type 0
AllowsPurpose Stated c purpose = ListsPurpose c purpose
AllowsPurpose Wide c purpose = ListsPurpose c purpose × GoesWithKeyUsage c purpose

abbrev pub AllowsAsked : Profile → Certificate → Option (Bor (List ℕ)) → Type 0
AllowsAsked profile c purpose = AllowsPurpose profile c (option_copied purpose)

abbrev pub lists_purpose : List ℕ → List ℕ → Bool
lists_purpose purpose listed = bytes_eq listed purpose || bytes_eq listed any_purpose
