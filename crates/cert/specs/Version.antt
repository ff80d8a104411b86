-- The version of a certificate (RFC 5280, 4.1.2.1): [0] EXPLICIT INTEGER { v1(0), v2(1), v3(2) } DEFAULT v1
use Rattle.std.specs.Prelude.{◌≡◌, ℕ, ◌==◌, Bool, true, false, List, [], ◌∷◌, Option, Some, None, Result, Ok, if◌then◌else◌}
use Rattle.asn.specs.Place.{Place, tag, body}
use Rattle.asn.specs.Members.{Members, members}
use Rattle.asn.specs.Walk.{◌>>=◌, optional, required, ended, or_fault}
use Rattle.cert.specs.declared.fault.CertRule.{CertRule}
use Rattle.cert.specs.declared.fault.CertRule.TheVariants as R
use Rattle.cert.specs.declared.version.Version.{Version}
use Rattle.cert.specs.declared.version.Version.TheVariants.{V1, V2, V3}

abbrev pub is_v1 : Version → Bool
is_v1 V1 = true
is_v1 V2 = false
is_v1 V3 = false

abbrev pub is_v3 : Version → Bool
is_v3 V1 = false
is_v3 V2 = false
is_v3 V3 = true

abbrev pub version_number : Version → ℕ
version_number V1 = 1
version_number V2 = 2
version_number V3 = 3

-- the version that the contents of an INTEGER name; v1 is the default, which DER leaves out
abbrev pub version_of : List ℕ → Option Version
version_of [] = None
version_of (number ∷ []) = if number == 1 then Some V2 else (if number == 2 then Some V3 else None)
version_of (number ∷ other ∷ octets) = None

-- The checks in their order.
abbrev pub version_in : Option Place → Members → Result (Version × Members) (CertRule × ℕ)
version_in None left = Ok (V1, left)
version_in (Some explicit) left = do
  number ← required 0x02 R.Layout (members explicit)
  version ← or_fault (version_of (body number.0)) R.Version number.0.at
  done ← ended R.Layout number.1
  Ok (version, left)

unfoldable pub version : Members → Result (Version × Members) (CertRule × ℕ)
version left = version_in (optional 0xA0 left).0 (optional 0xA0 left).1

-- The value is an explicit tag round the INTEGER of the version.
pub record IsExplicitVersion (value : Place) (version : Version) : Type 0 where
  pub number : Place
  pub explicit : tag value ≡ 0xA0
  pub members_are : (members value).values ≡ number ∷ []
  pub integer : tag number ≡ 0x02
  pub known : version_of (body number) ≡ Some version

-- The version is there, or it is v1.
abbrev pub IsVersion : List Place → Version → Type 0
IsVersion [] version = version ≡ V1
IsVersion (value ∷ []) version = IsExplicitVersion value version
IsVersion (value ∷ other ∷ values) version = ⊥
