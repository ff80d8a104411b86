-- What an issuingDistributionPoint says that is served (RFC 5280, 5.2.5): which certificates of its issuer a list is about, and at which
-- points it is published.
use Rattle.std.specs.Prelude.{◌==◌, ℕ, List, [], ◌∷◌, Option, Some, None, option_map, Result, Ok, Err, if◌then◌else◌}
use Rattle.std.specs.Str.{bytes_eq}
use Rattle.asn.specs.Rule.{Rule}
use Rattle.asn.specs.Place.{Place, body}
use Rattle.asn.specs.Members.{Members, members}
use Rattle.asn.specs.Walk.{◌>>=◌, is_a, next_or, or_fault}
use Rattle.asn.specs.Outermost.{nested}
use Rattle.cert.specs.declared.fault.CertRule.{CertRule}
use Rattle.cert.specs.declared.fault.CertRule.TheVariants.{ExtensionValue}
use Rattle.statements_facts.specs.declared.profile.Profile.{Profile}
use Rattle.statements_facts.specs.declared.profile.Profile.TheVariants.{Stated, Wide}
use Rattle.cert_points.specs.CompleteNames.{names_if_any}
use Rattle.cert_points.specs.PointName.{PointName, full_name, relative, point_name}
use Rattle.statements_facts.specs.declared.scope.Scope.{Scope}
use Rattle.statements_facts.specs.declared.scope.Scope.TheVariants.{All, User, Ca}
use Rattle.statements_crl.specs.declared.issuing_point.IssuingPoint as code
use Rattle.statements_crl.specs.IssuerScope.{scope_in}

-- The scope; and the general names of the point, each as its octets, of which a whole list has none.
pub record IssuingPoint : Type 0 where
  pub scope : Scope
  pub points : List (List ℕ)

abbrev pub seen_issuing_point : code.IssuingPoint → IssuingPoint
seen_issuing_point read = record { scope = read.scope; points = names_if_any read.points }

-- onlyContainsUserCerts [1] TRUE and onlyContainsCACerts [2] TRUE
abbrev pub only_users : List ℕ
only_users = 0x81 ∷ 0x01 ∷ 0xFF ∷ []

abbrev pub only_authorities : List ℕ
only_authorities = 0x82 ∷ 0x01 ∷ 0xFF ∷ []

unfoldable pub scope_of_flag : List ℕ → Option Scope
scope_of_flag octets = if bytes_eq octets only_users then Some User else (if bytes_eq octets only_authorities then Some Ca else None)

-- no flag, or one of the two and nothing behind it
abbrev pub scope_of_flags : List Place → Option Scope
scope_of_flags [] = Some All
scope_of_flags (flag ∷ []) = scope_of_flag flag.octets
scope_of_flags (flag ∷ other ∷ values) = None

abbrev pub names_in : PointName → Option (List (List ℕ))
names_in (full_name names) = Some names
names_in relative = None

-- distributionPoint [0]: a full name
unfoldable pub full_names : Place → Result (List (List ℕ)) (CertRule × ℕ)
full_names value = point_name value >>= λ name. or_fault (names_in name) ExtensionValue value.at

-- The checks of the value in their order.
unfoldable pub published : Place → Result IssuingPoint (CertRule × ℕ)
published value = do
  sequence ← is_a 0x30 ExtensionValue value
  name ← next_or ExtensionValue (members value)
  names ← full_names name.0
  scope ← or_fault (scope_of_flags name.1.values) ExtensionValue value.at
  Ok (record { scope = scope; points = names })

abbrev pub answer_of : Result IssuingPoint (CertRule × ℕ) → Option IssuingPoint
answer_of (Ok point) = Some point
answer_of (Err fault) = None

abbrev pub published_at : Result Place (Rule × ℕ) → Option IssuingPoint
published_at (Ok value) = answer_of (published value)
published_at (Err fault) = None

-- of the OCTET STRING of the extension
unfoldable pub published_in : Place → Option IssuingPoint
published_in octet_string = published_at (nested octet_string)

abbrev pub whole_list : Scope → IssuingPoint
whole_list scope = record { scope = scope; points = [] }

abbrev pub or_published : Option Scope → Option IssuingPoint → Option IssuingPoint
or_published (Some scope) point = Some (whole_list scope)
or_published None point = point

-- The stated profile serves whole lists of two scopes, beside those without this extension; the wide one also lists with full names.
abbrev pub issuing_point : Profile → Place → Option IssuingPoint
issuing_point Stated octet_string = option_map whole_list (scope_in (body octet_string))
issuing_point Wide octet_string = or_published (scope_in (body octet_string)) (published_in octet_string)
