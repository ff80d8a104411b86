-- issuingDistributionPoint (RFC 5280, 5.2.5): which certificates of its issuer a list is about
use Rattle.std.specs.Prelude.{ℕ, List, [], ◌∷◌, Option, Some, None, if◌then◌else◌}
use Rattle.std.specs.Str.{bytes_eq}
use Rattle.statements_facts.specs.declared.scope.Scope.{Scope}
use Rattle.statements_facts.specs.declared.scope.Scope.TheVariants.{User, Ca}

-- SEQUENCE { onlyContainsUserCerts [1] TRUE } and SEQUENCE { onlyContainsCACerts [2] TRUE }
abbrev pub user_certificates : List ℕ
user_certificates = 0x30 ∷ 0x03 ∷ 0x81 ∷ 0x01 ∷ 0xFF ∷ []

abbrev pub ca_certificates : List ℕ
ca_certificates = 0x30 ∷ 0x03 ∷ 0x82 ∷ 0x01 ∷ 0xFF ∷ []

-- the two scopes that are served beside that of all certificates
unfoldable pub scope_in : List ℕ → Option Scope
scope_in octets = if bytes_eq octets user_certificates then Some User else (if bytes_eq octets ca_certificates then Some Ca else None)
