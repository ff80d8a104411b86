-- RelativeDistinguishedName (RFC 5280, 4.1.2.4): SET SIZE (1..MAX) OF AttributeTypeAndValue, of which the order,
-- the types and the values are passed over
use Rattle.std.specs.Prelude.{◌≡◌, ◌≢◌, ◌↔◌, ℕ, [], ◌∷◌, Result, Ok}
use Rattle.std.specs.List.{AllByRecursion}
use Rattle.asn.specs.Place.{Place, tag}
use Rattle.asn.specs.Members.{members}
use Rattle.asn.specs.Walk.{◌>>=◌, is_a, required, next_or, some, ended, each}
use Rattle.cert.specs.declared.fault.CertRule.{CertRule}
use Rattle.cert.specs.declared.fault.CertRule.TheVariants.{ExtensionValue}

-- SEQUENCE { type OBJECT IDENTIFIER, value ANY }, behind others
unfoldable pub type_and_value : Unit {0} → Place → Result (Unit {0}) (CertRule × ℕ)
type_and_value earlier value = do
  sequence ← is_a 0x30 ExtensionValue value
  type ← required 0x06 ExtensionValue (members value)
  said ← next_or ExtensionValue type.1
  ended ExtensionValue said.1

-- The checks in their order, under the implicit tag [1].
unfoldable pub relative_name : Place → Result (Unit {0}) (CertRule × ℕ)
relative_name value = do
  relative ← is_a 0xA1 ExtensionValue value
  one ← some ExtensionValue (members value)
  each type_and_value tt (members value).values

-- The value is a SEQUENCE of an OBJECT IDENTIFIER and of another value.
pub record IsTypeAndValue (value : Place) : Type 0 where
  pub type : Place
  pub said : Place
  pub sequence : tag value ≡ 0x30
  pub members_are : (members value).values ≡ type ∷ said ∷ []
  pub oid : tag type ≡ 0x06

-- The value has the tag [1] in place of SET's, and holds attributes; there is one.
pub record IsRelativeName (value : Place) : Type 0 where
  pub relative : tag value ≡ 0xA1
  pub some : (members value).values ≢ []
  pub each : AllByRecursion IsTypeAndValue (members value).values

abbrev pub RelativeNameIsExact : Type 0
RelativeNameIsExact = (value : Place) → (relative_name value ≡ Ok tt) ↔ IsRelativeName value
