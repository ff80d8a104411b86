-- Algorithm identifiers (RFC 5280, 4.1.1.2):
-- SEQUENCE { algorithm OBJECT IDENTIFIER, parameters ANY DEFINED BY algorithm OPTIONAL }
use Rattle.std.specs.Prelude.{◌≡◌, ◌↔◌, ℕ, List, ◌∷◌, Result, Ok}
use Rattle.asn.specs.Value.{Value, Values, primitive, constructed, more}
use Rattle.asn.specs.Encoding.{EncodesAt}
use Rattle.asn.specs.Place.{Place, seen_tlv, tag, body}
use Rattle.asn.specs.Members.{members, AtMostOne}
use Rattle.asn.specs.Walk.{◌>>=◌, is_a, required, any, ended}
use Rattle.asn.specs.Layout.{AtMostOneValue}
use Rattle.asn.specs.Oid.{oid_contents}
use Rattle.cert.specs.declared.algorithm.AlgorithmIdentifier as code
use Rattle.cert.specs.declared.fault.CertRule.TheVariants.{Layout}

-- where the whole value stands, and the contents octets of the OBJECT IDENTIFIER
pub record AlgorithmIdentifier : Type 0 where
  pub value : Place
  pub oid : List ℕ

abbrev pub seen_algorithm : code.AlgorithmIdentifier → AlgorithmIdentifier
seen_algorithm read = record { value = seen_tlv read.value; oid = oid_contents read.oid }

-- The checks in their order. The fault is that of the layout round the value.
unfoldable pub algorithm_identifier : {F : Type 0} → F → Place → Result AlgorithmIdentifier (F × ℕ)
algorithm_identifier layout value = do
  sequence ← is_a 0x30 layout value
  algorithm ← required 0x06 layout (members value)
  done ← ended layout (any algorithm.1).1
  Ok (record { value = value; oid = body algorithm.0 })

-- The place is a SEQUENCE of an OBJECT IDENTIFIER and at most one more value, of any kind.
pub record IsAlgorithmIdentifier (value : Place) (fields : AlgorithmIdentifier) : Type 0 where
  pub algorithm : Place
  pub parameters : List Place
  pub sequence : tag value ≡ 0x30
  pub members_are : (members value).values ≡ algorithm ∷ parameters
  pub identifier : tag algorithm ≡ 0x06
  pub optional : AtMostOne parameters
  pub whole : fields.value ≡ value
  pub oid : fields.oid ≡ body algorithm

-- The same of a value.
pub record HasAlgorithmLayout (value : Value) (oid : List ℕ) : Type 0 where
  pub parameters : Values
  pub sequence : value ≡ constructed 0x30 (more (primitive 0x06 oid) parameters)
  pub optional : AtMostOneValue parameters

abbrev pub AlgorithmIdentifierIsExact : Type 0
AlgorithmIdentifierIsExact =
    (value : Place) (fields : AlgorithmIdentifier) →
    (algorithm_identifier Layout value ≡ Ok fields) ↔ IsAlgorithmIdentifier value fields

abbrev pub AlgorithmIdentifierHasLayout : Type 0
AlgorithmIdentifierHasLayout =
    (depth : ℕ) (value : Value) (place : Place) (fields : AlgorithmIdentifier) →
    EncodesAt depth place.octets value →
    (algorithm_identifier Layout place ≡ Ok fields) ↔ ((fields.value ≡ place) × HasAlgorithmLayout value fields.oid)
