-- Public keys of subjects (RFC 5280, 4.1.2.7):
-- SEQUENCE { algorithm AlgorithmIdentifier, subjectPublicKey BIT STRING }
use Rattle.std.specs.Prelude.{◌≡◌, ◌↔◌, ℕ, [], ◌∷◌, Result, Ok}
use Rattle.asn.specs.Place.{Place, seen_tlv, tag}
use Rattle.asn.specs.Members.{members}
use Rattle.asn.specs.Walk.{◌>>=◌, is_a, required, next_or, ended}
use Rattle.cert.specs.declared.fault.CertRule.{CertRule}
use Rattle.cert.specs.declared.fault.CertRule.TheVariants.{Layout}
use Rattle.cert.specs.declared.key_info.SubjectPublicKeyInfo as code
use Rattle.cert.specs.BitString.{BitString, bit_string_at, seen_bit_string}
use Rattle.cert.specs.AlgorithmIdentifier.{AlgorithmIdentifier, algorithm_identifier, seen_algorithm, IsAlgorithmIdentifier}

-- where the whole value stands, the algorithm that the key is of, and the key
pub record SubjectPublicKeyInfo : Type 0 where
  pub value : Place
  pub algorithm : AlgorithmIdentifier
  pub key : BitString

abbrev pub seen_key_info : code.SubjectPublicKeyInfo → SubjectPublicKeyInfo
seen_key_info read = record { value = seen_tlv read.value; algorithm = seen_algorithm read.algorithm; key = seen_bit_string read.key }

-- The checks in their order. The count of unused bits is free.
unfoldable pub key_info : Place → Result SubjectPublicKeyInfo (CertRule × ℕ)
key_info value = do
  sequence ← is_a 0x30 Layout value
  algorithm ← next_or Layout (members value)
  read ← algorithm_identifier Layout algorithm.0
  key ← required 0x03 Layout algorithm.1
  done ← ended Layout key.1
  Ok (record { value = value; algorithm = read; key = bit_string_at key.0 })

-- The place is a SEQUENCE of an algorithm identifier and a BIT STRING.
pub record IsSubjectPublicKeyInfo (value : Place) (fields : SubjectPublicKeyInfo) : Type 0 where
  pub algorithm : Place
  pub key : Place
  pub sequence : tag value ≡ 0x30
  pub members_are : (members value).values ≡ algorithm ∷ key ∷ []
  pub algorithm_is : IsAlgorithmIdentifier algorithm fields.algorithm
  pub bit_string : tag key ≡ 0x03
  pub whole : fields.value ≡ value
  pub bits : fields.key ≡ bit_string_at key

abbrev pub SubjectPublicKeyInfoIsExact : Type 0
SubjectPublicKeyInfoIsExact =
    (value : Place) (fields : SubjectPublicKeyInfo) → (key_info value ≡ Ok fields) ↔ IsSubjectPublicKeyInfo value fields
