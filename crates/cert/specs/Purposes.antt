-- extKeyUsage (RFC 5280, 4.2.1.12): SEQUENCE SIZE (1..MAX) OF OBJECT IDENTIFIER
use Rattle.std.specs.Prelude.{◌≡◌, ◌<◌, ◌↔◌, ℕ, List, [], ◌∷◌, ◌++◌, length, map, Result, Ok}
use Rattle.std.specs.Global.{Vec}
use Rattle.asn.specs.declared.oid.Oid.{Oid}
use Rattle.asn.specs.Oid.{oid_contents}
use Rattle.std.specs.List.{AllZip}
use Rattle.asn.specs.DerLaws.{AreOctets}
use Rattle.asn.specs.Part.{IsWhole}
use Rattle.asn.specs.Place.{Place, seen_tlv, tag, body, body_place}
use Rattle.asn.specs.Members.{Members, members}
use Rattle.asn.specs.Walk.{◌>>=◌, is_a, some, each}
use Rattle.asn.specs.Outermost.{nested}
use Rattle.cert.specs.Fault.{as_der, GivesUnlessFull}
use Rattle.cert.specs.declared.fault.CertFault.{CertFault}
use Rattle.asn.specs.declared.tlv.Tlv.{Tlv}
use Rattle.cert.specs.declared.fault.CertRule.{CertRule}
use Rattle.cert.specs.declared.fault.CertRule.TheVariants.{ExtensionValue}

-- the purposes by the contents octets of their OBJECT IDENTIFIERs, with one more
unfoldable pub one_more_purpose : List (List ℕ) → Place → Result (List (List ℕ)) (CertRule × ℕ)
one_more_purpose earlier value = do
  identifier ← is_a 0x06 ExtensionValue value
  Ok (earlier ++ body value ∷ [])

-- The checks in their order.
unfoldable pub purposes : Place → Result (List (List ℕ)) (CertRule × ℕ)
purposes octet_string = do
  value ← as_der (nested octet_string)
  sequence ← is_a 0x30 ExtensionValue value
  one ← some ExtensionValue (members value)
  each one_more_purpose [] ((members value).values)

-- the value is an OBJECT IDENTIFIER with these contents octets
abbrev pub IsPurpose : Place → List ℕ → Type 0
IsPurpose value oid = (tag value ≡ 0x06) × (body value ≡ oid)

-- The contents of the OCTET STRING are a SEQUENCE of these purposes, one for one, and there is one.
pub record ArePurposes (octet_string : Place) (oids : List (List ℕ)) : Type 0 where
  pub whole : IsWhole (body octet_string)
  pub sequence : tag (body_place octet_string) ≡ 0x30
  pub some : 0 < length oids
  pub each : AllZip IsPurpose (members (body_place octet_string)).values oids

abbrev pub PurposesAreExact : Type 0
PurposesAreExact =
    (octet_string : Place) (oids : List (List ℕ)) → AreOctets (body octet_string) →
    (purposes octet_string ≡ Ok oids) ↔ ArePurposes octet_string oids

abbrev pub seen_purposes : Vec Oid → List (List ℕ)
seen_purposes oids = map oid_contents oids.items

-- all purposes, in order
abbrev pub all_purposes : Members → Result (List (List ℕ)) (CertRule × ℕ)
all_purposes left = each one_more_purpose [] left.values

-- The purposes before and after one more is read.
abbrev pub AddsPurpose : Tlv → Vec Oid → Vec Oid → Result (Unit {0}) CertFault → Type 0
AddsPurpose value old new result =
    GivesUnlessFull (λ _. seen_purposes new) result (one_more_purpose (seen_purposes old) (seen_tlv value))
