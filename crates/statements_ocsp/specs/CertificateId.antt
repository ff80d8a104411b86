-- CertID (RFC 6960, 4.1.1): SEQUENCE { hashAlgorithm AlgorithmIdentifier, issuerNameHash OCTET STRING, issuerKeyHash OCTET STRING,
-- serialNumber CertificateSerialNumber }
use Rattle.std.specs.Prelude.{ℕ, List, Result, Ok}
use Rattle.asn.specs.Place.{Place, body}
use Rattle.asn.specs.Members.{members}
use Rattle.asn.specs.Walk.{◌>>=◌, is_a, required, ended}
use Rattle.cert.specs.AlgorithmIdentifier.{algorithm_identifier}
use Rattle.statements_parts.specs.Parts.{statement_component, next_in_statement, serial_in_statement}
use Rattle.statements_parts.specs.declared.fault.StatementRule.{StatementRule}
use Rattle.statements_parts.specs.declared.fault.StatementRule.TheVariants.{Layout}
use Rattle.statements_ocsp.specs.declared.cert_id.CertId as code

-- the contents octets of the hash algorithm's OBJECT IDENTIFIER, of both hashes, and of the serial number
pub record CertId : Type 0 where
  pub hash_algorithm : List ℕ
  pub issuer_name_hash : List ℕ
  pub issuer_key_hash : List ℕ
  pub serial : List ℕ

abbrev pub seen_id : code.CertId → CertId
seen_id read = record {
  hash_algorithm = read.hash_algorithm.now;
  issuer_name_hash = read.issuer_name_hash.now;
  issuer_key_hash = read.issuer_key_hash.now;
  serial = read.serial.now;
}

-- The checks in their order.
unfoldable pub cert_id : Place → Result CertId (StatementRule × ℕ)
cert_id value = do
  sequence ← is_a 0x30 Layout value
  algorithm ← next_in_statement (algorithm_identifier Layout) (members value)
  name_hash ← required 0x04 Layout algorithm.1
  key_hash ← required 0x04 Layout name_hash.1
  serial ← statement_component 0x02 serial_in_statement key_hash.1
  done ← ended Layout serial.1
  Ok (record { hash_algorithm = algorithm.0.oid; issuer_name_hash = body name_hash.0; issuer_key_hash = body key_hash.0; serial = serial.0 })
