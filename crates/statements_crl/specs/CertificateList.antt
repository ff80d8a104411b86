-- Certificate revocation lists (RFC 5280, 5.1): SEQUENCE { tbsCertList, signatureAlgorithm, signatureValue BIT STRING }
use Rattle.std.specs.Prelude.{ℕ, ℤ, ◌==◌, ◌&&◌, List, [], ◌∷◌, Option, Some, None, Result, Ok}
use Rattle.std.specs.Str.{bytes_eq}
use Rattle.asn.specs.Place.{Place, seen_tlv, tag, body}
use Rattle.asn.specs.Members.{Members, members}
use Rattle.asn.specs.Walk.{◌>>=◌, is_a, optional, next_or, time, ended, check_that}
use Rattle.asn.specs.Outermost.{outermost}
use Rattle.names.specs.GeneralLayout.{NameContents}
use Rattle.names.specs.GeneralView.{name_contents}
use Rattle.cert.specs.AlgorithmIdentifier.{AlgorithmIdentifier, algorithm_identifier, seen_algorithm}
use Rattle.cert.specs.BitString.{BitString, seen_bit_string}
use Rattle.statements_facts.specs.declared.profile.Profile.{Profile}
use Rattle.statements_facts.specs.declared.profile.Profile.TheVariants.{Stated}
use Rattle.cert_points.specs.CompleteNames.{names_if_any}
use Rattle.statements_facts.specs.declared.scope.Scope.{Scope}
use Rattle.statements_crl.specs.declared.list.Crl as code
use Rattle.statements_crl.specs.declared.list.ListHead as head
use Rattle.statements_crl.specs.declared.list.TbsCertList as signed_part
use Rattle.statements_parts.specs.declared.fault.StatementRule.{StatementRule}
use Rattle.statements_parts.specs.declared.fault.StatementRule.TheVariants.{Layout, NotV2, NoNextUpdate}
use Rattle.statements_parts.specs.Fault.{as_statement_der}
use Rattle.statements_parts.specs.Parts.{statement_component, next_in_statement, signature_in_statement}
use Rattle.statements_crl.specs.Parts.{list_issuer, same_list_algorithm}
use Rattle.statements_crl.specs.Entry.{Entry, entries, entries_left}
use Rattle.statements_crl.specs.ListExtension.{NumberAndScope, seen_named, list_extensions}

-- version (5.1.2.1): an INTEGER, which is 1 for v2
unfoldable pub version_2 : Members → Result Members (StatementRule × ℕ)
version_2 left = do
  value ← next_or Layout left
  served ← check_that (tag value.0 == 0x02 && bytes_eq (body value.0) (1 ∷ [])) NotV2 value.0.at
  Ok value.1

-- The components of the signed part up to nextUpdate (5.1.2.1 to 5.1.2.5). Times are in seconds from 1970-01-01T00:00:00Z.
pub record ListHead : Type 0 where
  pub signature : AlgorithmIdentifier
  pub issuer : NameContents
  pub this_update : ℤ
  pub next_update : ℤ

abbrev pub seen_list_head : head.ListHead → ListHead
seen_list_head read = record { signature = seen_algorithm read.signature; issuer = name_contents read.issuer; this_update = read.this_update; next_update = read.next_update }

unfoldable pub list_head : Members → Result (ListHead × Members) (StatementRule × ℕ)
list_head left = do
  second ← version_2 left
  signature ← next_in_statement (algorithm_identifier Layout) second
  issuer ← statement_component 0x30 list_issuer signature.1
  this_update ← time Layout Layout issuer.1
  next_update ← time NoNextUpdate Layout this_update.1
  Ok (record { signature = signature.0; issuer = issuer.0; this_update = this_update.0; next_update = next_update.0 }, next_update.1)

-- revokedCertificates (5.1.2.6): SEQUENCE OF entries, OPTIONAL
abbrev pub revoked_in : Option Place → Members → Result (List Entry × Members) (StatementRule × ℕ)
revoked_in None left = Ok ([], left)
revoked_in (Some list) left = entries (members list).values >>= λ read. Ok (read, left)

unfoldable pub revoked : Members → Result (List Entry × Members) (StatementRule × ℕ)
revoked left = revoked_in (optional 0x30 left).0 (optional 0x30 left).1

-- TBSCertList ::= SEQUENCE { version, signature, issuer, thisUpdate, nextUpdate, revokedCertificates, crlExtensions [0] }
pub record TbsCertList : Type 0 where
  pub head : ListHead
  pub entries : List Entry
  pub named : NumberAndScope

abbrev pub seen_tbs_list : signed_part.TbsCertList → TbsCertList
seen_tbs_list read = record { head = seen_list_head read.head; entries = entries_left read.revoked; named = seen_named read.named }

unfoldable pub tbs_cert_list : Profile → Place → Result TbsCertList (StatementRule × ℕ)
tbs_cert_list profile value = do
  sequence ← is_a 0x30 Layout value
  head ← list_head (members value)
  entries ← revoked head.1
  named ← list_extensions profile entries.1
  done ← ended Layout named.1
  Ok (record { head = head.0; entries = entries.0; named = named.0 })

-- The fields of a list.
pub record CertificateList : Type 0 where
  pub tbs : Place
  pub algorithm : AlgorithmIdentifier
  pub issuer : NameContents
  pub this_update : ℤ
  pub next_update : ℤ
  pub entries : List Entry
  pub number : List ℕ
  pub scope : Scope
  -- the general names of the point where it is published, each as its octets; none of a whole list
  pub points : List (List ℕ)
  pub signature : BitString

abbrev pub seen_list : code.Crl → CertificateList
seen_list read = record {
  tbs = seen_tlv read.tbs;
  algorithm = seen_algorithm read.algorithm;
  issuer = name_contents read.issuer;
  this_update = read.this_update;
  next_update = read.next_update;
  entries = entries_left read.revoked;
  number = read.number.contents.now;
  scope = read.scope;
  points = names_if_any read.points;
  signature = seen_bit_string read.signature;
}

abbrev pub list_with : Place → TbsCertList → BitString → CertificateList
list_with signed tbs signature = record {
  tbs = signed;
  algorithm = tbs.head.signature;
  issuer = tbs.head.issuer;
  this_update = tbs.head.this_update;
  next_update = tbs.head.next_update;
  entries = tbs.entries;
  number = tbs.named.number;
  scope = tbs.named.scope;
  points = tbs.named.points;
  signature = signature;
}

-- The checks in their order, in a profile.
unfoldable pub certificate_list_at_under : Profile → Place → Result CertificateList (StatementRule × ℕ)
certificate_list_at_under profile value = do
  sequence ← is_a 0x30 Layout value
  signed ← next_or Layout (members value)
  tbs ← tbs_cert_list profile signed.0
  algorithm ← statement_component 0x30 (same_list_algorithm tbs.head.signature) signed.1
  signature ← statement_component 0x03 signature_in_statement algorithm.1
  done ← ended Layout signature.1
  Ok (list_with signed.0 tbs signature.0)

unfoldable pub certificate_list_under : Profile → List ℕ → Result CertificateList (StatementRule × ℕ)
certificate_list_under profile octets = as_statement_der (outermost octets) >>= λ value. certificate_list_at_under profile value

-- The same in the stated profile.
abbrev pub certificate_list_at : Place → Result CertificateList (StatementRule × ℕ)
certificate_list_at = certificate_list_at_under Stated

abbrev pub certificate_list : List ℕ → Result CertificateList (StatementRule × ℕ)
certificate_list = certificate_list_under Stated
