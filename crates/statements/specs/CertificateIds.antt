-- Of whose certificates the ids of single responses are (RFC 6960, 4.1.1).
use Rattle.std.specs.Prelude.{◌&&◌, ◌==◌, ℕ, Bool, List, [], ◌∷◌, length, Option, Some, None, if◌then◌else◌}
use Rattle.std.specs.Option.{option_or}
use Rattle.std.specs.Str.{bytes_eq}
use Rattle.cert.specs.Certificate.{Certificate}
use Rattle.sha1.specs.Sha1.{sha1}
use Rattle.sha2.specs.Sha256.{sha256}
use Rattle.statements_facts.specs.declared.profile.Profile.{Profile}
use Rattle.statements_facts.specs.declared.profile.Profile.TheVariants.{Stated, Wide}
use Rattle.statements_ocsp.specs.CertificateId.{CertId}
use Rattle.statements.specs.Responder.{key_hash}

-- id-sha1: 1.3.14.3.2.26
abbrev pub id_sha1 : List ℕ
id_sha1 = 0x2B ∷ 0x0E ∷ 0x03 ∷ 0x02 ∷ 0x1A ∷ []

-- id-sha256 (RFC 4055, 2.1): 2.16.840.1.101.3.4.2.1
abbrev pub id_sha256 : List ℕ
id_sha256 = 0x60 ∷ 0x86 ∷ 0x48 ∷ 0x01 ∷ 0x65 ∷ 0x03 ∷ 0x04 ∷ 0x02 ∷ 0x01 ∷ []

-- By SHA-1: the issuer has the key of this hash. The hash of its name is taken as it is, since certificates may spell the name differently.
abbrev pub is_by_sha1 : List ℕ → CertId → Bool
is_by_sha1 key_hash id =
    bytes_eq id.hash_algorithm id_sha1 && (length id.issuer_name_hash == 20 && bytes_eq id.issuer_key_hash key_hash)

abbrev pub named_by_sha1 : List ℕ → CertId → Option (List ℕ)
named_by_sha1 key_hash id = if is_by_sha1 key_hash id then Some id.issuer_name_hash else None

-- the hashes of an issuer: those of its key and name by SHA-256, and that of its name by SHA-1
pub record IssuerHashes : Type 0 where
  pub key_by_sha256 : List ℕ
  pub name_by_sha256 : List ℕ
  pub name_by_sha1 : List ℕ

-- the name as the issuer's certificate spells it, as do the certificates that it issues (RFC 5280, 4.1.2.6)
abbrev pub hashes_of : Certificate → IssuerHashes
hashes_of issuer = record {
  key_by_sha256 = sha256 issuer.key_info.key.octets;
  name_by_sha256 = sha256 issuer.subject.octets;
  name_by_sha1 = sha1 issuer.subject.octets;
}

-- By SHA-256: the issuer has the key and the name of these hashes.
abbrev pub named_by_sha256 : IssuerHashes → CertId → Option (List ℕ)
named_by_sha256 hashes id =
    if bytes_eq id.hash_algorithm id_sha256
    && (bytes_eq id.issuer_name_hash hashes.name_by_sha256 && bytes_eq id.issuer_key_hash hashes.key_by_sha256)
    then Some hashes.name_by_sha1 else None

-- The SHA-1 of the issuer's name in the certificate of which an id is, if it is one of the issuer's: in the stated profile by SHA-1 alone,
-- in the wide one by either hash.
abbrev pub named_with : List ℕ → Option IssuerHashes → CertId → Option (List ℕ)
named_with key_hash None id = named_by_sha1 key_hash id
named_with key_hash (Some hashes) id = option_or (named_by_sha1 key_hash id) (named_by_sha256 hashes id)

abbrev pub hashes_in : Profile → Certificate → Option IssuerHashes
hashes_in Stated issuer = None
hashes_in Wide issuer = Some (hashes_of issuer)

abbrev pub named_in : Profile → Certificate → CertId → Option (List ℕ)
named_in profile issuer = named_with (key_hash issuer) (hashes_in profile issuer)
