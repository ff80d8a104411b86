-- The certificates that the octets are read as.
use Rattle.std.proofs.Common.{◌≡◌, ℕ, pos, true, List, [], ◌∷◌, Some, None, drop, Ok, refl}
use Rattle.std.specs.Ordering.{nat_cmp}
use Rattle.std.specs.Cmp.Lexicographic.{slice_cmp}
use Rattle.std.specs.FinSet.{contains-empty}
use Rattle.asn.specs.Place.{Place, text_at}
use Rattle.asn.proofs.Laws.{outermost_again, nested_again}
use Rattle.names_distinguished.specs.AttributeValue.{Text}
use Rattle.names_distinguished.specs.DistinguishedName.{RdnMap, rdn_map}
use Rattle.names.specs.GeneralLayout.{NameContents}
use Rattle.cert.specs.declared.version.Version.TheVariants.{V3}
use Rattle.cert.specs.AlgorithmIdentifier.{AlgorithmIdentifier}
use Rattle.cert.specs.SubjectPublicKeyInfo.{SubjectPublicKeyInfo}
use Rattle.cert.specs.Extensions.{no_extensions}
use Rattle.cert.specs.Certificate.{Certificate, certificate}
use Rattle.cert.specs.CertificatePoints.{no_points}
use Rattle.cert.specs.CertificateHosts.{no_hosts}
use Rattle.cert.specs.ExtensionValues.{no_values}
use Rattle.test_premises.specs.Octets.{anchor_der, anchor_tbs, anchor_signature, target_der, target_tbs, target_signature, name_r, name_t, algorithm, key_r, key_t}
use Rattle.test_premises.proofs.OnLiterals.{on_literals}
use Rattle.test_premises.proofs.Trees.{anchor_whole, target_whole, ca_octets, ca_whole}

-- a name of one common name, in small letters
abbrev pub rdns : ℕ → List RdnMap
rdns letter = rdn_map ((0x55 ∷ 0x04 ∷ 0x03 ∷ [], Text (letter ∷ [])) ∷ []) ∷ []

abbrev pub name_at : List ℕ → ℕ → ℕ → NameContents
name_at octets at letter = record { octets = octets; at = at; rdns = rdns letter }

abbrev pub algorithm_at : ℕ → AlgorithmIdentifier
algorithm_at at = record { value = text_at algorithm at; oid = 0x2A ∷ 0x03 ∷ [] }

abbrev key_at : List ℕ → ℕ → SubjectPublicKeyInfo
key_at octets letter = record {
  value = text_at octets 79;
  algorithm = algorithm_at 81;
  key = record { value = text_at (drop 8 octets) 87; octets = letter ∷ [] };
}

-- the OCTET STRING of basicConstraints
abbrev constraints : Place
constraints = text_at (0x04 ∷ 0x05 ∷ ca_octets) 105

abbrev pub root : Certificate
root = record {
  octets = anchor_der;
  tbs = text_at anchor_tbs 3;
  version = V3;
  serial = text_at (0x02 ∷ 0x01 ∷ 0x05 ∷ []) 10;
  algorithm = algorithm_at 13;
  issuer = name_at name_r 19 114;
  validity = record { not_before = pos 1735689600; not_after = pos 1767225600 };
  subject = name_at name_r 65 114;
  key_info = key_at key_r 82;
  extensions = record no_extensions {
    basic_constraints = Some (record { ca = true; path_length = None });
    values = record no_values { basic_constraints = Some constraints };
  };
  signature = record { value = text_at anchor_signature 118; octets = drop 3 anchor_signature };
  points = no_points;
  hosts = no_hosts;
}

abbrev pub leaf : Certificate
leaf = record {
  octets = target_der;
  tbs = text_at target_tbs 3;
  version = V3;
  serial = text_at (0x02 ∷ 0x01 ∷ 0x05 ∷ []) 10;
  algorithm = algorithm_at 13;
  issuer = name_at name_r 19 114;
  validity = record { not_before = pos 1735689600; not_after = pos 1767225600 };
  subject = name_at name_t 65 116;
  key_info = key_at key_t 84;
  extensions = no_extensions;
  signature = record { value = text_at target_signature 97; octets = drop 3 target_signature };
  points = no_points;
  hosts = no_hosts;
}

pub leaf_is_read : certificate target_der ≡ Ok leaf
unfolding on_literals
leaf_is_read = rw (outermost_again target_der target_whole) refl

pub root_is_read : certificate anchor_der ≡ Ok root
unfolding on_literals
root_is_read = rw (outermost_again anchor_der anchor_whole, nested_again constraints ca_whole, contains-empty (slice_cmp nat_cmp) (0x55 ∷ 0x1D ∷ 0x13 ∷ [])) refl
