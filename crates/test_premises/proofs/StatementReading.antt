-- What the statements say.
use Rattle.std.proofs.Common.{◌≡◌, ◌∙◌, ℕ, pos, true, List, [], ◌∷◌, ◌++◌, codes, drop, take, Some, None, Ok, refl, ap}
use Rattle.std.specs.Ordering.{nat_cmp}
use Rattle.std.specs.Cmp.Lexicographic.{slice_cmp}
use Rattle.std.specs.FinSet.{contains-empty}
use Rattle.sha1.specs.Sha1.{sha1}
use Rattle.asn.specs.Place.{Place, text_at}
use Rattle.asn.specs.Integer.{binary_value}
use Rattle.asn.proofs.Laws.{outermost_again, nested_again}
use Rattle.names.specs.DistinguishedName.{matching}
use Rattle.names.proofs.Laws.{matching_is_exact}
use Rattle.statements_facts.specs.declared.profile.Profile.TheVariants.{Stated}
use Rattle.statements_facts.specs.declared.scope.Scope.TheVariants.{All}
use Rattle.statements_facts.specs.declared.single.Status.TheVariants.{Good}
use Rattle.statements_facts.specs.Fact.{Fact}
use Rattle.statements_facts.specs.Statement.{IssuerIdentity, Window, CrlFact, OcspFact}
use Rattle.cert.specs.BitString.{BitString}
use Rattle.statements_crl.specs.CertificateList.{CertificateList}
use Rattle.statements_ocsp.specs.declared.cert_status.CertStatus.TheVariants as said
use Rattle.statements_ocsp.specs.OcspResponse.{OcspResponse}
use Rattle.statements_ocsp.specs.Responder.{by_name}
use Rattle.statements.specs.Issuer.{identity_of}
use Rattle.statements.specs.CrlFact.{of_issuer}
use Rattle.statements.specs.Responder.{key_hash, signs_itself}
use Rattle.statements.specs.Statement.{Statement, statement, genuine_statement, genuine_statement_under}
use Rattle.relying_agreement.specs.Run.{facts_or_none, facts_under, genuine_facts}
use Rattle.test_premises.specs.Octets.{octets, anchor_der, name_r, algorithm, key_r, list_1, list_2, response_der, basic_response_der}
use Rattle.test_premises.specs.Premises.{accepts_toys}
use Rattle.test_premises.proofs.OnLiterals.{on_literals}
use Rattle.test_premises.proofs.Trees.{list_1_whole, list_2_whole, response_whole, basic_whole}
use Rattle.test_premises.proofs.CertificateReading.{rdns, name_at, algorithm_at, root, root_is_read}

-- ---- the facts

-- from 2025-06-01 until 2025-07-01
abbrev month : Window
month = record { from = pos 1748736000; until = pos 1751328000 }

abbrev pub crl : ℕ → CrlFact
crl number = record { number = number; window = month; reasons = λ serial. None }

abbrev pub good : OcspFact
good = record {
  times = record { this_update = pos 1748736000; produced_at = pos 1748736000 };
  window = month;
  status = Good;
}

-- of an issuer, and of a certificate whose issuer's name has that hash
abbrev pub list_of : IssuerIdentity → ℕ → Fact
list_of issuer number = Fact.OfCrl (record { issuer = issuer; scope = All }) (crl number)

abbrev pub response_of : IssuerIdentity → List ℕ → Fact
response_of issuer hash = Fact.OfResponse (record { issuer = issuer; name_hash = hash; serial = 5 ∷ [] }) good

-- ---- the lists

-- the signed part of a list
abbrev list_tbs : ℕ → List ℕ
list_tbs number =
    octets (codes "3045020101") ++ algorithm ++ name_r ++ octets (codes "170d3235303630313030303030305a170d3235303730313030303030305a")
    ++ octets (codes "a00e300c300a0603551d1404030201") ++ number ∷ []

-- a BIT STRING of 32 octets
abbrev bits_at : List ℕ → ℕ → BitString
bits_at octets at = record { value = text_at (0x03 ∷ 0x21 ∷ 0x00 ∷ octets) at; octets = octets }

abbrev list_with : ℕ → List ℕ → CertificateList
list_with number signature = record {
  tbs = text_at (list_tbs number) 2;
  algorithm = algorithm_at 7;
  issuer = name_at name_r 13 114;
  this_update = pos 1748736000;
  next_update = pos 1751328000;
  entries = [];
  number = number ∷ [];
  scope = All;
  points = [];
  signature = bits_at signature 79;
}

abbrev signature_1 : List ℕ
signature_1 = octets (codes "d807a77257f6c8efced4f67a16940296ac888cc3a527192efe1005a225245859")

abbrev signature_2 : List ℕ
signature_2 = octets (codes "32dd0e272ca32c599cf0c698d1766f5735feae1ba75974c4707914c76734a7fd")

list_1_is_read : statement list_1 ≡ Ok (Statement.OfList (list_with 1 signature_1))
unfolding on_literals
list_1_is_read = rw (outermost_again list_1 list_1_whole, contains-empty (slice_cmp nat_cmp) (0x55 ∷ 0x1D ∷ 0x14 ∷ [])) refl

list_2_is_read : statement list_2 ≡ Ok (Statement.OfList (list_with 2 signature_2))
unfolding on_literals
list_2_is_read = rw (outermost_again list_2 list_2_whole, contains-empty (slice_cmp nat_cmp) (0x55 ∷ 0x1D ∷ 0x14 ∷ [])) refl

signed_1 : accepts_toys algorithm key_r (list_tbs 1) signature_1 ≡ true
unfolding on_literals
signed_1 = refl

signed_2 : accepts_toys algorithm key_r (list_tbs 2) signature_2 ≡ true
unfolding on_literals
signed_2 = refl

same_name : matching (rdns 114) (rdns 114) ≡ true
same_name = (matching_is_exact (rdns 114) (rdns 114)).1 refl

-- what a list says that was read, whose signature is accepted
list_says : (list : List ℕ) (number : ℕ) (signature : List ℕ) → statement list ≡ Ok (Statement.OfList (list_with number signature))
    → accepts_toys algorithm key_r (list_tbs number) signature ≡ true → binary_value (number ∷ []) ≡ number
    → genuine_statement accepts_toys root list ≡ Ok (list_of (identity_of root) number ∷ [])
unfolding genuine_statement_under of_issuer
list_says list number signature reads signed counts = rw (reads, same_name, signed, counts) refl

-- ---- the response

abbrev response_tbs : List ℕ
response_tbs = drop 3 (take 139 basic_response_der)

abbrev response_signature : List ℕ
response_signature = octets (codes "dc07faaf772eec913d5ce8cf4e7a3b420bd362857c5084ff100e92076100decd")

abbrev response_fields : OcspResponse
response_fields = record {
  tbs = text_at response_tbs 29;
  algorithm = algorithm_at 165;
  signature = bits_at response_signature 171;
  responder = by_name (name_at name_r 34 114);
  produced_at = pos 1748736000;
  responses = record {
    id = record {
      hash_algorithm = 0x2B ∷ 0x0E ∷ 0x03 ∷ 0x02 ∷ 0x1A ∷ [];
      issuer_name_hash = octets (codes "8bf669e5210589581d1572ea6afb7a1bbca5e49b");
      issuer_key_hash = octets (codes "06576556d1ad802f247cad11ae748be47b70cd9c");
      serial = 5 ∷ [];
    };
    status = said.Good;
    this_update = pos 1748736000;
    next_update = Some (pos 1751328000);
  } ∷ [];
  certs = [];
}

-- the OCTET STRING of the response
abbrev contained : Place
contained = text_at (0x04 ∷ 0x81 ∷ 0xB4 ∷ basic_response_der) 23

response_is_read : statement response_der ≡ Ok (Statement.OfResponse Stated response_fields)
unfolding on_literals
response_is_read = rw (outermost_again response_der response_whole, nested_again contained basic_whole) refl

response_signed : accepts_toys algorithm key_r response_tbs response_signature ≡ true
unfolding on_literals
response_signed = refl

key_hash_is : key_hash root ≡ octets (codes "06576556d1ad802f247cad11ae748be47b70cd9c")
unfolding on_literals
key_hash_is = refl

pub name_hash_is : sha1 name_r ≡ octets (codes "8bf669e5210589581d1572ea6afb7a1bbca5e49b")
unfolding on_literals
name_hash_is = refl

response_says : genuine_statement accepts_toys root response_der ≡ Ok (response_of (identity_of root) (sha1 name_r) ∷ [])
unfolding genuine_statement_under signs_itself
response_says = rw (response_is_read, same_name, response_signed, key_hash_is, name_hash_is) refl

-- ---- what the parties take

one_counts : binary_value (1 ∷ []) ≡ 1
unfolding binary_value
one_counts = refl

two_counts : binary_value (2 ∷ []) ≡ 2
unfolding binary_value
two_counts = refl

pub list_1_gives : genuine_facts Stated accepts_toys anchor_der list_1 ≡ list_of (identity_of root) 1 ∷ []
list_1_gives = ap (facts_under Stated accepts_toys list_1) root_is_read ∙ ap facts_or_none (list_says list_1 1 signature_1 list_1_is_read signed_1 one_counts)

pub list_2_gives : genuine_facts Stated accepts_toys anchor_der list_2 ≡ list_of (identity_of root) 2 ∷ []
list_2_gives = ap (facts_under Stated accepts_toys list_2) root_is_read ∙ ap facts_or_none (list_says list_2 2 signature_2 list_2_is_read signed_2 two_counts)

pub response_gives : genuine_facts Stated accepts_toys anchor_der response_der ≡ response_of (identity_of root) (sha1 name_r) ∷ []
response_gives = ap (facts_under Stated accepts_toys response_der) root_is_read ∙ ap facts_or_none response_says
