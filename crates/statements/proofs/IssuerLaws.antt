-- What is genuine for an issuer depends on the issuer alone.
use Rattle.std.proofs.Common.{◌≡◌, ℕ, List, [], ◌∷◌, bytes_eq, refl, sym, ap, ◌∙◌, subst}
use Rattle.asn.specs.Place.{Place}
use Rattle.asn.specs.Part.{contents}
use Rattle.asn.specs.Members.{octets_of_each}
use Rattle.asn.proofs.Laws.{members_same}
use Rattle.cert.specs.BitString.{bits_in}
use Rattle.cert.specs.SubjectPublicKeyInfo.{SubjectPublicKeyInfo, IsSubjectPublicKeyInfo}
use Rattle.cert.specs.Certificate.{Certificate}
use Rattle.cert.proofs.Laws.{certificate_is_exact}
use Rattle.names.specs.DistinguishedName.{matching}
use Rattle.sha1.specs.Sha1.{sha1}
use Rattle.statements_ocsp.specs.Responder.{Responder, by_name, by_key}
use Rattle.statements_facts.specs.declared.profile.Profile.TheVariants.{Stated, Wide}
use Rattle.statements_crl.specs.CertificateList.{CertificateList}
use Rattle.statements_ocsp.specs.OcspResponse.{OcspResponse}
use Rattle.statements.specs.Genuine.{Accepts}
use Rattle.statements.specs.CrlFact.{list_said, of_issuer}
use Rattle.statements.specs.Responder.{is_named_by, is_responder, signs_itself, delegate_of, signer_of}
use Rattle.statements.specs.OcspFact.{response_said}
use Rattle.statements.specs.Statement.{Statement, statement_said}
use Rattle.statements.specs.OneIssuer.{WasRead, IsSpelledAlikeFor, IssuerDecides}

-- ---- the octets of a subjectPublicKeyInfo determine the key

second_of_two : (a b c d : List ℕ) → (a ∷ b ∷ []) ≡ (c ∷ d ∷ []) → b ≡ d
second_of_two a b c d e = cc

keys_same : (one other : Place) (fields others : SubjectPublicKeyInfo) → IsSubjectPublicKeyInfo one fields → IsSubjectPublicKeyInfo other others
    → one.octets ≡ other.octets → fields.key.octets ≡ others.key.octets
keys_same one other fields others is also same =
    let both : (is.algorithm.octets ∷ is.key.octets ∷ []) ≡ (also.algorithm.octets ∷ also.key.octets ∷ []) =
    ap octets_of_each (sym is.members_are) ∙ members_same one other same ∙ ap octets_of_each also.members_are in
    let key : is.key.octets ≡ also.key.octets = second_of_two is.algorithm.octets is.key.octets also.algorithm.octets also.key.octets both in
    ap (λ bits. bits.octets) is.bits ∙ ap (λ octets. bits_in (contents octets)) key ∙ sym (ap (λ bits. bits.octets) also.bits)

-- the part of a certificate that was read is one
record HasKeyInfo (c : Certificate) : Type 0 where
  is : IsSubjectPublicKeyInfo c.key_info.value c.key_info

has_key_info : (c : Certificate) → WasRead c → HasKeyInfo c
has_key_info c read =
    let is = (certificate_is_exact read.octets c read.are_octets).0 read.reads in
    let info = is.layout.signed_is.key_info_is in
    let fields : c.key_info ≡ is.layout.tbs.subject.key_info = ap (λ (d : Certificate). d.key_info) is.layout.fields_are in
    record {
      is = subst (λ (k : SubjectPublicKeyInfo). IsSubjectPublicKeyInfo k.value k) (sym fields)
          (subst (λ p. IsSubjectPublicKeyInfo p is.layout.tbs.subject.key_info) (sym info.whole) info);
    }

-- ---- what is genuine looks at the name and the key alone

module _ (accepts : Accepts) (one other : Certificate) (subject : one.subject.rdns ≡ other.subject.rdns) (info : one.key_info.value.octets ≡ other.key_info.value.octets) (key : one.key_info.key.octets ≡ other.key_info.key.octets) where
  list_same : (list : CertificateList) → list_said accepts one list ≡ list_said accepts other list
  unfolding of_issuer
  list_same list = rw (subject, info) refl

  named_same : (responder : Responder) → is_named_by responder one ≡ is_named_by responder other
  named_same (by_name name) = ap (λ rdns. matching name.rdns rdns) subject
  named_same (by_key hash) = ap (λ octets. bytes_eq hash (sha1 octets)) key

  signer_same : (response : OcspResponse) → signer_of accepts one response ≡ signer_of accepts other response
  unfolding signs_itself delegate_of is_responder
  signer_same response = rw (named_same response.responder, subject, info) refl

  stated_same : (response : OcspResponse) → response_said Stated accepts one response ≡ response_said Stated accepts other response
  stated_same response = rw (signer_same response, key) refl

  wide_same : (response : OcspResponse) → one.subject.octets ≡ other.subject.octets → response_said Wide accepts one response ≡ response_said Wide accepts other response
  wide_same response spelled = rw (signer_same response, key, spelled) refl

  statement_same : (read : Statement) → IsSpelledAlikeFor read one other → statement_said accepts one read ≡ statement_said accepts other read
  statement_same (Statement.OfList list) spelled = rw (list_same list) refl
  statement_same (Statement.OfResponse Stated response) spelled = rw (stated_same response, subject, info) refl
  statement_same (Statement.OfResponse Wide response) spelled = rw (wide_same response spelled, subject, info) refl

pub issuer_decides : IssuerDecides
issuer_decides accepts one other read also same statement spelled =
    let key : one.key_info.key.octets ≡ other.key_info.key.octets =
    keys_same one.key_info.value other.key_info.value one.key_info other.key_info (has_key_info one read).is (has_key_info other also).is same.key_info in
    statement_same accepts one other same.subject same.key_info key statement spelled
