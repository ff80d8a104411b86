-- What a verifier is asked, a line each: fingerprints, as a file of verdicts has them, and the texts themselves.
use Rattle.std.specs.Prelude.{ℕ, Bool, true, false, ◌+◌, List, [], ◌∷◌, ◌++◌, codes}
use Rattle.std.specs.Fmt.{decimal}
use Rattle.hex.specs.Hex.{encode_lower}
use Rattle.cert.specs.Certificate.{Certificate}
use Rattle.cert.specs.SubjectPublicKeyInfo.{SubjectPublicKeyInfo}
use Rattle.statements_crl.specs.CertificateList.{CertificateList}
use Rattle.statements_ocsp.specs.Certificates.{certificates_in}
use Rattle.statements_ocsp.specs.OcspResponse.{OcspResponse}
use Rattle.path_verifiers.specs.Fingerprint.{Judgement}
pub use Rattle.path_verifiers.specs.Fingerprint.{judgement_print}
use Rattle.cli_printing.specs.declared.fingerprint.SignatureQuestion as code
use Rattle.cli_printing.specs.declared.fingerprint.Signed.{Signed}
use Rattle.cli_printing.specs.declared.fingerprint.Signed.TheVariants as By

abbrev pub seen_judgement : code.SignatureQuestion → Judgement
seen_judgement question = record {
  algorithm = question.algorithm.now;
  key_info = question.key_info.now;
  message = question.message.now;
  signature = question.signature.now;
}

-- of a certificate: is its signature one of its signed part under this key? (RFC 5280, 6.1.3 (a) (1))
abbrev pub certificate_question : SubjectPublicKeyInfo → Certificate → Judgement
certificate_question key_info certificate = record {
  algorithm = certificate.algorithm.value.octets;
  key_info = key_info.value.octets;
  message = certificate.tbs.octets;
  signature = certificate.signature.octets;
}

-- of a revocation list, likewise (6.3.3 (g))
abbrev pub crl_question : SubjectPublicKeyInfo → CertificateList → Judgement
crl_question key_info list = record {
  algorithm = list.algorithm.value.octets;
  key_info = key_info.value.octets;
  message = list.tbs.octets;
  signature = list.signature.octets;
}

-- of a response, likewise (RFC 6960, 3.2)
abbrev pub response_question : SubjectPublicKeyInfo → OcspResponse → Judgement
response_question key_info response = record {
  algorithm = response.algorithm.value.octets;
  key_info = key_info.value.octets;
  message = response.tbs.octets;
  signature = response.signature.octets;
}

-- ---- its line

-- ` NAME=HEX`
abbrev pub part_text : List ℕ → List ℕ → List ℕ
part_text name octets = codes " " ++ name ++ codes "=" ++ encode_lower octets

-- the four texts in hexadecimal
abbrev pub parts_text : Judgement → List ℕ
parts_text question =
    part_text (codes "algorithm") question.algorithm ++ part_text (codes "key") question.key_info
    ++ part_text (codes "message") question.message ++ part_text (codes "signature") question.signature

-- what stands behind the words of a line, which tells the four texts if they are asked for
abbrev pub line_end : Bool → Judgement → List ℕ
line_end false question = codes "\n"
line_end true question = parts_text question ++ codes "\n"

-- what is signed, and whose key judges it; n is the number of a certificate that comes with a response
unfoldable pub signed_words : Signed → List ℕ
signed_words By.Certificate = codes " certificate issuer"
signed_words By.List = codes " crl issuer"
signed_words By.Response = codes " response issuer"
signed_words (By.Delegate n) = codes " certificate " ++ decimal n ++ codes " issuer"
signed_words (By.ByDelegate n) = codes " response certificate " ++ decimal n

-- the fingerprint in hexadecimal, and what it is of
abbrev pub question_line : Bool → Judgement → Signed → List ℕ
question_line with_parts question signed =
    encode_lower (judgement_print question) ++ signed_words signed ++ line_end with_parts question

-- the line of a certificate under its issuer's key
abbrev pub certificate_print_line : Bool → SubjectPublicKeyInfo → Certificate → List ℕ
certificate_print_line with_parts key_info certificate =
    question_line with_parts (certificate_question key_info certificate) By.Certificate

-- and of a revocation list
abbrev pub crl_print_line : Bool → SubjectPublicKeyInfo → CertificateList → List ℕ
crl_print_line with_parts key_info list =
    question_line with_parts (crl_question key_info list) By.List

-- of the n-th certificate under the issuer's key, and of the response under that certificate's
abbrev pub both_lines : Bool → SubjectPublicKeyInfo → OcspResponse → ℕ → Certificate → List ℕ
both_lines with_parts key_info response n certificate =
    question_line with_parts (certificate_question key_info certificate) (By.Delegate n)
    ++ question_line with_parts (response_question certificate.key_info response) (By.ByDelegate n)

-- both lines of each of these certificates, of which the first is the n-th
abbrev pub delegate_lines : Bool → SubjectPublicKeyInfo → OcspResponse → ℕ → List Certificate → List ℕ
delegate_lines with_parts key_info response n [] = []
delegate_lines with_parts key_info response n (certificate ∷ certificates) =
    both_lines with_parts key_info response n certificate
    ++ delegate_lines with_parts key_info response (n + 1) certificates

-- the lines of a response under its issuer's key, and of the certificates that come with it, counted from 1
abbrev pub response_print_lines : Bool → SubjectPublicKeyInfo → OcspResponse → List ℕ
response_print_lines with_parts key_info response =
    question_line with_parts (response_question key_info response) By.Response
    ++ delegate_lines with_parts key_info response 1 (certificates_in response)
