-- What is written of a file.
use Rattle.std.specs.Prelude.{◌≡◌, ◌⊎◌, ◌++◌, ℕ, Bool, true, false, List, Some}
use Rattle.cli_words.specs.declared.line.Kind.{Kind}
use Rattle.cli_words.specs.declared.line.Kind.TheVariants.{Certificate, RevocationList, Response}
use Rattle.asn.specs.Value.{Value}
use Rattle.asn.specs.Encoding.{Encodes}
use Rattle.cert.specs.Certificate.{Certificate as Fields}
use Rattle.cert.specs.SubjectPublicKeyInfo.{SubjectPublicKeyInfo}
use Rattle.statements_crl.specs.CertificateList.{CertificateList}
use Rattle.statements_ocsp.specs.OcspResponse.{OcspResponse}
use Rattle.cli_printing.specs.Printed.{lines_of}
use Rattle.cli_printing.specs.CertificateText.{certificate_text}
use Rattle.cli_printing.specs.CrlText.{crl_text}
use Rattle.cli_printing.specs.FingerprintText.{certificate_print_line, crl_print_line, response_print_lines}
use Rattle.cli_printing.specs.ResponseText.{response_text}
use Rattle.cli_failures.specs.declared.failure.Failure.{Failure}
use Rattle.cli_failures.specs.Failures.{Holding, HoldsCertificate, HoldsList, HoldsResponse, IsNoCertificate, IsNoList, IsNoResponse}

-- the lines of the value whose encoding the file holds
abbrev pub IsTreeText : Holding → List ℕ → List ℕ → Type 0
IsTreeText holds file text =
    (octets : List ℕ) × (value : Value) × holds.has file (Some octets) × Encodes octets value
    × (text ≡ lines_of 0 value)

-- these lines; where details are asked for, some text behind them
abbrev pub IsWithDetails : Bool → List ℕ → List ℕ → Type 0
IsWithDetails false lines text = text ≡ lines
IsWithDetails true lines text = (details : List ℕ) × (text ≡ lines ++ details)

-- the lines of the certificate, the revocation list or the response in the file, with details or without
abbrev pub IsShownText : Holding → Kind → Bool → List ℕ → List ℕ → Type 0
IsShownText holds Certificate with_details file text =
    (read : Fields) × HoldsCertificate holds file read
    × IsWithDetails with_details (certificate_text read) text
IsShownText holds RevocationList with_details file text =
    (read : CertificateList) × HoldsList holds file read
    × IsWithDetails with_details (crl_text read) text
IsShownText holds Response with_details file text =
    (read : OcspResponse) × HoldsResponse holds file read
    × IsWithDetails with_details (response_text read) text

-- what a verifier is asked about the file under this key, with the four texts of each question or without: of a certificate and of a
-- revocation list, its line; of a response, its lines
abbrev pub ArePrintLines : Holding → SubjectPublicKeyInfo → Kind → Bool → List ℕ → List ℕ → Type 0
ArePrintLines holds key_info Certificate with_parts file text =
    (read : Fields) × HoldsCertificate holds file read
    × (text ≡ certificate_print_line with_parts key_info read)
ArePrintLines holds key_info RevocationList with_parts file text =
    (read : CertificateList) × HoldsList holds file read × (text ≡ crl_print_line with_parts key_info read)
ArePrintLines holds key_info Response with_parts file text =
    (read : OcspResponse) × HoldsResponse holds file read
    × (text ≡ response_print_lines with_parts key_info read)

-- the same under the key in the issuer's certificate
abbrev pub ArePrintsUnder : Holding → List ℕ → Kind → Bool → List ℕ → List ℕ → Type 0
ArePrintsUnder holds issuer kind with_parts file text =
    (signer : Fields) × HoldsCertificate holds issuer signer
    × ArePrintLines holds signer.key_info kind with_parts file text

-- ---- what is wrong

-- a failure on a file that is to hold a value of that kind
abbrev pub IsNotShown : Holding → Kind → List ℕ → Failure → Type 0
IsNotShown holds Certificate file failure = IsNoCertificate holds file failure
IsNotShown holds RevocationList file failure = IsNoList holds file failure
IsNotShown holds Response file failure = IsNoResponse holds file failure

-- a failure on the issuer's file; on the other only where the issuer's holds a certificate
abbrev pub IsFailureOfPrints : Holding → List ℕ → Kind → List ℕ → Failure → Type 0
IsFailureOfPrints holds issuer kind file failure =
    IsNoCertificate holds issuer failure
    ⊎ ((signer : Fields) × HoldsCertificate holds issuer signer
    × IsNotShown holds kind file failure)
