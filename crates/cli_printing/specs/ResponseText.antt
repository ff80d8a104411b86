-- What an OCSP response says, a line each.
use Rattle.std.specs.Prelude.{ℕ, ℤ, List, ◌++◌, codes, Option, Some, None}
use Rattle.std.specs.List.{flat_map}
use Rattle.std.specs.Fmt.{decimal, signed_decimal}
use Rattle.hex.specs.Hex.{encode_lower}
use Rattle.statements_ocsp.specs.declared.cert_status.CertStatus.{CertStatus}
use Rattle.statements_ocsp.specs.declared.cert_status.CertStatus.TheVariants.{Good, Revoked, Unknown}
use Rattle.statements_ocsp.specs.OcspResponse.{OcspResponse}
use Rattle.statements_ocsp.specs.Responder.{Responder, by_name, by_key}
use Rattle.statements_ocsp.specs.Single.{SingleResponse}
use Rattle.cli_printing.specs.CertificateText.{name_line}

unfoldable pub response_title : List ℕ
response_title = codes "response\n"

unfoldable pub key_mark : List ℕ
key_mark = codes "responder #"

-- a name, or the hash of a key
abbrev pub responder_line : Responder → List ℕ
responder_line (by_name name) = name_line (codes "responder") name.octets
responder_line (by_key hash) = key_mark ++ encode_lower hash ++ codes "\n"

abbrev pub produced_line : ℤ → List ℕ
produced_line moment = codes "produced " ++ signed_decimal moment ++ codes "\n"

abbrev pub head_lines : OcspResponse → List ℕ
head_lines response = response_title ++ responder_line response.responder ++ produced_line response.produced_at

abbrev pub status_text : CertStatus → List ℕ
status_text Good = codes " good"
status_text (Revoked reason) = codes " revoked " ++ decimal reason
status_text Unknown = codes " unknown"

abbrev pub next_text : Option ℤ → List ℕ
next_text None = codes " -\n"
next_text (Some moment) = codes " " ++ signed_decimal moment ++ codes "\n"

-- a serial number, its status, thisUpdate and nextUpdate
abbrev pub single_line : SingleResponse → List ℕ
single_line single =
    codes "single " ++ encode_lower single.id.serial ++ status_text single.status ++ (codes " " ++ signed_decimal single.this_update) ++ next_text single.next_update

-- who answers and when, and then a line for each single response
abbrev pub response_text : OcspResponse → List ℕ
response_text response = head_lines response ++ flat_map single_line response.responses
