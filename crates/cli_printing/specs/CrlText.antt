-- What a revocation list says, a line each.
use Rattle.std.specs.Prelude.{ℕ, ℤ, List, [], ◌++◌, codes}
use Rattle.std.specs.List.{flat_map}
use Rattle.std.specs.Fmt.{decimal, signed_decimal}
use Rattle.hex.specs.Hex.{encode_lower}
use Rattle.statements_facts.specs.declared.scope.Scope.{Scope}
use Rattle.statements_facts.specs.declared.scope.Scope.TheVariants.{All, User, Ca}
use Rattle.statements_crl.specs.Entry.{Entry}
use Rattle.statements_crl.specs.CertificateList.{CertificateList}
use Rattle.cli_printing.specs.CertificateText.{name_line, octets_line}
use Rattle.cli_printing.specs.GeneralText.{point_line}

-- the scope, where it is not that of all certificates
abbrev pub scope_lines : Scope → List ℕ
scope_lines All = []
scope_lines User = codes "scope user\n"
scope_lines Ca = codes "scope ca\n"

abbrev pub span_lines : ℤ → ℤ → List ℕ
span_lines from until = (codes "from " ++ signed_decimal from ++ codes "\n") ++ codes "until " ++ signed_decimal until ++ codes "\n"

abbrev pub entry_line : Entry → List ℕ
entry_line entry = codes "revoked " ++ encode_lower entry.serial ++ codes " " ++ decimal entry.reason ++ codes "\n"

unfoldable pub crl_title : List ℕ
crl_title = codes "crl\n"

abbrev pub opening_lines : CertificateList → List ℕ
opening_lines list = crl_title ++ name_line (codes "issuer") list.issuer.octets

-- its scope, and a line for each general name of the point where it is published; none of a whole list
unfoldable pub covered_lines : CertificateList → List ℕ
covered_lines list = scope_lines list.scope ++ flat_map point_line list.points

abbrev pub number_lines : CertificateList → List ℕ
number_lines list = octets_line (codes "number") list.number ++ covered_lines list ++ span_lines list.this_update list.next_update

-- its fields, and then a line for each entry as it stands
abbrev pub crl_text : CertificateList → List ℕ
crl_text list = opening_lines list ++ number_lines list ++ flat_map entry_line list.entries
