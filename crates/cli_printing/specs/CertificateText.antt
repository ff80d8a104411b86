-- What a certificate says, a line each.
use Rattle.std.specs.Prelude.{ℕ, Bool, true, false, List, [], ◌++◌, Option, Some, None, codes}
use Rattle.std.specs.List.{flat_map}
use Rattle.std.specs.Fmt.{decimal, signed_decimal}
use Rattle.asn.specs.Place.{body}
use Rattle.names.specs.GeneralLayout.{GeneralName, SubtreeBase}
use Rattle.cert.specs.Certificate.{Certificate}
use Rattle.cert.specs.Validity.{Validity}
use Rattle.cert.specs.Version.{version_number}
use Rattle.cert.specs.Extensions.{Extensions}
use Rattle.cert.specs.BasicConstraints.{BasicConstraints}
use Rattle.cert.specs.declared.version.Version.{Version}
use Rattle.cli_printing.specs.Printed.{shown_contents}
use Rattle.cli_printing.specs.OidText.{oid_text}
use Rattle.cli_printing.specs.NameText.{name_text}
use Rattle.cli_printing.specs.GeneralText.{base_text, general_text}

-- a word, and the octets in hexadecimal where there are any
abbrev pub octets_line : List ℕ → List ℕ → List ℕ
octets_line word octets = word ++ shown_contents octets ++ codes "\n"

abbrev pub version_lines : Version → List ℕ
version_lines version = codes "certificate\nversion " ++ decimal (version_number version) ++ codes "\n"

-- a word, a space, a name
abbrev pub name_line : List ℕ → List ℕ → List ℕ
name_line word name = word ++ codes " " ++ name_text name ++ codes "\n"

abbrev pub validity_lines : Validity → List ℕ
validity_lines validity =
    (codes "from " ++ signed_decimal validity.not_before ++ codes "\n")
    ++ codes "until " ++ signed_decimal validity.not_after ++ codes "\n"

-- basicConstraints, where they are there; the path length of an authority alone
abbrev pub basic_line : Bool → Option ℕ → List ℕ
basic_line false path_length = codes "basic no\n"
basic_line true None = codes "basic ca\n"
basic_line true (Some path_length) = codes "basic ca " ++ decimal path_length ++ codes "\n"

abbrev pub basic_lines : Option BasicConstraints → List ℕ
basic_lines None = []
basic_lines (Some constraints) = basic_line constraints.ca constraints.path_length

abbrev pub usage_lines : Option (List ℕ) → List ℕ
usage_lines None = []
usage_lines (Some bits) = octets_line (codes "usage") bits

abbrev pub alternative_line : GeneralName → List ℕ
alternative_line name = codes "alt " ++ general_text name ++ codes "\n"

-- a word, a space, the base of a subtree
abbrev pub base_line : List ℕ → SubtreeBase → List ℕ
base_line word base = word ++ codes " " ++ base_text base ++ codes "\n"

-- a word, a space, an OBJECT IDENTIFIER
abbrev pub oid_line : List ℕ → List ℕ → List ℕ
oid_line word oid = word ++ codes " " ++ oid_text oid ++ codes "\n"

-- a line of one word, where that is so
abbrev pub word_line : List ℕ → Bool → List ℕ
word_line line false = []
word_line line true = line

-- what the extensions say of names
abbrev pub constraint_lines : Extensions → List ℕ
constraint_lines said =
    flat_map alternative_line said.alternative_names
    ++ flat_map (base_line (codes "permit")) said.name_constraints.permitted
    ++ flat_map (base_line (codes "exclude")) said.name_constraints.excluded

-- what they say of other matters
abbrev pub purpose_lines : Extensions → List ℕ
purpose_lines said =
    flat_map (oid_line (codes "purpose")) said.purposes
    ++ word_line (codes "policy\n") said.needs_policy_processing
    ++ flat_map (oid_line (codes "critical")) said.unrecognised
    ++ word_line (codes "nocheck\n") said.no_check

abbrev pub extension_lines : Extensions → List ℕ
extension_lines said =
    basic_lines said.basic_constraints ++ usage_lines said.key_usage ++ constraint_lines said ++ purpose_lines said

-- the lines up to the key
abbrev pub field_lines : Certificate → List ℕ
field_lines certificate =
    version_lines certificate.version
    ++ octets_line (codes "serial") (body certificate.serial)
    ++ name_line (codes "issuer") certificate.issuer.octets
    ++ name_line (codes "subject") certificate.subject.octets
    ++ validity_lines certificate.validity
    ++ octets_line (codes "key") certificate.key_info.key.octets

abbrev pub certificate_text : Certificate → List ℕ
certificate_text certificate = field_lines certificate ++ extension_lines certificate.extensions
