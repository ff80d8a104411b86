-- General names (RFC 5280, 4.2.1.6), and the bases of subtrees (4.2.1.10), as text: a word, and behind a space what it is about.
use Rattle.std.specs.Prelude.{ℕ, zero, suc, ◌-◌, List, [], ◌∷◌, ◌++◌, Result, Ok, Err, codes, length, min, slice_index}
use Rattle.std.specs.Fmt.{decimal}
use Rattle.hex.specs.Hex.{encode_lower}
use Rattle.asn.specs.Place.{text_at}
use Rattle.names.specs.Bases.{DomainNames, AddressRange, every_name, names_within, names_below}
use Rattle.names.specs.GeneralLayout.{GeneralName, SubtreeBase, directory_name, dns_name, ip_address, other_name, general, directory_base, dns_base, ip_base, other_base}
use Rattle.names_distinguished.specs.declared.fault.NameRule.{NameRule}
use Rattle.cli_printing.specs.Printed.{shown_contents}
use Rattle.cli_printing.specs.EscapedText.{escaped, spaced_text}
use Rattle.cli_printing.specs.NameText.{name_text}

-- another form is its number, and its contents in hexadecimal
abbrev pub other_text : ℕ → List ℕ → List ℕ
other_text number contents = decimal number ++ shown_contents contents

abbrev pub general_text : GeneralName → List ℕ
general_text (directory_name contents) = codes "dir " ++ name_text contents.octets
general_text (dns_name octets) = codes "dns" ++ spaced_text octets
general_text (ip_address octets) = codes "ip" ++ shown_contents octets
general_text (other_name number contents) = other_text number contents

-- the base as it stands in the certificate: nothing, a DNS name, or a dot and a DNS name
abbrev pub domain_text : DomainNames → List ℕ
domain_text every_name = codes "dns"
domain_text (names_within name) = codes "dns" ++ spaced_text name
domain_text (names_below name) = codes "dns ." ++ escaped name

-- octets that begin with so many ones, up to eight, and then have zeros
abbrev pub begun_octets : List ℕ
begun_octets = 0x00 ∷ 0x80 ∷ 0xC0 ∷ 0xE0 ∷ 0xF0 ∷ 0xF8 ∷ 0xFC ∷ 0xFE ∷ 0xFF ∷ []

-- so many octets of a mask, the ones first
abbrev pub mask_octets : ℕ → ℕ → List ℕ
mask_octets zero ones = []
mask_octets (suc count) ones = slice_index begun_octets (min ones 8) ∷ mask_octets count (ones - 8)

-- the address, and the mask of as many octets
abbrev pub range_text : AddressRange → List ℕ
range_text range =
    codes "ip " ++ encode_lower range.address ++ encode_lower (mask_octets (length range.address) range.prefix)

abbrev pub base_text : SubtreeBase → List ℕ
base_text (directory_base contents) = codes "dir " ++ name_text contents.octets
base_text (dns_base names) = domain_text names
base_text (ip_base range) = range_text range
base_text (other_base number contents) = other_text number contents

-- ---- names of points at which lists are published (RFC 5280, 5.2.5)

-- the general name; octets that are none in hexadecimal
abbrev pub read_text : List ℕ → Result GeneralName (NameRule × ℕ) → List ℕ
read_text octets (Ok name) = general_text name
read_text octets (Err fault) = encode_lower octets

-- `point GENERAL`: the general name with these octets
abbrev pub point_line : List ℕ → List ℕ
point_line octets = codes "point " ++ read_text octets (general (text_at octets 0)) ++ codes "\n"
