-- Points at which lists are published (RFC 5280, 5.2.5): a store has the octets of the point, a general name, behind the key of the issuer's
-- name.
use Rattle.std.specs.Prelude.{◌≡◌, ℕ, zero, suc, nat_lt, Bool, true, false, List, [], ◌∷◌, ◌++◌, Option, Some, None, Result, Ok, Err, codes}
use Rattle.std.specs.Prelude.{length, take, drop, option_and_then, if◌then◌else◌}
use Rattle.std.specs.Int.{from_be_bytes, w32}
use Rattle.std.specs.Result.{result_ok}
use Rattle.hex.specs.Hex.{encode_lower}
use Rattle.asn.specs.Outermost.{outermost}
use Rattle.asn.specs.Place.{Place}
use Rattle.asn.specs.Rule.{Rule}
use Rattle.names.specs.GeneralLayout.{GeneralName, directory_name, general}
use Rattle.names_distinguished.specs.DistinguishedName.{RdnMap}
use Rattle.names_distinguished.specs.NameKey.{NameFits, name_key}
use Rattle.store_rows.specs.Contents.{IssuerRow}
use Rattle.cli_printing.specs.GeneralText.{general_text}

-- a number in four octets, and what stands behind it
abbrev pub number_in : List ℕ → Option (ℕ × List ℕ)
number_in octets = if nat_lt (length octets) 4 then None else Some (from_be_bytes w32 (take 4 octets), drop 4 octets)

-- what stands behind so many octets
abbrev pub behind_octets : ℕ × List ℕ → Option (List ℕ)
behind_octets read = if nat_lt (length read.1) read.0 then None else Some (drop read.0 read.1)

-- and behind octets after their number
abbrev pub behind_counted : List ℕ → Option (List ℕ)
behind_counted octets = option_and_then behind_octets (number_in octets)

-- behind the value of an attribute, whose first octet says its form
abbrev pub behind_value : List ℕ → Option (List ℕ)
behind_value [] = None
behind_value (form ∷ octets) = behind_counted octets

-- behind an attribute: its type and its value
abbrev pub behind_attribute : List ℕ → Option (List ℕ)
behind_attribute octets = option_and_then behind_value (behind_counted octets)

-- behind so many of a kind
abbrev pub behind_each : (List ℕ → Option (List ℕ)) → ℕ → List ℕ → Option (List ℕ)
behind_each behind zero octets = Some octets
behind_each behind (suc count) octets = option_and_then (behind_each behind count) (behind octets)

abbrev pub behind_all : (List ℕ → Option (List ℕ)) → ℕ × List ℕ → Option (List ℕ)
behind_all behind read = behind_each behind read.0 read.1

-- behind a set of attributes, after their number
abbrev pub behind_set : List ℕ → Option (List ℕ)
behind_set octets = option_and_then (behind_all behind_attribute) (number_in octets)

-- behind the key of a name: its sets, after their number
abbrev pub behind_name : List ℕ → Option (List ℕ)
behind_name octets = option_and_then (behind_all behind_set) (number_in octets)

-- what stands behind the key of a name is found
abbrev pub PointsAreFound : Type 0
PointsAreFound = (name : List RdnMap) (point : List ℕ) → NameFits name → behind_name (name_key name ++ point) ≡ Some point

-- ---- the text

-- the general name that the octets encode
abbrev pub general_in : Result Place (Rule × ℕ) → Option GeneralName
general_in (Ok value) = result_ok (general value)
general_in (Err fault) = None

-- no other name is printed as this one; directory names of other octets may be
abbrev pub has_own_text : GeneralName → Bool
has_own_text (directory_name contents) = false
has_own_text name = true

-- the general name, if it has a text of its own; or the octets
abbrev pub point_name_text : List ℕ → Option GeneralName → List ℕ
point_name_text octets None = encode_lower octets
point_name_text octets (Some name) = if has_own_text name then general_text name else encode_lower octets

-- ` point NAME`, if something stands behind the key
abbrev pub point_text : Option (List ℕ) → List ℕ
point_text None = []
point_text (Some []) = []
point_text (Some (octet ∷ octets)) =
    codes " point " ++ point_name_text (octet ∷ octets) (general_in (outermost (octet ∷ octets)))

unfoldable pub issuer_point_text : Option IssuerRow → List ℕ
issuer_point_text None = []
issuer_point_text (Some row) = point_text (behind_name row.identity.name)
