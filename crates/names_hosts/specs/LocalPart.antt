-- Local parts of mail addresses (RFC 5321, 4.1.2): Local-part = Dot-string / Quoted-string. Where octets of UTF-8 are allowed, those beyond
-- ASCII may stand in either (RFC 6531, 3.3).
use Rattle.std.specs.Prelude.{◌≡◌, ◌⊎◌, ◌<◌, ◌==◌, ◌||◌, ◌&&◌, ℕ, List, [], ◌∷◌, ◌++◌, Bool, not, true, IsTrue, nat_lt, nat_le, length, Option, Some, None, if◌then◌else◌}
use Rattle.std.specs.Bool.{then_some}
use Rattle.std.specs.List.{All, AllPass, AllZip, list_all, concat}
use Rattle.std.specs.Char.{is_ascii_alphanumeric}
use Rattle.names_identity.specs.Host.{dotted_parts}
use Rattle.names_hosts.specs.Splits.{between}
use Rattle.names_hosts.specs.Uri.{is_one_of}

-- UTF8-non-ascii (RFC 6531, 3.3)
abbrev pub is_beyond_ascii : Bool → ℕ → Bool
is_beyond_ascii utf8 octet = utf8 && nat_le 128 octet

-- atext = ALPHA / DIGIT / "!" / "#" / "$" / "%" / "&" / "'" / "*" / "+" / "-" / "/" / "=" / "?" / "^" / "_" / "`" / "{" / "|" / "}" / "~"
-- (RFC 5322, 3.2.3)
abbrev pub atom_marks : List ℕ
atom_marks =
    33 ∷ 35 ∷ 36 ∷ 37 ∷ 38 ∷ 39 ∷ 42 ∷ 43 ∷ 45 ∷ 47 ∷ 61 ∷ 63 ∷ 94 ∷ 95 ∷ 96 ∷ 123 ∷ 124 ∷ 125 ∷ 126 ∷ []

abbrev pub is_atom_octet : Bool → ℕ → Bool
is_atom_octet utf8 octet = is_ascii_alphanumeric octet || (is_one_of atom_marks octet || is_beyond_ascii utf8 octet)

-- Atom = 1*atext
pub record IsAtom (utf8 : Bool) (atom : List ℕ) : Type 0 where
  pub some : 0 < length atom
  pub octets : AllPass (is_atom_octet utf8) atom

-- Dot-string = Atom *("." Atom)
abbrev pub IsDotString : Bool → List ℕ → Type 0
IsDotString utf8 part = All (IsAtom utf8) (dotted_parts part)

-- from space to tilde
abbrev pub is_printing : ℕ → Bool
is_printing octet = nat_le 32 octet && nat_le octet 126

-- qtextSMTP: neither the quote nor the backslash
abbrev pub is_quoted_octet : Bool → ℕ → Bool
is_quoted_octet utf8 octet = (is_printing octet && not (octet == 34 || octet == 92)) || is_beyond_ascii utf8 octet

-- QcontentSMTP = qtextSMTP / quoted-pairSMTP, and the octet that it stands for: a backslash quotes the octet behind it
abbrev pub IsPiece : Bool → List ℕ → ℕ → Type 0
IsPiece utf8 piece octet =
    ((piece ≡ octet ∷ []) × IsTrue (is_quoted_octet utf8 octet)) ⊎ ((piece ≡ 92 ∷ octet ∷ []) × IsTrue (is_printing octet))

-- Quoted-string = DQUOTE *QcontentSMTP DQUOTE, and the value that it quotes
pub record IsQuotedString (utf8 : Bool) (part value : List ℕ) : Type 0 where
  pub pieces : List (List ℕ)
  pub joined : part ≡ 34 ∷ concat pieces ++ 34 ∷ []
  pub each : AllZip (IsPiece utf8) pieces value

-- a local part, and its value, by which it is compared: with and without quotes it is one mailbox (RFC 5321, 4.1.2)
abbrev pub IsLocalPart : Bool → List ℕ → List ℕ → Type 0
IsLocalPart utf8 part value = (IsDotString utf8 part × (value ≡ part)) ⊎ IsQuotedString utf8 part value

-- tests of these, and the value

abbrev pub is_atom : Bool → List ℕ → Bool
is_atom utf8 atom = nat_lt 0 (length atom) && list_all (is_atom_octet utf8) atom

abbrev pub is_dot_string : Bool → List ℕ → Bool
is_dot_string utf8 part = list_all (is_atom utf8) (dotted_parts part)

abbrev pub are_quoted : Bool → List ℕ → Bool
are_quoted utf8 [] = true
are_quoted utf8 (octet ∷ []) = is_quoted_octet utf8 octet
are_quoted utf8 (octet ∷ next ∷ rest) =
    if octet == 92 then is_printing next && are_quoted utf8 rest else is_quoted_octet utf8 octet && are_quoted utf8 (next ∷ rest)

-- what a backslash quotes, and what stands behind that
abbrev pub pair_of : ℕ → List ℕ → Option (ℕ × List ℕ)
pair_of octet [] = None
pair_of octet (next ∷ rest) = then_some (octet == 92) (next, rest)

-- what the contents of a local part stand for, without quotes round them
abbrev pub unquoted : List ℕ → List ℕ
unquoted [] = []
unquoted (octet ∷ []) = octet ∷ []
unquoted (octet ∷ next ∷ rest) = if octet == 92 then next ∷ unquoted rest else octet ∷ unquoted (next ∷ rest)

-- the contents of a local part: what stands between its quotes, or all if there are none
abbrev pub contents_if_quoted : Bool → List ℕ → Option (List ℕ) → Option (List ℕ)
contents_if_quoted utf8 part (Some quoted) = then_some (are_quoted utf8 quoted) quoted
contents_if_quoted utf8 part None = then_some (is_dot_string utf8 part) part

unfoldable pub local_contents : Bool → List ℕ → Option (List ℕ)
local_contents utf8 part = contents_if_quoted utf8 part (between 34 34 part)

-- the first octet that contents stand for, and the contents behind it
pub record IsFirstOf (contents : List ℕ) (octet : ℕ) (behind : List ℕ) : Type 0 where
  pub value : unquoted contents ≡ octet ∷ unquoted behind
  pub shorter : length behind < length contents
