-- The host of a URI (RFC 3986, 3.1 and 3.2), to which the constraints on URIs apply (RFC 5280, 4.2.1.10).
use Rattle.std.specs.Prelude.{◌≡◌, ◌⊎◌, ◌==◌, ◌||◌, ◌&&◌, ℕ, List, [], ◌∷◌, ◌++◌, Bool, false, true, not, IsTrue, Option, Some, None, if◌then◌else◌}
use Rattle.std.specs.Bool.{then_some}
use Rattle.std.specs.Option.{option_and_then}
use Rattle.std.specs.List.{All, AllPass, list_any, list_all, before_first, after_first}
use Rattle.std.specs.Char.{is_ascii_alphabetic, is_ascii_alphanumeric, is_ascii_digit}
use Rattle.names_identity.specs.Host.{IsHost}
use Rattle.names_hosts.specs.Hosts.{HostNames, IsAmongHosts, is_host}
use Rattle.names_hosts.specs.Splits.{IsLastSplit, last_split}

-- the octet is one of these
abbrev pub is_one_of : List ℕ → ℕ → Bool
is_one_of ends octet = list_any (λ end. end == octet) ends

abbrev pub HasNone : List ℕ → List ℕ → Type 0
HasNone ends text = All (λ octet. is_one_of ends octet ≡ false) text

-- no octets, or the first is one of these
abbrev pub IsStop : List ℕ → List ℕ → Type 0
IsStop ends [] = Unit {0}
IsStop ends (octet ∷ behind) = is_one_of ends octet ≡ true

-- the text up to the first octet that is one of these, and the rest
pub record IsCut (ends text front behind : List ℕ) : Type 0 where
  pub joined : text ≡ front ++ behind
  pub none : HasNone ends front
  pub stops : IsStop ends behind

-- scheme = ALPHA *( ALPHA / DIGIT / "+" / "-" / "." )
abbrev pub is_scheme_octet : ℕ → Bool
is_scheme_octet octet = is_ascii_alphanumeric octet || (octet == 43 || (octet == 45 || octet == 46))

pub record IsScheme (scheme : List ℕ) : Type 0 where
  pub first : ℕ
  pub rest : List ℕ
  pub joined : scheme ≡ first ∷ rest
  pub letter : IsTrue (is_ascii_alphabetic first)
  pub others : AllPass is_scheme_octet rest

-- URI = scheme ":" "//" rest
pub record IsBehindScheme (uri rest : List ℕ) : Type 0 where
  pub scheme : List ℕ
  pub joined : uri ≡ scheme ++ 58 ∷ 47 ∷ 47 ∷ rest
  pub is_scheme : IsScheme scheme

-- what ends an authority: a slash, a question mark, a number sign, or the end of the URI
abbrev pub authority_ends : List ℕ
authority_ends = 47 ∷ 63 ∷ 35 ∷ []

-- the authority, and a path, a query or a fragment behind it, which are not looked at
pub record HasAuthority (uri authority : List ℕ) : Type 0 where
  pub rest : List ℕ
  pub behind : List ℕ
  pub behind_scheme : IsBehindScheme uri rest
  pub cut : IsCut authority_ends rest authority behind

-- octets of userinfo: unreserved, sub-delims, a colon, and the percent sign of pct-encoded, which is not looked behind (a choice of this
-- profile). None is an at sign.
abbrev pub user_marks : List ℕ
user_marks =
    33 ∷ 36 ∷ 37 ∷ 38 ∷ 39 ∷ 40 ∷ 41 ∷ 42 ∷ 43 ∷ 44 ∷ 45 ∷ 46 ∷ 58 ∷ 59 ∷ 61 ∷ 95 ∷ 126 ∷ []

abbrev pub is_user_octet : ℕ → Bool
is_user_octet octet = is_ascii_alphanumeric octet || is_one_of user_marks octet

-- nothing, or userinfo "@"
pub record IsUserAt (part : List ℕ) : Type 0 where
  pub user : List ℕ
  pub joined : part ≡ user ++ 64 ∷ []
  pub octets : AllPass is_user_octet user

abbrev pub IsUserPart : List ℕ → Type 0
IsUserPart part = (part ≡ []) ⊎ IsUserAt part

-- nothing, or ":" *DIGIT
pub record IsPortBehind (part : List ℕ) : Type 0 where
  pub port : List ℕ
  pub joined : part ≡ 58 ∷ port
  pub digits : AllPass is_ascii_digit port

abbrev pub IsPortPart : List ℕ → Type 0
IsPortPart part = (part ≡ []) ⊎ IsPortBehind part

-- authority = [ userinfo "@" ] rest
pub record IsBehindUser (authority rest : List ℕ) : Type 0 where
  pub user : List ℕ
  pub joined : authority ≡ user ++ rest
  pub is_user : IsUserPart user

-- a label that begins with 0x, as numbers do: some readers of URIs take a host that ends in one for an IPv4 address
abbrev pub is_hex_label : List ℕ → Bool
is_hex_label [] = false
is_hex_label (zero_digit ∷ []) = false
is_hex_label (zero_digit ∷ letter ∷ rest) = zero_digit == 48 && (letter == 120 || letter == 88)

-- a fully qualified domain name (RFC 5280, 4.2.1.10): a host of two labels at least, the last of which is no number
pub record IsFullyQualified (host : List ℕ) : Type 0 where
  pub is_host : IsHost host
  pub front : List ℕ
  pub last : List ℕ
  pub labels : IsLastSplit 46 host front last
  pub no_hex : is_hex_label last ≡ false

-- rest = host [ ":" port ], where the host is a fully qualified domain name; with a dot at its end it is none (a choice of this profile)
pub record IsHostAndPort (rest host : List ℕ) : Type 0 where
  pub port : List ℕ
  pub joined : rest ≡ host ++ port
  pub is_host : IsFullyQualified host
  pub is_port : IsPortPart port

pub record IsHostOfAuthority (authority host : List ℕ) : Type 0 where
  pub rest : List ℕ
  pub behind_user : IsBehindUser authority rest
  pub host_and_port : IsHostAndPort rest host

-- the host of a URI, if its authority has one that is a fully qualified domain name
pub record IsHostOfUri (uri host : List ℕ) : Type 0 where
  pub authority : List ℕ
  pub has_authority : HasAuthority uri authority
  pub has_host : IsHostOfAuthority authority host

-- the URI has a host, and it is one of these; or it has one, and it is none of these. A URI without one is neither (RFC 5280, 4.2.1.10: it
-- must be rejected where a constraint on URIs applies).
pub record IsUriAmong (uri : List ℕ) (names : HostNames) : Type 0 where
  pub host : List ℕ
  pub is_host : IsHostOfUri uri host
  pub among : IsAmongHosts host names

pub record IsUriClearOf (uri : List ℕ) (names : HostNames) : Type 0 where
  pub host : List ℕ
  pub is_host : IsHostOfUri uri host
  pub clear : IsAmongHosts host names → ⊥

-- the host of a URI, read part by part

-- what stands before the first octet that is one of these, or all if there is none; and what stands behind it, or nothing
abbrev pub before_any : List ℕ → List ℕ → List ℕ
before_any ends text = before_first (is_one_of ends) text

abbrev pub behind_any : List ℕ → List ℕ → List ℕ
behind_any ends text = after_first (is_one_of ends) text

abbrev pub colon : List ℕ
colon = 58 ∷ []

abbrev pub at_sign : List ℕ
at_sign = 64 ∷ []

-- scheme = ALPHA *( ALPHA / DIGIT / "+" / "-" / "." ) (RFC 3986, 3.1)
abbrev pub is_scheme : List ℕ → Bool
is_scheme [] = false
is_scheme (first ∷ rest) = is_ascii_alphabetic first && list_all is_scheme_octet rest

-- what stands behind two slashes
abbrev pub behind_slashes : List ℕ → Option (List ℕ)
behind_slashes [] = None
behind_slashes (one ∷ []) = None
behind_slashes (one ∷ other ∷ rest) = then_some (one == 47 && other == 47) rest

-- URI = scheme ":" "//" rest. If there is no colon, nothing stands behind it, and that has no slashes.
abbrev pub behind_scheme : List ℕ → Option (List ℕ)
behind_scheme uri = if is_scheme (before_any colon uri) then behind_slashes (behind_any colon uri) else None

-- authority = [ userinfo "@" ] rest (RFC 3986, 3.2.1)
abbrev pub behind_user : List ℕ → Option (List ℕ)
behind_user authority =
    if list_any (is_one_of at_sign) authority then then_some (list_all is_user_octet (before_any at_sign authority)) (behind_any at_sign authority)
    else Some authority

-- the last of two labels or more is no number
abbrev pub has_last_label : Option (List ℕ × List ℕ) → Bool
has_last_label None = false
has_last_label (Some parts) = not (is_hex_label parts.1)

unfoldable pub is_fully_qualified : List ℕ → Bool
is_fully_qualified host = is_host host && has_last_label (last_split 46 host)

-- rest = host [ ":" port ], where the port is digits, or nothing (RFC 3986, 3.2.2 and 3.2.3)
abbrev pub before_port : List ℕ → Option (List ℕ)
before_port rest = then_some (is_fully_qualified (before_any colon rest) && list_all is_ascii_digit (behind_any colon rest)) (before_any colon rest)

-- the host of an authority, if it is a fully qualified domain name
abbrev pub host_in : List ℕ → Option (List ℕ)
host_in authority = option_and_then before_port (behind_user authority)

-- the host of a URI: of the authority, which goes up to a slash, a question mark, a number sign, or the end of the URI (RFC 3986, 3.2)
unfoldable pub uri_host : List ℕ → Option (List ℕ)
uri_host uri = option_and_then (λ rest. host_in (before_any authority_ends rest)) (behind_scheme uri)
