-- Mail addresses, and the constraints on them (RFC 5280, 4.2.1.6, 4.2.1.10 and 7.5). An rfc822Name is a Mailbox (RFC 5321, 4.1.2):
-- Local-part "@" ( Domain / address-literal ). So is an SmtpUTF8Mailbox, whose local part may have octets of UTF-8 (RFC 9598, 3).
use Rattle.std.specs.Prelude.{◌≡◌, ◌⊎◌, ◌<◌, ◌==◌, ◌||◌, ◌&&◌, ℕ, List, ◌∷◌, ◌++◌, [], Bool, false, nat_lt, length, Option, Some, None, option_map}
use Rattle.std.specs.Bool.{then_some}
use Rattle.std.specs.List.{AllPass, list_all}
use Rattle.std.specs.Char.{is_ascii_alphanumeric}
use Rattle.names_identity.specs.Host.{IsHost}
use Rattle.names_hosts.specs.declared.mail.MailName.{MailName}
use Rattle.names_hosts.specs.declared.mail.MailBase.{MailBase}
use Rattle.names_hosts.specs.declared.mail.MailBase.TheVariants as B
use Rattle.names_hosts.specs.Hosts.{HostNames, host_names, AreHostsOf, IsSameHost, IsAmongHosts, AreHostsInside, is_host, host_base_of}
use Rattle.names_hosts.specs.LocalPart.{IsLocalPart, unquoted, local_contents}
use Rattle.names_hosts.specs.Splits.{last_split, between}

-- a mail address: the value of its local part, and a host or an address literal
pub record MailText : Type 0 where
  pub local : List ℕ
  pub host : List ℕ

-- one that was read, without where it lies in memory
abbrev pub mail_text : MailName → MailText
mail_text name = record { local = unquoted name.local.now; host = name.host.now }

-- address-literal, as "[192.0.2.1]" or "[IPv6:2001:db8::1]": letters, digits, dots and colons, which are not looked at further (a choice of
-- this profile)
abbrev pub is_literal_octet : ℕ → Bool
is_literal_octet octet = is_ascii_alphanumeric octet || (octet == 46 || octet == 58)

pub record IsAddressLiteral (text : List ℕ) : Type 0 where
  pub inside : List ℕ
  pub joined : text ≡ 91 ∷ inside ++ 93 ∷ []
  pub some : 0 < length inside
  pub octets : AllPass is_literal_octet inside

-- Mailbox = Local-part "@" ( Domain / address-literal )
pub record IsMailName (utf8 : Bool) (text : List ℕ) (name : MailText) : Type 0 where
  pub part : List ℕ
  pub joined : text ≡ part ++ 64 ∷ name.host
  pub local : IsLocalPart utf8 part name.local
  pub behind : IsHost name.host ⊎ IsAddressLiteral name.host

-- the mail addresses of a base: one mailbox, or all at these hosts
pub data MailNames : Type 0 where
  one_mailbox : MailText → MailNames
  mail_at : HostNames → MailNames

abbrev pub mail_names : MailBase → MailNames
mail_names (B.Mailbox name) = one_mailbox (mail_text name)
mail_names (B.Hosts hosts) = mail_at (host_names hosts)

-- a mail address, a host, or a dot and a domain, of ASCII alone; other octets are no base, and neither is nothing
abbrev pub IsMailOf : List ℕ → MailNames → Type 0
IsMailOf base (one_mailbox name) = IsMailName false base name
IsMailOf base (mail_at hosts) = AreHostsOf base hosts

-- the same mailbox: of one local part, octet by octet, and of one host or address literal, without regard to ASCII case
pub record IsSameMailbox (one other : MailText) : Type 0 where
  pub local : one.local ≡ other.local
  pub host : IsSameHost one.host other.host

-- the mail address is one of these
abbrev pub IsAmongMail : MailText → MailNames → Type 0
IsAmongMail name (one_mailbox other) = IsSameMailbox name other
IsAmongMail name (mail_at hosts) = IsAmongHosts name.host hosts

-- the first mail addresses are among the second: all at a host are never one mailbox alone
abbrev pub IsMailInside : MailNames → MailNames → Type 0
IsMailInside (one_mailbox inner) (one_mailbox outer) = IsSameMailbox inner outer
IsMailInside (one_mailbox inner) (mail_at outer) = IsAmongHosts inner.host outer
IsMailInside (mail_at inner) (one_mailbox outer) = ⊥
IsMailInside (mail_at inner) (mail_at outer) = AreHostsInside inner outer

-- the mail address that a text is (RFC 5280, 4.2.1.6), and what a base says (4.2.1.10)

abbrev pub is_literal_inside : Option (List ℕ) → Bool
is_literal_inside None = false
is_literal_inside (Some inside) = nat_lt 0 (length inside) && list_all is_literal_octet inside

unfoldable pub is_address_literal : List ℕ → Bool
is_address_literal text = is_literal_inside (between 91 93 text)

abbrev pub mail_of_parts : Option (List ℕ) → List ℕ → Option MailText
mail_of_parts None host = None
mail_of_parts (Some local) host = then_some (is_host host || is_address_literal host) (record { local = unquoted local; host = host })

-- Local part and host stand before and behind the last at sign, since no host has one.
abbrev pub mail_of_split : Bool → Option (List ℕ × List ℕ) → Option MailText
mail_of_split utf8 None = None
mail_of_split utf8 (Some parts) = mail_of_parts (local_contents utf8 parts.0) parts.1

unfoldable pub mail_of : Bool → List ℕ → Option MailText
mail_of utf8 text = mail_of_split utf8 (last_split 64 text)

abbrev pub mail_or_hosts : Option MailText → Option HostNames → Option MailNames
mail_or_hosts (Some name) hosts = Some (one_mailbox name)
mail_or_hosts None hosts = option_map mail_at hosts

-- a mail address, or else a host, or a dot and a domain
unfoldable pub mail_base_of : List ℕ → Option MailNames
mail_base_of base = mail_or_hosts (mail_of false base) (host_base_of base)
