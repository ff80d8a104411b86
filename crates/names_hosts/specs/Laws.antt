use Rattle.std.specs.Prelude.{◌≡◌, ◌⊎◌, ◌↔◌, ℕ, Bool, List, Some, IsTrue}
use Rattle.names_identity.specs.Host.{IsHost}
use Rattle.names_hosts.specs.Hosts.{HostNames, IsAmongHosts, AreHostsOf, AreHostsInside, is_host, host_base_of}
use Rattle.names_hosts.specs.Mail.{MailText, MailNames, IsAddressLiteral, IsMailName, IsMailOf, IsAmongMail, IsMailInside, mail_of, mail_base_of}
use Rattle.names_hosts.specs.Uri.{IsHostOfUri, uri_host}

-- a base says one thing
abbrev pub HostBaseIsOne : Type 0
HostBaseIsOne = (base : List ℕ) (s t : HostNames) → AreHostsOf base s → AreHostsOf base t → s ≡ t

-- the first hosts are inside the second just if each of the first is one of the second
abbrev pub HostsInsideIsExact : Type 0
HostsInsideIsExact =
    (s t : HostNames) → (AreHostsInside s t ↔ ((x : List ℕ) → IsAmongHosts x s → IsAmongHosts x t))

-- two that share a host are nested, one way or the other
abbrev pub SharedHostsAreNested : Type 0
SharedHostsAreNested =
    (x : List ℕ) (s t : HostNames) → IsAmongHosts x s → IsAmongHosts x t →
    AreHostsInside s t ⊎ AreHostsInside t s

-- a URI has one host
abbrev pub UriHostIsOne : Type 0
UriHostIsOne = (uri one other : List ℕ) → IsHostOfUri uri one → IsHostOfUri uri other → one ≡ other

-- a text is one mail address
abbrev pub MailNameIsOne : Type 0
MailNameIsOne =
    (utf8 : Bool) (text : List ℕ) (one other : MailText) → IsMailName utf8 text one → IsMailName utf8 text other → one ≡ other

-- a base says one thing
abbrev pub MailBaseIsOne : Type 0
MailBaseIsOne = (base : List ℕ) (s t : MailNames) → IsMailOf base s → IsMailOf base t → s ≡ t

-- the first mail addresses are inside the second just if each of the first is one of the second
abbrev pub MailInsideIsExact : Type 0
MailInsideIsExact =
    (s t : MailNames) → (IsMailInside s t ↔ ((x : MailText) → IsAmongMail x s → IsAmongMail x t))

-- two that share a mail address are nested, one way or the other
abbrev pub SharedMailIsNested : Type 0
SharedMailIsNested =
    (x : MailText) (s t : MailNames) → IsAmongMail x s → IsAmongMail x t →
    IsMailInside s t ⊎ IsMailInside t s

-- the tests and functions decide the relations

abbrev pub HostTestIsExact : Type 0
HostTestIsExact = (text : List ℕ) → (IsTrue (is_host text) ↔ IsHost text)

abbrev pub HostBaseIsExact : Type 0
HostBaseIsExact = (base : List ℕ) (names : HostNames) → ((host_base_of base ≡ Some names) ↔ AreHostsOf base names)

abbrev pub MailNameIsExact : Type 0
MailNameIsExact = (utf8 : Bool) (text : List ℕ) (name : MailText) → ((mail_of utf8 text ≡ Some name) ↔ IsMailName utf8 text name)

-- an address literal is in no base but its own mailbox: it is none of the hosts of a base
abbrev pub LiteralsAreAtNoHosts : Type 0
LiteralsAreAtNoHosts =
    (literal base : List ℕ) (names : HostNames) → IsAddressLiteral literal → AreHostsOf base names → ¬ IsAmongHosts literal names

abbrev pub MailBaseIsExact : Type 0
MailBaseIsExact = (base : List ℕ) (names : MailNames) → ((mail_base_of base ≡ Some names) ↔ IsMailOf base names)

abbrev pub UriHostIsExact : Type 0
UriHostIsExact = (uri host : List ℕ) → ((uri_host uri ≡ Some host) ↔ IsHostOfUri uri host)
