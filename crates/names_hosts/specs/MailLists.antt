-- Bases of constraints on mail addresses, among which mail addresses are found by halving.
use Rattle.std.specs.Prelude.{◌≡◌, ◌&&◌, List, [], ◌∷◌, Bool, Option, None, Some, Any, nat_eq}
use Rattle.std.specs.List.{list_any, cons_option}
use Rattle.std.specs.List.Sorted.{IsSortedBy}
use Rattle.std.specs.Ordering.{nat_cmp, is_lt, ordering_then}
use Rattle.std.specs.declared.cmp.Ordering.{Ordering}
use Rattle.std.specs.Cmp.Lexicographic.{slice_cmp, pointwise}
use Rattle.names_hosts.specs.declared.mail.MailName.{MailName}
use Rattle.names_hosts.specs.declared.mail.MailBase.{MailBase}
use Rattle.names_hosts.specs.Hosts.{HostNames}
use Rattle.names_hosts.specs.Mail.{MailText, mail_text, MailNames, one_mailbox, mail_at, mail_names, IsAmongMail, IsMailInside}
use Rattle.names_hosts.specs.HostLists.{is_same_host, is_host_among, host_order}

-- the mail address is among those of one of the bases
abbrev pub HasMail : List MailNames → MailText → Type 0
HasMail bases name = Any (λ base. IsAmongMail name base) bases

-- the mail addresses are among those of one of the bases
abbrev pub HoldsMail : List MailNames → MailNames → Type 0
HoldsMail bases base = Any (λ other. IsMailInside base other) bases

-- the same as a test
abbrev pub is_same_mailbox : MailText → MailText → Bool
is_same_mailbox one other =
    is_same_host one.host other.host && pointwise nat_eq one.local other.local

abbrev pub is_mail_among : MailText → MailNames → Bool
is_mail_among name (one_mailbox other) = is_same_mailbox name other
is_mail_among name (mail_at hosts) = is_host_among name.host hosts

abbrev pub one_has_mail : List MailNames → MailText → Bool
one_has_mail bases name = list_any (λ base. is_mail_among name base) bases

-- mail addresses are in the order of their hosts, and then of their local parts
abbrev pub mail_order : MailText → MailText → Ordering
mail_order one other =
    ordering_then (host_order one.host other.host) (slice_cmp nat_cmp one.local other.local)

abbrev pub is_mail_before : MailName → MailName → Bool
is_mail_before one other = is_lt (mail_order (mail_text one) (mail_text other))

-- the mail address is one of these
abbrev pub is_one_mailbox : List MailName → MailText → Bool
is_one_mailbox mailboxes name = list_any (λ one. is_same_mailbox name (mail_text one)) mailboxes

-- the mailboxes of the bases of one mailbox, and the hosts of the others
abbrev pub mailbox_in : MailNames → Option MailText
mailbox_in (one_mailbox name) = Some name
mailbox_in (mail_at hosts) = None

abbrev pub host_at : MailNames → Option HostNames
host_at (one_mailbox name) = None
host_at (mail_at hosts) = Some hosts

abbrev pub mailboxes_in : List MailBase → List MailText
mailboxes_in [] = []
mailboxes_in (base ∷ list) = cons_option (mailbox_in (mail_names base)) (mailboxes_in list)

abbrev pub hosts_at : List MailBase → List HostNames
hosts_at [] = []
hosts_at (base ∷ list) = cons_option (host_at (mail_names base)) (hosts_at list)

-- what is kept of a list: mailboxes in order, and the hosts
pub record IsMailIndex
    (all : List MailBase) (mailboxes : List MailName) (hosts : List HostNames) :
    Type 0 where
  pub sorted : IsSortedBy is_mail_before mailboxes
  pub found :
      (name : MailText) →
      list_any (is_same_mailbox name) (mailboxes_in all) ≡ is_one_mailbox mailboxes name
  pub kept : hosts ≡ hosts_at all
