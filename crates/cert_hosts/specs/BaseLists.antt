-- The bases of a certificate's constraints on mail addresses and on the hosts of URIs (RFC 5280, 4.2.1.10).
use Rattle.std.specs.Prelude.{Bool, true, false, List, [], ◌∷◌, ◌++◌, map}
use Rattle.names_hosts.specs.Hosts.{HostNames, host_names}
use Rattle.names_hosts.specs.Mail.{MailNames, mail_names}
use Rattle.cert_hosts.specs.declared.base_lists.BaseLists as code

pub record BaseLists : Type 0 where
  pub permitted_mail : List MailNames
  pub excluded_mail : List MailNames
  pub permitted_hosts : List HostNames
  pub excluded_hosts : List HostNames

abbrev pub seen_lists : code.BaseLists → BaseLists
seen_lists read = record {
  permitted_mail = map mail_names read.permitted_mail.items;
  excluded_mail = map mail_names read.excluded_mail.items;
  permitted_hosts = map host_names read.permitted_hosts.items;
  excluded_hosts = map host_names read.excluded_hosts.items;
}

abbrev pub no_bases : BaseLists
no_bases = record { permitted_mail = []; excluded_mail = []; permitted_hosts = []; excluded_hosts = [] }

-- with one more

abbrev pub with_mail_base : Bool → MailNames → BaseLists → BaseLists
with_mail_base true base before = record before { permitted_mail = before.permitted_mail ++ base ∷ [] }
with_mail_base false base before = record before { excluded_mail = before.excluded_mail ++ base ∷ [] }

abbrev pub with_host_base : Bool → HostNames → BaseLists → BaseLists
with_host_base true base before = record before { permitted_hosts = before.permitted_hosts ++ base ∷ [] }
with_host_base false base before = record before { excluded_hosts = before.excluded_hosts ++ base ∷ [] }
