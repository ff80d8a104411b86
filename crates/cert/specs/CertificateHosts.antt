-- What a certificate says of mail addresses and of the hosts of URIs (RFC 5280, 4.1.2.6, 4.2.1.6 and 4.2.1.10).
use Rattle.std.specs.Prelude.{ℕ, List, [], map, Option, option_map}
use Rattle.std.specs.Option.{option_copied}
use Rattle.names_hosts.specs.Hosts.{HostNames, host_names}
use Rattle.names_hosts.specs.Mail.{MailText, MailNames, mail_text, mail_names}
use Rattle.cert.specs.declared.hosts.CertificateHosts as code

pub record CertificateHosts : Type 0 where
  -- of each emailAddress of the subject, and then of each rfc822Name and SmtpUTF8Mailbox of subjectAltName, the mailbox, if it is one of the
  -- form that is processed
  pub mail : List (Option MailText)
  -- of each uniformResourceIdentifier of subjectAltName the host, if it has one that is a DNS name
  pub hosts : List (Option (List ℕ))
  -- the bases of nameConstraints on either form
  pub permitted_mail : List MailNames
  pub excluded_mail : List MailNames
  pub permitted_hosts : List HostNames
  pub excluded_hosts : List HostNames

abbrev pub seen_hosts : code.CertificateHosts → CertificateHosts
seen_hosts read = record {
  mail = map (option_map mail_text) read.mail.items;
  hosts = map option_copied read.hosts.items;
  permitted_mail = map mail_names read.permitted_mail.items;
  excluded_mail = map mail_names read.excluded_mail.items;
  permitted_hosts = map host_names read.permitted_hosts.items;
  excluded_hosts = map host_names read.excluded_hosts.items;
}

-- what a certificate says that has none of them
abbrev pub no_hosts : CertificateHosts
no_hosts = record { mail = []; hosts = []; permitted_mail = []; excluded_mail = []; permitted_hosts = []; excluded_hosts = [] }
