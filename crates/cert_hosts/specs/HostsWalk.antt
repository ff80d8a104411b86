-- What a certificate says of mail addresses and hosts, with its bases read one by one in the order in which they stand, up to the first that is
-- malformed (RFC 5280, 4.2.1.10).
use Rattle.std.specs.Prelude.{ℕ, List, [], ◌∷◌, map, Result, Ok}
use Rattle.asn.specs.Place.{Place, body}
use Rattle.asn.specs.Walk.{◌>>=◌, or_fault}
use Rattle.names.specs.NameRule.TheVariants.{MailForm, UriForm}
use Rattle.cert.specs.declared.fault.CertRule.{CertRule}
use Rattle.cert.specs.declared.fault.CertRule.TheVariants.{Name}
use Rattle.names_hosts.specs.Hosts.{host_base_of}
use Rattle.names_hosts.specs.Mail.{mail_base_of}
use Rattle.names_hosts.specs.Uri.{uri_host}
use Rattle.cert.specs.Certificate.{Certificate}
use Rattle.cert.specs.CertificateHosts.{CertificateHosts}
use Rattle.cert.specs.ExtensionValues.{ExtensionValues}
use Rattle.cert_hosts.specs.BaseLists.{BaseLists, no_bases, with_mail_base, with_host_base}
use Rattle.cert_hosts.specs.Bases.{Base, mail_base, host_base, bases_in}
use Rattle.cert_hosts.specs.Mailboxes.{mailbox_of}
use Rattle.cert_hosts.specs.OwnNames.{mail_values, uris}

-- what the bases before one say, and this one; or the rule that it breaks, and where it stands
abbrev pub with_base : BaseLists → Base → Result BaseLists (CertRule × ℕ)
with_base before (mail_base permitted value) =
    or_fault (mail_base_of (body value)) (Name MailForm) value.at >>= λ names. Ok (with_mail_base permitted names before)
with_base before (host_base permitted value) =
    or_fault (host_base_of (body value)) (Name UriForm) value.at >>= λ names. Ok (with_host_base permitted names before)

-- all of them, in order
abbrev pub with_bases : BaseLists → List Base → Result BaseLists (CertRule × ℕ)
with_bases before [] = Ok before
with_bases before (base ∷ bases) = with_base before base >>= λ next. with_bases next bases

unfoldable pub base_lists : ExtensionValues → Result BaseLists (CertRule × ℕ)
base_lists values = bases_in values >>= λ bases. with_bases no_bases bases

-- the mailboxes and hosts of the certificate, with these bases
abbrev pub with_lists : Certificate → BaseLists → CertificateHosts
with_lists c lists = record {
  mail = map mailbox_of (mail_values c);
  hosts = map uri_host (uris c);
  permitted_mail = lists.permitted_mail;
  excluded_mail = lists.excluded_mail;
  permitted_hosts = lists.permitted_hosts;
  excluded_hosts = lists.excluded_hosts;
}

-- What the certificate says, or the first rule that one of its bases breaks, and where.
unfoldable pub certificate_hosts : Certificate → Result CertificateHosts (CertRule × ℕ)
certificate_hosts c = base_lists c.extensions.values >>= λ lists. Ok (with_lists c lists)
