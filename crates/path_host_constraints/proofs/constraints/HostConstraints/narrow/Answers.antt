use Rattle.std.proofs.Common.{map, sym, ap, subst}
use Rattle.names_hosts.specs.Hosts.{host_names, IsAmongHosts}
use Rattle.names_hosts.specs.Mail.{mail_names, IsAmongMail}
use Rattle.cert.specs.CertificateHosts.{seen_hosts}
use Rattle.path_host_constraints.specs.Lists.{changed, members_of}
use Rattle.path_host_constraints.specs.MailLists.{IsNarrowedMail}
use Rattle.path_host_constraints.specs.HostLists.{IsNarrowedHosts}
use Rattle.path_host_constraints.proofs.Loops.{has_appended, or_more, put_behind}
use Rattle.path_host_constraints.proofs.Narrowing.{narrows_from, size_is, few_more}
use Rattle.path_host_constraints.proofs.constraints.HostConstraints.narrow.Goals as goal

pub returns-clause-ok : goal.returns-clause-ok
returns-clause-ok c =
    let mail_joined =
    put_behind c.in_ok-joined_mail.joined_mail c.self.inside.excluded_mail.items c.deref-3.result.now c.reserve.new.self.items c.put.new.indexes.items
    (map mail_names c.args.hosts.now.excluded_mail.items) (map mail_names c.deref-4.result.now)
    c.deref-3.ensures.value c.in_ok-reserve.ensures.items (ap (map mail_names) c.deref-4.ensures.value) c.in_ok-joined_mail.ensures c.put.ensures in
    let hosts_joined =
    put_behind c.in_ok-joined_hosts.joined_hosts c.self.inside.excluded_hosts.items c.deref-5.result.now c.reserve-2.new.self.items c.put-2.new.indexes.items
    (map host_names c.args.hosts.now.excluded_hosts.items) (map host_names c.deref-6.result.now)
    c.deref-5.ensures.value c.in_ok-reserve-2.ensures.items (ap (map host_names) c.deref-6.ensures.value) c.in_ok-joined_hosts.ensures c.put-2.ensures in
    narrows_from _ _ _ _ c.self.view_is (record {
      mail = subst (λ list. IsNarrowedMail c.self.inside.mail (map mail_names c.args.hosts.now.permitted_mail.items) list) (sym c.replace.ensures)
          (subst (λ bases. IsNarrowedMail c.self.inside.mail bases (changed c.self.inside.mail c.in_ok-addresses.addresses)) (ap (map mail_names) c.deref.ensures.value) c.in_ok-addresses.ensures.narrows);
      hosts = subst (λ list. IsNarrowedHosts c.self.inside.hosts (map host_names c.args.hosts.now.permitted_hosts.items) list) (sym c.replace-2.ensures)
          (subst (λ bases. IsNarrowedHosts c.self.inside.hosts bases (changed c.self.inside.hosts c.in_ok-permitted.permitted)) (ap (map host_names) c.deref-2.ensures.value) c.in_ok-permitted.ensures.narrows);
      excluded_mail = λ name. has_appended IsAmongMail (members_of c.put.new.indexes.items) (members_of c.self.inside.excluded_mail.items) (map mail_names c.args.hosts.now.excluded_mail.items) name mail_joined;
      excluded_hosts = λ host. has_appended IsAmongHosts (members_of c.put-2.new.indexes.items) (members_of c.self.inside.excluded_hosts.items) (map host_names c.args.hosts.now.excluded_hosts.items) host hosts_joined;
      constrains_mail = or_more c.self.inside.constrains_mail _ _ c.constrains_mail-mail.ensures;
      constrains_uris = or_more c.self.inside.constrains_uris _ _ c.constrains_uris-uris.ensures;
      few = few_more (seen_hosts c.args.hosts.now) c.self.inside.mail _ c.self.inside.hosts _ (members_of c.self.inside.excluded_mail.items) _ (members_of c.self.inside.excluded_hosts.items) _
          (size_is mail_names c.self.inside.mail _ _ _ _ c.replace.ensures c.in_ok-addresses.ensures.fewer c.deref.ensures.value)
          (size_is host_names c.self.inside.hosts _ _ _ _ c.replace-2.ensures c.in_ok-permitted.ensures.fewer c.deref-2.ensures.value)
          mail_joined hosts_joined;
    })
