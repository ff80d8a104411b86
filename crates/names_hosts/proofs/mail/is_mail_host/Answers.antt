use Rattle.std.proofs.Common.{◌≡◌, ◌∙◌, sym, true, false}
use Rattle.names_hosts.specs.Hosts.{is_host}
use Rattle.names_hosts.proofs.HostTests.{host_decided}
use Rattle.names_hosts.proofs.mail.is_mail_host.Goals as goal

pub returns-then-is_host : goal.returns-then-is_host
returns-then-is_host c =
    let there : is_host c.args.text.now ≡ true = sym (host_decided c.args.text.now c.is_host.result c.is_host.ensures) ∙ c.if-is_host.true in
    rw there c.if-is_host.true

pub returns-else-is_host : goal.returns-else-is_host
returns-else-is_host c =
    let none : is_host c.args.text.now ≡ false = sym (host_decided c.args.text.now c.is_host.result c.is_host.ensures) ∙ c.if-is_host.false in
    rw none c.is_address_literal.ensures
