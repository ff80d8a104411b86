use Rattle.std.proofs.Common.{[], subst}
use Rattle.std.specs.List.{cons_option}
use Rattle.names.specs.declared.general.General.{General}
use Rattle.names.specs.GeneralView.{general_name}
use Rattle.names_hosts.specs.Uri.{uri_host}
use Rattle.cert_hosts.specs.OwnNames.{AddsHosts, name_text, seen_found}
use Rattle.cert_hosts.proofs.Adding.{one_more}
use Rattle.cert_hosts.proofs.own_names.take_uris.Goals as goal

pub loop-name-preserved : goal.loop-name-preserved
loop-name-preserved c =
    one_more uri_host general_name (name_text 6) c.args.names.now c.loop-name.name-index c.name-item.result (seen_found c.args.hosts.now) (seen_found c.loop-name.hosts) (seen_found c.take_uri.new.hosts)
    c.loop-name-test.true c.loop-name.invariant
    (subst (λ (n : General). AddsHosts c.loop-name.hosts c.take_uri.new.hosts (cons_option (name_text 6 (general_name n)) [])) c.name-item.is c.in_ok-take_uri.ensures)
