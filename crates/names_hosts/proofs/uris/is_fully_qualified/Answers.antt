use Rattle.names_hosts.proofs.FullNames.{labels_test}
use Rattle.names_hosts.proofs.uris.is_fully_qualified.Goals as goal

pub returns-then-is_host : goal.returns-then-is_host
returns-then-is_host c =
    labels_test c.args.text.now c.has_last_label.result c.has_last_label.ensures (c.is_host.ensures.0 c.if-is_host.true)
