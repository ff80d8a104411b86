use Rattle.cert_hosts.proofs.FoundNames.{host_is}
use Rattle.cert_hosts.proofs.own_names.host_of.Goals as goal

pub returns : goal.returns
returns c = host_is c.args.uri.now c.host_of_uri.result c.host_of_uri.ensures.reads c.host_of_uri.ensures.accepts
