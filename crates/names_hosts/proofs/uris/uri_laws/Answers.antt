use Rattle.names_hosts.proofs.UriTexts.{uri_host_is_one}
use Rattle.names_hosts.proofs.UriTests.{uri_host_is_exact}
use Rattle.names_hosts.proofs.uris.uri_laws.Goals as goal

pub returns : goal.returns
returns c = record { one = uri_host_is_one; exact = uri_host_is_exact }
