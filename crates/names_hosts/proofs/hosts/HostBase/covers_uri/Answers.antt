use Rattle.std.proofs.Common.{subst, List, ℕ}
use Rattle.std.proofs.lemmas.Bool.{false≢true}
use Rattle.names_hosts.specs.Hosts.{host_names, IsAmongHosts}
use Rattle.names_hosts.proofs.UriTexts.{uri_host_is_one, none_some}
use Rattle.names_hosts.proofs.hosts.HostBase.covers_uri.Goals as goal

pub returns-in-Some : goal.returns-in-Some
returns-in-Some c =
    let uri = c.args.uri.now in
    let host = c.in-Some.host.now in
    let names = host_names c.args.self.now in
    record {
      decides = (
        λ t. record { host = host; is_host = c.in-Some.ensures.reads; among = c.covers.ensures.decides.0 t },
        λ u. c.covers.ensures.decides.1
            (subst (λ (l : List ℕ). IsAmongHosts l names) (uri_host_is_one uri u.host host u.is_host c.in-Some.ensures.reads) u.among),
      );
    }

pub returns-in-None : goal.returns-in-None
returns-in-None c = record {
  decides = (
    λ t. absurd (false≢true t),
    λ u. absurd (none_some u.host (c.in-None.ensures.accepts u.host u.is_host)),
  );
}
