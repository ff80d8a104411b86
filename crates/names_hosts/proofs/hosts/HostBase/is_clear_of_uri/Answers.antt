use Rattle.std.proofs.Common.{sym, ap, subst, ◌∙◌, List, ℕ, not}
use Rattle.std.proofs.lemmas.Bool.{false≢true, false_from_ne_true}
use Rattle.names_hosts.specs.Hosts.{host_names, IsAmongHosts}
use Rattle.names_hosts.proofs.UriTexts.{uri_host_is_one, none_some}
use Rattle.names_hosts.proofs.hosts.HostBase.is_clear_of_uri.Goals as goal

pub returns-in-Some : goal.returns-in-Some
returns-in-Some c =
    let uri = c.args.uri.now in
    let host = c.in-Some.host.now in
    let names = host_names c.args.self.now in
    record {
      decides = (
        λ t. record {
          host = host;
          is_host = c.in-Some.ensures.reads;
          clear = λ among. false≢true (sym (ap not (c.covers.ensures.decides.1 among)) ∙ t);
        },
        λ u. ap not (false_from_ne_true c.covers.result
            (λ t. u.clear (subst (λ (l : List ℕ). IsAmongHosts l names)
            (uri_host_is_one uri host u.host c.in-Some.ensures.reads u.is_host) (c.covers.ensures.decides.0 t)))),
      );
    }

pub returns-in-None : goal.returns-in-None
returns-in-None c = record {
  decides = (
    λ t. absurd (false≢true t),
    λ u. absurd (none_some u.host (c.in-None.ensures.accepts u.host u.is_host)),
  );
}
