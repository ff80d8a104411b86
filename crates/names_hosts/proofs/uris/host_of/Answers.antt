use Rattle.std.proofs.Common.{◌≡◌, ℕ, List, sym, subst}
use Rattle.names_hosts.specs.Uri.{IsHostAndPort}
use Rattle.names_hosts.proofs.UriTexts.{rest_has_no_at, some_same, none_some}
use Rattle.names_hosts.proofs.uris.host_of.Goals as goal

pub returns-in-Some-clause-accepts : goal.returns-in-Some-clause-accepts
returns-in-Some-clause-accepts c = λ host h.
    let none = rest_has_no_at h.rest host h.host_and_port in
    let same : c.in-Some.rest.now ≡ h.rest = some_same _ _ (c.in-Some.ensures.accepts h.rest none h.behind_user) in
    c.before_port.ensures.accepts host (subst (λ (l : List ℕ). IsHostAndPort l host) (sym same) h.host_and_port)

pub returns-in-None-clause-accepts : goal.returns-in-None-clause-accepts
returns-in-None-clause-accepts c = λ host h.
    absurd (none_some h.rest (c.in-None.ensures.accepts h.rest (rest_has_no_at h.rest host h.host_and_port) h.behind_user))
