use Rattle.std.proofs.Common.{◌≡◌, ℕ, List, sym, subst}
use Rattle.names_hosts.specs.Uri.{IsHostOfAuthority}
use Rattle.names_hosts.proofs.UriTexts.{some_same, none_some}
use Rattle.names_hosts.proofs.uris.host_of_uri.Goals as goal

pub returns-in-Some-clause-accepts : goal.returns-in-Some-clause-accepts
returns-in-Some-clause-accepts c = λ host h.
    let same : c.in-Some.authority.now ≡ h.authority = some_same _ _ (c.in-Some.ensures.accepts h.authority h.has_authority) in
    c.host_of.ensures.accepts host (subst (λ (l : List ℕ). IsHostOfAuthority l host) (sym same) h.has_host)

pub returns-in-None-clause-accepts : goal.returns-in-None-clause-accepts
returns-in-None-clause-accepts c = λ host h. absurd (none_some h.authority (c.in-None.ensures.accepts h.authority h.has_authority))
