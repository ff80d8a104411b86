use Rattle.std.proofs.Common.{◌≡◌, ℕ, List, Some, ap, subst}
use Rattle.names_hosts.specs.Uri.{IsCut, authority_ends}
use Rattle.names_hosts.proofs.UriTexts.{one_cut, some_same, none_some}
use Rattle.names_hosts.proofs.uris.authority_of.Goals as goal

pub returns-in-Some-clause-accepts : goal.returns-in-Some-clause-accepts
returns-in-Some-clause-accepts c = λ authority h.
    let same : c.in-Some.rest.now ≡ h.rest = some_same _ _ (c.in-Some.ensures.accepts h.rest h.behind_scheme) in
    let cut = subst (λ (l : List ℕ). IsCut authority_ends l c.cut.result.0.now c.cut.result.1.now) same c.cut.ensures in
    ap Some (one_cut authority_ends h.rest c.cut.result.0.now c.cut.result.1.now authority h.behind cut h.cut).0

pub returns-in-None-clause-accepts : goal.returns-in-None-clause-accepts
returns-in-None-clause-accepts c = λ authority h. absurd (none_some h.rest (c.in-None.ensures.accepts h.rest h.behind_scheme))
