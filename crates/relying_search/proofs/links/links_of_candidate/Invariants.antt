use Rattle.std.proofs.Common.{◌≡◌, ◌+◌, ◌-◌, map, take}
use Rattle.cert.specs.Certificate.{seen_certificate}
use Rattle.path_search.specs.Answer.{seen_candidate}
use Rattle.path_issuers.specs.View.{seen_search}
use Rattle.path_issuers.specs.Search.{certificates_at, query_about}
use Rattle.relying_agreement.specs.Link.{links_of}
use Rattle.relying_search.specs.View.{seen_link}
use Rattle.relying_search.proofs.Downward.{with_left}
use Rattle.relying_search.proofs.links.links_of_candidate.Given as goal

abbrev pub invariant-loop-index : goal.invariant-loop-index
invariant-loop-index l =
    with_left (map seen_link l.links.items) (l.index + 1) (seen_certificate l.issuer) (seen_search l.search).target
    (take (l.count - l.index) (certificates_at (seen_search l.search).target (seen_search l.search).bag l.candidate.above.items))
    ≡ links_of (query_about (seen_search l.search) (seen_candidate l.candidate))
