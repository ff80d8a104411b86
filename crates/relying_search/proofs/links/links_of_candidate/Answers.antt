use Rattle.std.proofs.Common.{arith, ◌≡◌, ◌+◌, ◌-◌, length, get_or, map, sym, ap, ◌∙◌}
use Rattle.std.proofs.lemmas.List.{map-append}
use Rattle.cert.specs.Certificate.{seen_certificate}
use Rattle.path_issuers.specs.View.{seen_search}
use Rattle.path_issuers.specs.Search.{certificates_at}
use Rattle.relying_search.specs.View.{seen_link}
use Rattle.relying_search.proofs.Downward.{at_place, count_at, one_link}
use Rattle.relying_search.proofs.links.links_of_candidate.Goals as goal

pub loop-index-preserved : goal.loop-index-preserved
loop-index-preserved c =
    let s = seen_search c.args.search.now in
    let i = c.loop-index.index in
    let places = c.args.candidate.now.above.items in
    let count = count_at s.target s.bag places in
    let counted : c.len-count.result ≡ length places = c.len-count.ensures ∙ c.args.candidate.now.above.ok.0 in
    let next : c.len-count.result - (i + 1) ≡ c.len-count.result - 1 - i = omega arith in
    one_link (map seen_link c.loop-index.links.items) (map seen_link c.push.new.self.items) (i + 1) (c.len-count.result - i) (c.len-count.result - (i + 1))
    (seen_certificate c.loop-index.issuer.now) (seen_certificate c.certificate_at-certificate.result.now) s.target (certificates_at s.target s.bag places) _
    (omega (arith, count, counted, c.loop-index-test.true)) (omega (arith, c.loop-index-test.true)) (at_place s.target _ s.bag places (c.len-count.result - (i + 1)) c.index.result.now (omega (arith, counted, c.loop-index-test.true)) (ap (λ k. get_or places k c.index.result.now) next ∙ sym c.index.ensures) c.certificate_at-certificate.ensures) (ap (map seen_link) c.in_ok-push.ensures.items ∙ map-append seen_link c.loop-index.links.items _) c.loop-index.invariant
