use Rattle.std.proofs.Common.{◌≡◌, ◌<◌, IsTrue, MatchOption, length, get_or, arith, ap, subst, ◌∙◌}
use Rattle.std.specs.List.{Contains}
use Rattle.std.proofs.lemmas.List.{get_or_default, length-map}
use Rattle.cert.specs.Certificate.{Certificate, seen_certificate}
use Rattle.path_issuers.specs.View.{seen_search}
use Rattle.path_issuers.specs.Links.{certificate_at}
use Rattle.path_issuers.specs.Search.{path_down_to}
use Rattle.path_search.specs.WhyNot.{IsFirstUnmet, MeetsAbove, MeetsEach}
use Rattle.path_search.proofs.Ranking.{unmet_by}
use Rattle.path_search.proofs.ground.Ground.unmet_at.Goals as goal

pub index-requires : goal.index-requires
index-requires c =
    let bag = c.args.self.now.search.now.bag.now in
    omega (arith, c.requires, ap (λ l. length l) c.args.self.now.agree, length-map bag seen_certificate, c.args.self.now.authorities.ok.0)

pub returns : goal.returns
returns c =
    let search = c.args.self.now.search.now in
    let s = seen_search search in
    let place = c.args.place in
    let signed = c.is_among-signed.result in
    let here = c.index.result.now in
    let path = path_down_to s.target s.bag c.args.above.now in
    let there : place < length s.bag = omega (arith, c.requires, length-map search.bag.now seen_certificate) in
    let at : here ≡ certificate_at s place =
    c.index.ensures ∙ (ap (λ l. get_or l place here) c.args.self.now.agree ∙ get_or_default s.bag place here s.target there) in
    unmet_by s.options (IsTrue signed) (Contains c.args.signers.now place) c.is_among-signed.ensures s.moment (certificate_at s place) path c.unmet_above.result
    (subst (λ (x : Certificate). MatchOption c.unmet_above.result (MeetsEach (MeetsAbove s.options (IsTrue signed) s.moment x path))
    (IsFirstUnmet (MeetsAbove s.options (IsTrue signed) s.moment x path))) at c.unmet_above.ensures)
