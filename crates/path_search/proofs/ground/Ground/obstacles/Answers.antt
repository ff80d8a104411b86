use Rattle.std.proofs.Common.{◌≡◌, ℕ, List, length, map, arith, ap, subst, ◌∙◌, sym}
use Rattle.std.proofs.lemmas.List.{length-map}
use Rattle.std.proofs.lemmas.List.Elements.{Contains-get_or}
use Rattle.std.proofs.lemmas.Result.{IfOk-weaker}
use Rattle.cert.specs.Certificate.{Certificate, seen_certificate}
use Rattle.path.specs.Query.{Accepts}
use Rattle.path_issuers.specs.View.{seen_search}
use Rattle.path_search.specs.Collecting.{IsFurthest}
use Rattle.path_issuers.specs.Links.{certificate_at}
use Rattle.path_issuers.specs.Lists.{list_at, lists_of}
use Rattle.path_issuers.specs.Upward.{AreSigners}
use Rattle.path_search.specs.Walk.{top_of}
use Rattle.path_search.specs.Obstacles.{AreUnmetAt}
use Rattle.path_search.specs.WhyNot.{AreObstacles, AreThePlaces, IsNamedAmong}
use Rattle.path_search.proofs.Explaining.{are_obstacles}
use Rattle.path_search.proofs.ground.Ground.obstacles.Goals as goal

pub obstacles_at-requires : goal.obstacles_at-requires
obstacles_at-requires c = λ k d h.
    let bag = c.args.self.now.search.now.bag.now in
    let is = IsNamedAmong (map seen_certificate bag) (seen_certificate c.certificate_at.result.now) in
    let named = subst (λ (xs : List ℕ). AreThePlaces is xs) (sym c.deref.ensures.value) c.in_ok-named.ensures in
    omega (arith, (named.each _ (Contains-get_or c.deref.result.now k d h)).there, length-map bag seen_certificate)

pub returns : goal.returns
returns c =
    let search = c.args.self.now.search.now in
    let s = seen_search search in
    let above = c.args.above.now in
    let signers = lists_of c.args.signers.now in
    let places = c.in_ok-named.named.items in
    let top : c.top-top.result ≡ top_of (length s.bag) above =
    c.top-top.ensures ∙ ap (λ n. top_of n above) (sym (length-map search.bag.now seen_certificate)) in
    let named =
    subst (λ (n : ℕ). AreThePlaces (IsNamedAmong s.bag (certificate_at s n)) places) top
    (subst (λ (x : Certificate). AreThePlaces (IsNamedAmong s.bag x) places) c.certificate_at.ensures c.in_ok-named.ensures) in
    let signed : c.list_at.result.now ≡ list_at signers (top_of (length s.bag) above) = c.list_at.ensures ∙ ap (λ n. list_at signers n) top in
    IfOk-weaker c.obstacles_at.result (λ obstacles. AreUnmetAt s above c.list_at.result.now c.deref.result.now obstacles.items)
    (λ obstacles. (accepts : Accepts) → AreSigners accepts s signers → IsFurthest accepts s above → AreObstacles accepts s above obstacles.items)
    (λ obstacles unmet accepts are furthest.
    are_obstacles accepts s above signers are furthest places obstacles.items named
    (subst (λ (xs : List ℕ). AreUnmetAt s above xs places obstacles.items) signed
    (subst (λ (xs : List ℕ). AreUnmetAt s above c.list_at.result.now xs obstacles.items) c.deref.ensures.value unmet)))
    c.obstacles_at.ensures
