use Rattle.std.proofs.Common.{ℕ, ◌<◌, ◌∙◌, get_or, vec_len, arith, sym, subst, below_more}
use Rattle.std.proofs.lemmas.List.Elements.{Contains-get_or}
use Rattle.path_issuers.specs.Frontier.{IsSeen}
use Rattle.path_issuers.proofs.Rising.{place_in}
use Rattle.path_issuers.proofs.Reaching.{by_none, by_on, grows_none, grows_on}
use Rattle.path_issuers.proofs.wanted.see_issuers.Goals as goal

pub loop-place-init : goal.loop-place-init
loop-place-init c = (grows_none c.args.frontier.now, (λ k less. absurd (omega arith)), by_none _ c.args.frontier.now)

pub loop-place-preserved : goal.loop-place-preserved
loop-place-preserved c =
    let issuers = c.args.issuers.now in
    let places = c.args.places.now in
    let first = c.args.frontier.now in
    let old = c.loop-place.frontier in
    let new = c.see.new.self in
    let grows = c.in_ok-see.ensures.grows in (
      grows_on first old new c.loop-place.invariant.0 grows,
      below_more _ _ (λ k less small. grows.kept _ (c.loop-place.invariant.1 k less small))
          (λ small.
          let is = c.number_at.ensures in
          subst (λ (n : ℕ). IsSeen new n) is (c.in_ok-see.ensures.seen (omega (arith, is, small, c.loop-place.invariant.0.count)))),
      by_on _ _ _ (λ n was. (was.0, omega (arith, was.1), was.2)) (λ n same. (c.loop-place.place-index, omega arith, sym c.number_at.ensures ∙ same))
          first old new c.loop-place.invariant.2 c.in_ok-see.ensures.only,
    )

pub returns-clause-seen : goal.returns-clause-seen
returns-clause-seen c =
    let issuers = c.args.issuers.now in
    λ place among small.
    let at = place_in c.args.places.now place among in
    subst (λ (p : ℕ). IsSeen c.loop-place.frontier (get_or issuers p 0)) at.1.1
    (c.loop-place.invariant.1 at.0 (omega (arith, at.1.0)) (subst (λ (p : ℕ). get_or issuers p 0 < vec_len c.args.frontier.now.seen) (sym at.1.1) small))

pub returns-clause-only : goal.returns-clause-only
returns-clause-only c =
    let places = c.args.places.now in
    by_on _ (λ number. ⊥) _
    (λ n was. (get_or places was.0 0, Contains-get_or places was.0 0 (omega (arith, was.1, c.loop-place-test.false)), was.2)) (λ n no. absurd no)
    c.args.frontier.now c.loop-place.frontier c.loop-place.frontier c.loop-place.invariant.2 (by_none _ c.loop-place.frontier)
