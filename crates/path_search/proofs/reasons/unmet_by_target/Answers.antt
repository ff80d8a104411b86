use Rattle.std.proofs.Common.{◌+◌, sym, ◌∙◌, arith}
use Rattle.std.proofs.lemmas.Bool.{false≢true}
use Rattle.path_issuers.specs.View.{seen_search}
use Rattle.path_search.specs.WhyNot.{MeetsAsTarget}
use Rattle.path_search.proofs.Ranking.{meets_none, meets_more, meets_all, rank_by_rank}
use Rattle.path_search.proofs.reasons.unmet_by_target.Goals as goal

pub loop-reason-init : goal.loop-reason-init
loop-reason-init c =
    let s = seen_search c.args.search.now in
    meets_none (MeetsAsTarget s.options s.moment s.purpose s.target)

pub loop-reason-preserved : goal.loop-reason-preserved
loop-reason-preserved c =
    let s = seen_search c.args.search.now in
    meets_more (MeetsAsTarget s.options s.moment s.purpose s.target) (c.loop-reason.reason-index + 1) _
    (rank_by_rank c.loop-reason.reason-index c.loop-reason-test.true) c.loop-reason.invariant (c.target_meets.ensures.0 c.if-not-target_meets.false)

pub returns-then-not-target_meets : goal.returns-then-not-target_meets
returns-then-not-target_meets c = record {
  broken = λ met. false≢true (sym c.if-not-target_meets.true ∙ c.target_meets.ensures.1 met);
  lesser = λ r h. c.loop-reason.invariant r (omega (arith, h, rank_by_rank c.loop-reason.reason-index c.loop-reason-test.true));
}

pub returns : goal.returns
returns c =
    let s = seen_search c.args.search.now in
    meets_all (MeetsAsTarget s.options s.moment s.purpose s.target) (λ r h. c.loop-reason.invariant r (omega (arith, h, c.loop-reason-test.false)))
