use Rattle.std.proofs.Common.{◌+◌, IsTrue, sym, ◌∙◌, arith}
use Rattle.std.proofs.lemmas.Bool.{false≢true}
use Rattle.path_issuers.specs.View.{seen_search}
use Rattle.path_search.specs.Authority.{seen_tail}
use Rattle.path_search.specs.WhyNot.{MeetsAbove}
use Rattle.path_search.proofs.Ranking.{meets_none, meets_more, meets_all, rank_by_rank}
use Rattle.path_search.proofs.authority.Authority.unmet_above.Goals as goal

pub loop-reason-init : goal.loop-reason-init
loop-reason-init c = meets_none (MeetsAbove (seen_search c.args.search.now).options (IsTrue c.args.signed) (seen_search c.args.search.now).moment c.args.self.now (seen_tail c.args.tail.now))

pub loop-reason-preserved : goal.loop-reason-preserved
loop-reason-preserved c =
    meets_more (MeetsAbove (seen_search c.args.search.now).options (IsTrue c.args.signed) (seen_search c.args.search.now).moment c.args.self.now (seen_tail c.args.tail.now)) (c.loop-reason.reason-index + 1) _
    (rank_by_rank c.loop-reason.reason-index c.loop-reason-test.true) c.loop-reason.invariant (c.meets_above.ensures.0 c.if-not-meets_above.false)

pub returns-then-not-meets_above : goal.returns-then-not-meets_above
returns-then-not-meets_above c = record {
  broken = λ met. false≢true (sym c.if-not-meets_above.true ∙ c.meets_above.ensures.1 met);
  lesser = λ r h. c.loop-reason.invariant r (omega (arith, h, rank_by_rank c.loop-reason.reason-index c.loop-reason-test.true));
}

pub returns : goal.returns
returns c =
    meets_all (MeetsAbove (seen_search c.args.search.now).options (IsTrue c.args.signed) (seen_search c.args.search.now).moment c.args.self.now (seen_tail c.args.tail.now))
    (λ r h. c.loop-reason.invariant r (omega (arith, h, c.loop-reason-test.false)))
