use Rattle.std.proofs.Common.{◌+◌, sym, ◌∙◌, arith}
use Rattle.std.proofs.lemmas.Bool.{false≢true}
use Rattle.path.proofs.Deciding.{meets_none, meets_more, meets_all, rank_by_rank}
use Rattle.path.proofs.state.State.broken.Goals as goal

pub loop-reason-init : goal.loop-reason-init
loop-reason-init g c = meets_none (g.V.Verifier.accepts c.args.self.now.verifier) _ _

pub loop-reason-preserved : goal.loop-reason-preserved
loop-reason-preserved g c =
    meets_more (g.V.Verifier.accepts c.args.self.now.verifier) c.args.self.now.query (c.args.self.now.done + 1) (c.loop-reason.reason-index + 1) _
    (rank_by_rank c.loop-reason.reason-index c.loop-reason-test.true) c.loop-reason.invariant (c.meets.ensures.0 c.if-not-meets.false)

pub returns-then-not-meets : goal.returns-then-not-meets
returns-then-not-meets g c = record {
  broken = λ met. false≢true (sym c.if-not-meets.true ∙ c.meets.ensures.1 met);
  lesser = λ s h. c.loop-reason.invariant s (omega (arith, rank_by_rank c.loop-reason.reason-index c.loop-reason-test.true));
}

pub returns : goal.returns
returns g c = meets_all (g.V.Verifier.accepts c.args.self.now.verifier) _ _ (λ s h. c.loop-reason.invariant s (omega arith))
