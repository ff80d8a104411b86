use Rattle.std.proofs.Common.{refl, sym, true≢false}
use Rattle.relying_verdicts.proofs.Differing.{goes_on, ends_here}
use Rattle.relying_verdicts.proofs.comparing.first_apart.Goals as goal

pub returns-then-not-same_evidence : goal.returns-then-not-same_evidence
returns-then-not-same_evidence c =
    ends_here c.args.one.now c.args.other.now c.loop-index.index c.requires c.loop-index.invariant c.index-one-index.result c.index-other-index.result c.loop-index-test.true
    c.index-one-index.is c.index-other-index.is (λ same. true≢false (sym (c.if-not-same_evidence.ensures.1 same)))

pub loop-index-preserved : goal.loop-index-preserved
loop-index-preserved c =
    goes_on c.args.one.now c.args.other.now c.loop-index.index c.requires c.loop-index.invariant c.index-one-index.result c.index-other-index.result c.loop-index-test.true
    c.index-one-index.is c.index-other-index.is (c.if-not-same_evidence.ensures.0 refl)
