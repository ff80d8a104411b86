use Rattle.std.proofs.Common.{sym, subst, ap, ◌∙◌}
use Rattle.std.proofs.lemmas.List.{get_or_default}
use Rattle.cert.specs.Certificate.{seen_certificate}
use Rattle.cert.specs.Fault.{FailsUnlessFull}
use Rattle.path_policies.specs.Reading.{policy_certificate}
use Rattle.path_policies.proofs.Taking.{taken_more, refused_at}
use Rattle.path_policies.proofs.query.policy_certificates.Goals as goal

pub returns-in-Err-clause-refused : goal.returns-in-Err-clause-refused
returns-in-Err-clause-refused c =
    refused_at c.args.path.now c.loop-index.index c.loop-index.all.items c.in-Err.fault c.loop-index-test.true
    (λ other. subst (λ found. FailsUnlessFull c.in-Err.fault (policy_certificate (seen_certificate found)))
    (c.index-path-index.is ∙ get_or_default c.args.path.now c.loop-index.index c.index-path-index.result other c.loop-index-test.true) c.in-Err.ensures)
    c.loop-index.invariant

pub returns-then-is_err-clause-refused : goal.returns-then-is_err-clause-refused
returns-then-is_err-clause-refused c =
    refused_at c.args.path.now c.loop-index.index c.loop-index.all.items _ c.loop-index-test.true (λ other. tt) c.loop-index.invariant

pub loop-index-preserved : goal.loop-index-preserved
loop-index-preserved c =
    let more = taken_more c.args.path.now c.loop-index.index c.loop-index.all.items c.in-Ok.read c.index-path-index.result c.loop-index-test.true
    (ap (λ found. policy_certificate (seen_certificate found)) (sym c.index-path-index.is) ∙ c.in-Ok.ensures) c.loop-index.invariant in
    rw (c.push.ensures.items, c.if-is_err.ensures.negation) more
