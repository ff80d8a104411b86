use Rattle.std.proofs.Common.{refl}
use Rattle.path_with_policies.proofs.Leaving.{one_more}
use Rattle.path_with_policies.proofs.apart.leave_apart.Goals as goal

pub loop-certificate-preserved : goal.loop-certificate-preserved
loop-certificate-preserved c =
    one_more _ _ c.loop-certificate.certificate-index _ c.certificate-item.result c.loop-certificate-test.true c.loop-certificate.invariant refl
