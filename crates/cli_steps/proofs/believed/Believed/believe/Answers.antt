use Rattle.std.specs.Ordering.{nat_cmp}
use Rattle.std.specs.Cmp.Lexicographic.{slice_cmp}
use Rattle.std.specs.BTreeSet.{contains}
use Rattle.path_verifiers.specs.ListVerifier.{is_listed}
use Rattle.cli_steps.proofs.Beliefs.{one_more}
use Rattle.cli_steps.proofs.believed.Believed.believe.Goals as goal

pub returns-clause-more : goal.returns-clause-more
returns-clause-more c = λ prints believes.
    one_more prints c.args.print (is_listed c.args.self.now.listed) (contains (slice_cmp nat_cmp) c.args.self.now.told)
    (contains (slice_cmp nat_cmp) c.insert.new.self) c.in_ok-insert.ensures.updates.0 believes
