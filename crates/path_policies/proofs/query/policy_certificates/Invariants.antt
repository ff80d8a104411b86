use Rattle.path_policies.specs.Reading.{AreTaken}
use Rattle.path_policies.proofs.query.policy_certificates.Given as goal

abbrev pub invariant-loop-index : goal.invariant-loop-index
invariant-loop-index l = AreTaken l.path l.index l.all.items
