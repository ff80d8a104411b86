use Rattle.std.proofs.Common.{◌≡◌, map, take}
use Rattle.path_policies.specs.Seen.{contents_of}
use Rattle.cli_operands.proofs.policies.PolicyTerms.initial_policies.Given as goal

abbrev pub invariant-loop-contents : goal.invariant-loop-contents
invariant-loop-contents l = contents_of l.oids.items ≡ map (λ contents. contents.items) (take l.contents-index l.self.policies.items)
