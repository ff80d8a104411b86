use Rattle.std.proofs.Common.{map, take}
use Rattle.cli_operands.specs.Policies.{NamePolicies}
use Rattle.cli_operands.proofs.policies.read_policies.Given as goal

abbrev pub invariant-loop-word : goal.invariant-loop-word
invariant-loop-word l = NamePolicies (map (λ word. word.now) (take l.word-index l.words)) (map (λ contents. contents.items) l.policies.items)
