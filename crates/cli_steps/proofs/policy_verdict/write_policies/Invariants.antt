use Rattle.std.proofs.Common.{take}
use Rattle.std.specs.List.{flat_map}
use Rattle.std.specs.Io.KnownBytes.{Appends}
use Rattle.cli_steps.specs.PolicyText.{policy_line}
use Rattle.cli_steps.proofs.policy_verdict.write_policies.Given as goal

abbrev pub invariant-each : goal.invariant-each
invariant-each g l =
    Appends (g.W.Write.contents l.initial.writer) (g.W.Write.contents l.writer) (flat_map (policy_line l.word) (take l.policy-index l.policies))
