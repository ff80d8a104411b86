use Rattle.std.proofs.Common.{◌≡◌, ◌++◌, drop}
use Rattle.path.specs.Reading.{texts_of}
use Rattle.capi_values.specs.Policies.{joined}
use Rattle.capi_values.proofs.policies.joined_of.Given as goal

abbrev pub invariant-loop-policy : goal.invariant-loop-policy
invariant-loop-policy l = l.octets.items ++ joined (texts_of (drop l.policy-index l.all)) ≡ joined (texts_of l.all)
