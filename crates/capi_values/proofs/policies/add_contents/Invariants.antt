use Rattle.std.proofs.Common.{◌≡◌, ◌++◌, drop}
use Rattle.path.specs.Reading.{texts_of}
use Rattle.path_policies.specs.Seen.{contents_of}
use Rattle.capi_values.proofs.policies.add_contents.Given as goal

abbrev pub invariant-loop-policy : goal.invariant-loop-policy
invariant-loop-policy l =
    texts_of l.all.items ++ contents_of (drop l.policy-index l.policies) ≡ texts_of l.fn.all.items ++ contents_of l.policies
