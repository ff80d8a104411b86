use Rattle.path_policies.specs.Seen.{seen_query}
use Rattle.path_policies.specs.Walk.{HasWalked}
use Rattle.path_policies.proofs.walk.walk_certificates.Given as goal

abbrev pub invariant-loop-index : goal.invariant-loop-index
invariant-loop-index l = HasWalked (seen_query l.query) l.index l.firsts.items l.policies
