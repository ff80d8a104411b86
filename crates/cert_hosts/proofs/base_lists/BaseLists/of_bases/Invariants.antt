use Rattle.cert_hosts.specs.BaseLists.{seen_lists}
use Rattle.cert_hosts.proofs.Told.{AreSaidBy}
use Rattle.cert_hosts.proofs.base_lists.BaseLists.of_bases.Given as goal

abbrev pub invariant-loop-base : goal.invariant-loop-base
invariant-loop-base l = AreSaidBy l.bases l.base-index (seen_lists l.told)
