use Rattle.std.proofs.Common.{◌≡◌, false, take}
use Rattle.std.specs.FinSet.{contains}
use Rattle.cert.specs.OidSet.{oids_from}
use Rattle.cert.proofs.oid_set.is_among.Given as goal

abbrev pub invariant-loop-other : goal.invariant-loop-other
invariant-loop-other l = contains (oids_from (take l.other-index l.others)) l.oid ≡ false
