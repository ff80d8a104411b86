use Rattle.std.proofs.Common.{refl}
use Rattle.cert.specs.OidSet.{oids_in}
use Rattle.cert.proofs.oid_set.OidSet.new.Goals as goal

pub returns : goal.returns
unfolding oids_in
returns c = rw (c.new.ensures, c.new-2.ensures.empty) refl
