use Rattle.asn.specs.Oid.{oid_contents}
use Rattle.path_policies.proofs.Picks.{mapped_any}
use Rattle.path_policies.proofs.following.stated.Goals as goal

pub returns-in-Some : goal.returns-in-Some
returns-in-Some c policy = rw (c.in-Some.is, c.as_slice.ensures.value) (mapped_any oid_contents policy c.in-Some.policies.items)
