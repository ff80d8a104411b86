use Rattle.std.proofs.Common.{length}
use Rattle.names_identity.proofs.HostLabels.{IsWalked}
use Rattle.names_identity.proofs.hosts.last_label.Given as goal

abbrev pub decreases-loop-dot : goal.decreases-loop-dot
decreases-loop-dot l = length l.rest

abbrev pub invariant-loop-dot : goal.invariant-loop-dot
invariant-loop-dot l = IsWalked l.text l.rest l.begin
