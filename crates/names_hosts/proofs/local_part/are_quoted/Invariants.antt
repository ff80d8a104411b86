use Rattle.std.proofs.Common.{◌≡◌, length}
use Rattle.names_hosts.specs.LocalPart.{are_quoted}
use Rattle.names_hosts.proofs.local_part.are_quoted.Given as goal

abbrev pub decreases-loop-octet : goal.decreases-loop-octet
decreases-loop-octet l = length l.rest

-- what is left decides
abbrev pub invariant-loop-octet : goal.invariant-loop-octet
invariant-loop-octet l = are_quoted l.utf8 l.text ≡ are_quoted l.utf8 l.rest
