use Rattle.std.proofs.Common.{◌≡◌, length}
use Rattle.names_hosts.specs.LocalPart.{is_dot_string}
use Rattle.names_hosts.proofs.local_part.is_dot_string.Given as goal

abbrev pub decreases-loop-dot : goal.decreases-loop-dot
decreases-loop-dot l = length l.rest

-- what is left decides
abbrev pub invariant-loop-dot : goal.invariant-loop-dot
invariant-loop-dot l = is_dot_string l.utf8 l.text ≡ is_dot_string l.utf8 l.rest
