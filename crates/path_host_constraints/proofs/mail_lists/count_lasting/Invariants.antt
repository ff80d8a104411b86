use Rattle.std.proofs.Common.{◌≤◌, length}
use Rattle.path_host_constraints.proofs.mail_lists.count_lasting.Given as goal

abbrev pub invariant-loop-count : goal.invariant-loop-count
invariant-loop-count l = l.count ≤ length l.indexes

abbrev pub decreases-loop-count : goal.decreases-loop-count
decreases-loop-count l = l.count
