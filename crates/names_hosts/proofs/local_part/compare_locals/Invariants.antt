use Rattle.std.proofs.Common.{◌≡◌, length}
use Rattle.std.specs.Ordering.{nat_cmp}
use Rattle.std.specs.Cmp.Lexicographic.{slice_cmp}
use Rattle.names_hosts.specs.LocalPart.{unquoted}
use Rattle.names_hosts.proofs.local_part.compare_locals.Given as goal

abbrev pub decreases-loop-left : goal.decreases-loop-left
decreases-loop-left l = length l.one

-- what is left decides as the whole does
abbrev pub invariant-loop-left : goal.invariant-loop-left
invariant-loop-left l =
    slice_cmp nat_cmp (unquoted l.one-2) (unquoted l.other-2) ≡ slice_cmp nat_cmp (unquoted l.one) (unquoted l.other)
