use Rattle.std.proofs.Common.{◌≡◌, ◌≤◌, length, drop}
use Rattle.path_conditions.specs.Narrowing.{bases_of}
use Rattle.path_conditions.specs.Repetition.{repeats}
use Rattle.path_conditions.proofs.repetition.repeats.Given as goal

-- what is left of both is compared as the whole is
abbrev pub invariant-loop-base : goal.invariant-loop-base
invariant-loop-base l =
    (l.count ≤ length l.list) × (repeats (bases_of l.list) (bases_of l.more) ≡ repeats (bases_of (drop l.count l.list)) (bases_of (drop l.base-index l.more)))
