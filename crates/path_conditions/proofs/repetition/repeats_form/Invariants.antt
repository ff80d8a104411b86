use Rattle.std.proofs.Common.{◌≡◌, ◌≤◌, length, drop}
use Rattle.path_conditions.specs.Narrowing.{bases_of}
use Rattle.path_conditions.specs.Repetition.{repeats_form}
use Rattle.path_conditions.proofs.repetition.repeats_form.Given as goal

-- what is left of both is compared as the whole is
abbrev pub invariant-loop-base : goal.invariant-loop-base
invariant-loop-base l =
    (l.count ≤ length l.list) × (repeats_form l.form (bases_of l.list) (bases_of l.carried) ≡ repeats_form l.form (bases_of (drop l.count l.list)) (bases_of (drop l.base-index l.carried)))
