use Rattle.std.proofs.Common.{◌≡◌, ◌||◌, ℕ, take}
use Rattle.names.specs.declared.general.Form.TheVariants as F
use Rattle.path_conditions.specs.Constraints.{has_number}
use Rattle.path_conditions.specs.Narrowing.{bases_of, are_about}
use Rattle.path_conditions.proofs.form_set.FormSet.insert_forms.Given as goal

abbrev pub invariant-loop-base : goal.invariant-loop-base
invariant-loop-base l =
    (number : ℕ) → has_number l.self number ≡ (has_number l.fn.self number || are_about (bases_of (take l.base-index l.bases)) (F.Other number))
