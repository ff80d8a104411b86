use Rattle.std.proofs.Common.{◌≡◌, ◌-◌, ◌<◌, ◌≤◌, length, take, drop, slice_index, arith}
use Rattle.std.proofs.lemmas.Grind.{common_steps}
use Rattle.asn.proofs.IntegerLemmas.{magnitude_of_positive, magnitude_after_zero, first_of_positive}
use Rattle.asn.proofs.number.magnitude_of.Goals as goal

pub returns-in-len1-up-clause-some : goal.returns-in-len1-up-clause-some
returns-in-len1-up-clause-some c =
    let some : 0 < slice_index c.args.content.now 0 = grind (arith, common_steps) in
    magnitude_of_positive c.args.content.now some (omega arith)

pub returns-in-0-2-clause-some : goal.returns-in-0-2-clause-some
returns-in-0-2-clause-some c =
    let rest : take (length c.args.content.now - 1) (drop 1 c.args.content.now) ≡ drop 1 c.args.content.now = grind (arith, common_steps) in
    let some : 0 < length c.args.content.now = grind (arith, common_steps) in
    let none : slice_index c.args.content.now 0 ≡ 0 = grind (arith, common_steps) in
    let high : 1 < length c.args.content.now → 128 ≤ slice_index c.args.content.now 1 = λ more. grind (arith, common_steps) in
    rw rest (magnitude_after_zero c.args.content.now some none high)

pub returns-in_default-clause-none : goal.returns-in_default-clause-none
returns-in_default-clause-none c = λ number is value.
    let first = first_of_positive c.args.content.now number (λ k. omega (arith, c.type_inv.content k)) is value in
    grind (arith, common_steps, first)
