use Rattle.std.proofs.Common.{arith, refl}
use Rattle.asn.proofs.OutermostLaws.{whole_has_no_fault, fault_is_first}
use Rattle.asn.proofs.nested.first_fault.Goals as goal

pub returns-in-Ok-clause-fault : goal.returns-in-Ok-clause-fault
returns-in-Ok-clause-fault c = let s = c.in-Ok.ensures.accepts.0 refl in whole_has_no_fault c.args.octets.now s.0 s.1

pub returns-in-Err-Refused-clause-fault : goal.returns-in-Err-Refused-clause-fault
returns-in-Err-Refused-clause-fault c =
    let first = rw c.in-Err-Refused.field-0-is at c.in-Err-Refused.ensures.refuses in
    fault_is_first c.args.octets.now c.in-Err-Refused.rule c.in-Err-Refused.at (λ k. omega (arith, c.type_inv.octets k)) first
