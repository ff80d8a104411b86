use Rattle.std.proofs.Common.{◌≡◌, length}
use Rattle.statements_facts.specs.Listed.{first_reason}
use Rattle.statements_crl.specs.Entry.{serials_left}
use Rattle.statements_crl.proofs.list.Crl.lists.Given as goal

abbrev pub invariant-loop-listed : goal.invariant-loop-listed
invariant-loop-listed l = first_reason (serials_left l.entries) l.fn.serial ≡ first_reason (serials_left l.fn.self.revoked) l.fn.serial

abbrev pub decreases-loop-listed : goal.decreases-loop-listed
decreases-loop-listed l = length (serials_left l.entries)
