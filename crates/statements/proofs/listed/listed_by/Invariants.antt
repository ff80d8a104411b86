use Rattle.std.proofs.Common.{◌≡◌, ◌++◌, map, length}
use Rattle.statements_crl.specs.Entry.{serials_left}
use Rattle.statements_facts.specs.Listed.{seen_listed}
use Rattle.statements.proofs.listed.listed_by.Given as goal

abbrev pub invariant-loop-serial : goal.invariant-loop-serial
invariant-loop-serial l = map seen_listed l.listed.items ++ serials_left l.entries ≡ serials_left l.fn.entries

abbrev pub decreases-loop-serial : goal.decreases-loop-serial
decreases-loop-serial l = length (serials_left l.entries)
