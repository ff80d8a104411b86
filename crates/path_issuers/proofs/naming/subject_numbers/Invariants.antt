use Rattle.std.proofs.Common.{◌≡◌, map, take}
use Rattle.path_issuers.specs.Naming.{subject_number}
use Rattle.path_issuers.proofs.naming.subject_numbers.Given as goal

abbrev pub invariant-loop-certificate : goal.invariant-loop-certificate
invariant-loop-certificate l = l.numbers.items ≡ map (subject_number l.keys.sorted.items) (take l.certificate-index l.certificates)
