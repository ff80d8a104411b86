use Rattle.std.proofs.Common.{◌≡◌, map, take}
use Rattle.path_issuers.specs.Naming.{issuer_number}
use Rattle.path_issuers.proofs.naming.issuer_numbers.Given as goal

abbrev pub invariant-loop-certificate : goal.invariant-loop-certificate
invariant-loop-certificate l = l.numbers.items ≡ map (issuer_number l.keys.sorted.items) (take l.certificate-index l.search.bag.now)
