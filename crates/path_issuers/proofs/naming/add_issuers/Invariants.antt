use Rattle.std.proofs.Common.{◌≡◌, ◌++◌, map, take}
use Rattle.path_issuers.specs.Lists.{lists_of}
use Rattle.path_issuers.specs.Naming.{issuer_key}
use Rattle.path_issuers.proofs.naming.add_issuers.Given as goal

abbrev pub invariant-loop-certificate : goal.invariant-loop-certificate
invariant-loop-certificate l = lists_of l.keys.items ≡ lists_of l.initial.keys.items ++ map issuer_key (take l.certificate-index l.certificates)
