use Rattle.std.proofs.Common.{◌≡◌, map, take}
use Rattle.cert.specs.Certificate.{seen_certificate}
use Rattle.path_search.proofs.ground.authorities_of.Given as goal

abbrev pub invariant-loop-certificate : goal.invariant-loop-certificate
invariant-loop-certificate l = l.authorities.items ≡ map seen_certificate (take l.certificate-index l.bag)
