use Rattle.std.proofs.Common.{map}
use Rattle.cert.specs.Certificate.{seen_certificate}
use Rattle.path_search.specs.WhyNot.{IsNamedAmong}
use Rattle.path_search.proofs.Explaining.{IsListed}
use Rattle.path_search.proofs.obstacles.places_named.Given as goal

abbrev pub invariant-loop-place : goal.invariant-loop-place
invariant-loop-place l = IsListed (IsNamedAmong (map seen_certificate l.certificates) (seen_certificate l.issued)) l.place l.named.items
