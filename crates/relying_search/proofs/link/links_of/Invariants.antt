use Rattle.std.proofs.Common.{◌≡◌, ◌+◌, ◌++◌, drop, map}
use Rattle.cert.specs.Certificate.{seen_certificate}
use Rattle.relying_agreement.specs.Link.{links_from}
use Rattle.relying_search.specs.View.{seen_link}
use Rattle.relying_search.proofs.link.links_of.Given as goal

-- the links that were made, and those that are left below the issuer, are all
abbrev pub invariant-loop-index : goal.invariant-loop-index
invariant-loop-index l =
    map seen_link l.links.items ++ links_from (l.index + 1) (seen_certificate l.issuer) (map seen_certificate (drop l.index l.path))
    ≡ links_from 1 (seen_certificate l.anchor) (map seen_certificate l.path)
