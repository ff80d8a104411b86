use Rattle.std.proofs.Common.{◌+◌, IsTrue}
use Rattle.path_issuers.specs.View.{seen_search}
use Rattle.path_search.specs.Authority.{seen_tail}
use Rattle.path_search.specs.WhyNot.{MeetsAbove}
use Rattle.path_search.proofs.Ranking.{MeetsBelow}
use Rattle.path_search.proofs.authority.Authority.unmet_above.Given as goal

abbrev pub invariant-loop-reason : goal.invariant-loop-reason
invariant-loop-reason l = MeetsBelow (MeetsAbove (seen_search l.search).options (IsTrue l.signed) (seen_search l.search).moment l.self (seen_tail l.tail)) (l.reason-index + 1)
