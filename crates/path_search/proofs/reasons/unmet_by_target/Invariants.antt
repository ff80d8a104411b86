use Rattle.std.proofs.Common.{◌+◌}
use Rattle.path_issuers.specs.View.{seen_search}
use Rattle.path_search.specs.WhyNot.{MeetsAsTarget}
use Rattle.path_search.proofs.Ranking.{MeetsBelow}
use Rattle.path_search.proofs.reasons.unmet_by_target.Given as goal

abbrev pub invariant-loop-reason : goal.invariant-loop-reason
invariant-loop-reason l =
    MeetsBelow (MeetsAsTarget (seen_search l.search).options (seen_search l.search).moment (seen_search l.search).purpose (seen_search l.search).target) (l.reason-index + 1)
