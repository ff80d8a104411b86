use Rattle.std.proofs.Common.{◌≡◌, ℕ, List}
use Rattle.path_policies.specs.Seen.{seen_query}
use Rattle.path_policies.specs.Sets.{has, lasts}
use Rattle.path_policies.specs.Steps.{lasts_above, named_above}
use Rattle.path_policies.proofs.outcome.first_named.Given as goal

abbrev pub invariant-loop-above : goal.invariant-loop-above
invariant-loop-above l =
    ((policy : List ℕ) → lasts l.lasting policy ≡ lasts_above (seen_query l.query) l.above policy)
    × ((policy : List ℕ) → has l.named policy ≡ named_above (seen_query l.query) l.above policy)
