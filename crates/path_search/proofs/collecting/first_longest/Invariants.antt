use Rattle.path_search.specs.Collecting.{IsFirstLongestBefore}
use Rattle.path_issuers.specs.Lists.{lists_of}
use Rattle.path_search.proofs.collecting.first_longest.Given as goal

abbrev pub invariant-loop-place : goal.invariant-loop-place
invariant-loop-place l = IsFirstLongestBefore l.place (lists_of l.lists) l.longest
