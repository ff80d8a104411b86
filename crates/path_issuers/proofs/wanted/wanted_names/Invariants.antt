use Rattle.path_issuers.specs.Frontier.{left_of}
use Rattle.path_issuers.specs.Wanting.{IsWanting}
use Rattle.path_issuers.proofs.wanted.wanted_names.Given as goal

abbrev pub invariant-loop-number : goal.invariant-loop-number
invariant-loop-number l = IsWanting l.subjects l.issuers l.count l.frontier

abbrev pub decreases-loop-number : goal.decreases-loop-number
decreases-loop-number l = left_of l.frontier
