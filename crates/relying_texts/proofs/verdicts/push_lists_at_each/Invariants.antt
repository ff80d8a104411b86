use Rattle.std.proofs.Common.{◌≡◌, ◌++◌, drop}
use Rattle.relying_search.specs.View.{seen_link, seen_lists}
use Rattle.relying_texts.specs.Told.{lists_told_at, point_names}
use Rattle.relying_texts.specs.View.{facts_in_all}
use Rattle.relying_texts.proofs.verdicts.push_lists_at_each.Given as goal

abbrev pub invariant-loop-point : goal.invariant-loop-point
invariant-loop-point l =
    seen_lists l.lists.items ++ lists_told_at (facts_in_all l.fn.genuine) (seen_link l.fn.link) (point_names (drop l.point-index l.points))
    ≡ seen_lists l.fn.lists.items ++ lists_told_at (facts_in_all l.fn.genuine) (seen_link l.fn.link) (point_names l.points)
