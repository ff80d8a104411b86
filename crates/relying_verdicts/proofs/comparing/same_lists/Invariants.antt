use Rattle.std.proofs.Common.{◌≡◌, ◌↔◌, drop}
use Rattle.relying_search.specs.View.{seen_lists}
use Rattle.relying_verdicts.proofs.comparing.same_lists.Given as goal

abbrev pub invariant-loop-index : goal.invariant-loop-index
invariant-loop-index l =
    (seen_lists (drop l.index l.one) ≡ seen_lists (drop l.index l.other)) ↔ (seen_lists l.one ≡ seen_lists l.other)
