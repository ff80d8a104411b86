use Rattle.std.proofs.Common.{ℕ, map, drop, Option}
use Rattle.relying_verdicts.specs.Difference.{IsFirstApart}
use Rattle.relying_search.specs.View.{seen_evidence}
use Rattle.relying_verdicts.proofs.comparing.first_apart.Given as goal

abbrev pub invariant-loop-index : goal.invariant-loop-index
invariant-loop-index l =
    (answer : Option ℕ) → IsFirstApart (drop l.index (map seen_evidence l.one)) (drop l.index (map seen_evidence l.other)) answer
    → IsFirstApart (map seen_evidence l.one) (map seen_evidence l.other) answer
