use Rattle.std.proofs.Common.{◌≡◌, map, drop}
use Rattle.relying_agreement.specs.Verdict.{first_uncovered}
use Rattle.relying_search.specs.View.{seen_evidence}
use Rattle.relying_verdicts.proofs.evidence.first_uncovered.Given as goal

abbrev pub invariant-loop-it : goal.invariant-loop-it
invariant-loop-it l = first_uncovered l.moment (map seen_evidence (drop l.it-index l.evidence)) ≡ first_uncovered l.moment (map seen_evidence l.evidence)
