use Rattle.std.proofs.Common.{map, drop}
use Rattle.relying_agreement.specs.Status.{evidence_of}
use Rattle.relying_search.specs.View.{seen_link}
use Rattle.relying_texts.specs.View.{facts_in_all, held_of}
use Rattle.relying_texts.proofs.Deciding.{IsSoFar}
use Rattle.relying_texts.proofs.verdicts.verdict_on.Given as goal

abbrev pub invariant-loop-link : goal.invariant-loop-link
invariant-loop-link l =
    IsSoFar l.fn.moment l.uncovered
    (map (evidence_of (held_of (facts_in_all l.fn.genuine))) (map seen_link (drop l.link-index l.links)))
    (map (evidence_of (held_of (facts_in_all l.fn.genuine))) (map seen_link l.links))
