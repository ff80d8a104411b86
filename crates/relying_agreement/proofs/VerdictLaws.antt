-- A question has one verdict, and verdicts depend on what is held through the answers alone.
use Rattle.std.proofs.Common.{◌≡◌, List, [], ◌∷◌, map, refl, sym, ap, ap₂, ◌∙◌}
use Rattle.std.specs.List.{AllByRecursion}
use Rattle.statements_facts.specs.Statement.{Holdings}
use Rattle.path.specs.declared.reason.Outcome.{Outcome}
use Rattle.path.specs.declared.reason.Outcome.TheVariants.{Good, Bad}
use Rattle.path.specs.Query.{Query}
use Rattle.path.specs.Validity.{OutcomeIsOne}
use Rattle.relying_agreement.specs.Link.{Link, links_of}
use Rattle.relying_agreement.specs.Status.{Answers, Evidence, evidence_of, may_sign_crls}
use Rattle.relying_agreement.specs.Verdict.{verdict_by, verdict_of, VerdictIsOne}
use Rattle.relying_agreement.specs.Comparison.{HoldSameOf}

pub verdict_is_one : OutcomeIsOne → VerdictIsOne
verdict_is_one one_outcome accepts query held one other a b =
    a.verdict_is
    ∙ ap (λ outcome. verdict_of outcome query held) (one_outcome accepts query a.outcome b.outcome a.is_outcome b.is_outcome)
    ∙ sym b.verdict_is

abbrev evidence_with : Link → Answers → Evidence
evidence_with link answers = record { number = link.number; may_sign_crls = may_sign_crls link; answers = answers }

-- the same answers of each certificate are the same evidence
same_evidence : (one other : Holdings) (links : List Link) → AllByRecursion (HoldSameOf one other) links
    → map (evidence_of one) links ≡ map (evidence_of other) links
same_evidence one other [] same = refl
same_evidence one other (link ∷ links) same = ap₂ (λ answers rest. evidence_with link answers ∷ rest) same.0 (same_evidence one other links same.1)

-- and give the same verdict
pub same_verdicts : (outcome : Outcome) (query : Query) (one other : Holdings) → AllByRecursion (HoldSameOf one other) (links_of query)
    → verdict_of outcome query one ≡ verdict_of outcome query other
same_verdicts (Bad j reason) query one other same = refl
same_verdicts Good query one other same = ap (verdict_by query.moment) (same_evidence one other (links_of query) same)
