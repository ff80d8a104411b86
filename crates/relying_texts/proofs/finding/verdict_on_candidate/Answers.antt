use Rattle.std.proofs.Common.{map, sym, ap, ◌∙◌}
use Rattle.std.proofs.lemmas.Result.{IfOk-weaker}
use Rattle.path.specs.declared.reason.Outcome.TheVariants.{Good}
use Rattle.path_issuers.specs.Search.{query_about}
use Rattle.path_issuers.specs.View.{seen_search}
use Rattle.path_search.specs.Answer.{seen_candidate}
use Rattle.relying_search.specs.View.{seen_link}
use Rattle.statements.specs.Statement.{seen_statement}
use Rattle.relying_texts.specs.View.{facts_in_all, issuers_in}
use Rattle.relying_texts.proofs.Bearing.{decided}
use Rattle.relying_texts.proofs.finding.verdict_on_candidate.Goals as goal

pub returns : goal.returns
returns g c =
    IfOk-weaker c.verdict_at.result _ _ (λ verdict is valid. record {
      candidate = valid.candidate;
      verdict_is = record {
        outcome = Good;
        is_outcome = valid.valid;
        verdict_is = decided (g.V.Verifier.accepts c.args.verifier.now) (query_about (seen_search c.args.search.now) (seen_candidate c.args.candidate.now))
            (map seen_statement c.args.statements.now) (facts_in_all c.as_slice-3.result.now) (map seen_link c.as_slice-2.result.now) (issuers_in c.as_slice.result.now) verdict
            (ap facts_in_all c.as_slice-3.ensures.value ∙ c.in_ok-genuine.ensures)
            (ap issuers_in (c.as_slice.ensures.value ∙ sym c.as_slice-2.ensures.value))
            (ap (map seen_link) c.as_slice-2.ensures.value ∙ c.in_ok-links.ensures) is;
      };
    })
    c.verdict_at.ensures
