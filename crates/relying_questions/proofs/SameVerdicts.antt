-- Verifiers that answer the questions alike give the same verdict.
use Rattle.std.proofs.Common.{List, ap, ◌∙◌}
use Rattle.path.specs.Query.{Query, Accepts}
use Rattle.statements_facts.specs.Fact.{Fact}
use Rattle.statements_facts.specs.Statement.{empty_holdings}
use Rattle.relying_agreement.specs.Run.{after_taking}
use Rattle.relying_agreement.specs.Verdict.{verdict_of}
use Rattle.relying_agreement.specs.declared.verdict.Verdict.{Verdict}
use Rattle.statements.specs.Statement.{Statement}
use Rattle.relying_texts.specs.Texts.{IsVerdictByStatements, issuers_of}
use Rattle.relying_questions.specs.Questions.{asked_of_path, asked_of_statements, questions_of}
use Rattle.relying_questions.specs.Agreement.{QuestionsDecide}
use Rattle.relying_questions.proofs.Alike.{Alike, each_alike, turned, before, behind}
use Rattle.relying_questions.proofs.PathAlike.{outcome_alike}
use Rattle.relying_questions.proofs.StatementsAlike.{told_alike}

pub decided : (accepts other : Accepts) (query : Query) (statements : List Statement) → Alike accepts other (questions_of query statements)
    → (verdict : Verdict) → IsVerdictByStatements accepts query statements verdict → IsVerdictByStatements other query statements verdict
decided accepts other query statements alike verdict is =
    let path = before accepts other (asked_of_path query) (asked_of_statements (issuers_of query) statements) alike in
    let told = behind accepts other (asked_of_path query) (asked_of_statements (issuers_of query) statements) alike in
    record {
      outcome = is.outcome;
      is_outcome = outcome_alike accepts other query path is.outcome is.is_outcome;
      verdict_is =
          is.verdict_is
          ∙ ap (λ (facts : List Fact). verdict_of is.outcome query (after_taking accepts empty_holdings facts).held)
          (told_alike accepts other (issuers_of query) statements told);
    }

pub questions_decide : QuestionsDecide
questions_decide query statements accepts other alike verdict =
    let each = each_alike accepts other (questions_of query statements) alike in (
      decided accepts other query statements each verdict,
      decided other accepts query statements (turned accepts other (questions_of query statements) each) verdict,
    )
