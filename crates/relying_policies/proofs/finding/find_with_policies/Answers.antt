use Rattle.std.proofs.Common.{map, subst}
use Rattle.path_issuers.specs.View.{seen_search}
use Rattle.statements.specs.Statement.{seen_statement}
use Rattle.relying_policies.specs.ByStatements.{IsFindingAmongByStatements}
use Rattle.relying_policies.specs.SearchPolicies.{IsValidUnderPolicies, seen_search_policies}
use Rattle.relying_policies.proofs.Found.{found_joined}
use Rattle.relying_texts.specs.Texts.{held_for}
use Rattle.relying_policies.proofs.finding.find_with_policies.Goals as goal

pub returns-in_ok-outcome-in-Found : goal.returns-in_ok-outcome-in-Found
returns-in_ok-outcome-in-Found g c =
    let accepts = g.V.Verifier.accepts c.args.verifier.now in
    let statements = map seen_statement c.args.statements.now in
    let p = seen_search_policies c.args.policies.now in
    let s = seen_search c.args.search.now in
    found_joined c.search_laws.ensures.ordered c.verdict_laws.ensures.valid c.verdict_laws.ensures.one c.outcome_with_policies_laws.ensures.one
    c.outcome_with_policies_laws.ensures.valid accepts (held_for accepts statements) s p c.args.budget c.in-Found.path c.in-Found.verdict c.in_ok-outcome-in-Found.outcome
    c.join_verdict.result (subst (IsFindingAmongByStatements (IsValidUnderPolicies p) accepts statements s c.args.budget) c.in-Found.is c.in_ok-path.ensures)
    c.in_ok-outcome-in-Found.ensures c.join_verdict.ensures

pub returns-in-NotFound : goal.returns-in-NotFound
returns-in-NotFound g c =
    let accepts = g.V.Verifier.accepts c.args.verifier.now in
    record {
      among = subst (IsFindingAmongByStatements (IsValidUnderPolicies (seen_search_policies c.args.policies.now)) accepts (map seen_statement c.args.statements.now)
          (seen_search c.args.search.now) c.args.budget) c.in-NotFound.is c.in_ok-path.ensures;
      verdict = tt;
    }

pub returns-in-GaveUp : goal.returns-in-GaveUp
returns-in-GaveUp g c =
    let accepts = g.V.Verifier.accepts c.args.verifier.now in
    record {
      among = subst (IsFindingAmongByStatements (IsValidUnderPolicies (seen_search_policies c.args.policies.now)) accepts (map seen_statement c.args.statements.now)
          (seen_search c.args.search.now) c.args.budget) c.in-GaveUp.is c.in_ok-path.ensures;
      verdict = tt;
    }
