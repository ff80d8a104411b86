-- What commands delivered and were answered, by what the stores at their paths did.
use Rattle.std.proofs.Common.{◌≡◌, ℕ, inl, inr, sym, subst, List, Result, Ok, Err, IfErr, IfOk}
use Rattle.path.specs.Query.{Accepts, Query}
use Rattle.path_issuers.specs.Search.{Search}
use Rattle.relying_agreement.specs.declared.verdict.Comparison.{Comparison}
use Rattle.relying_agreement.specs.declared.verdict.Verdict.{Verdict}
use Rattle.relying_search.specs.declared.finding.Finding.{Finding}
use Rattle.relying_search.specs.declared.finding.FindingBudget.{FindingBudget}
use Rattle.statements_facts.specs.Fact.{Fact}
use Rattle.statements_facts.specs.declared.counts.Counts.{Counts}
use Rattle.cli_failures.specs.declared.failure.Failure.{Failure}
use Rattle.cli_failures.specs.declared.failure.Failure.TheVariants.{NoMemory}
use Rattle.cli_words.specs.PolicyTexts.{PolicyTexts}
use Rattle.cli_words.specs.QueryTexts.{QueryTexts}
use Rattle.cli_words.specs.SearchTexts.{SearchTexts}
use Rattle.cli_steps.specs.Commands.{AsksBelieving, DeliversBelieving}
use Rattle.cli_steps.specs.Found.{FindingBy, FindsBelieving, usual_budget}
use Rattle.cli_steps.specs.Passing.{AnsweringBy, TakingBy}
use Rattle.cli_steps.specs.declared.found.FoundPath.{FoundPath}
use Rattle.cli_steps.specs.declared.policy_verdict.PolicyVerdict.{PolicyVerdict}
use Rattle.cli_steps.specs.WithPolicies.{ChecksBelieving}
use Rattle.path_with_policies.specs.WithPolicies.{QueryWithPolicies}
use Rattle.relying_policies.specs.WithPolicies.{AddsPolicies}
use Rattle.relying_policies.specs.declared.verdict.VerdictWithPolicies.{VerdictWithPolicies}
use Rattle.cli_store.specs.Standing.{Places}
use Rattle.cli.specs.Checked.{ChecksAt, ComparesAt, IsChecked, IsCheckedBy, IsCompared, IsFailureOfCheck, IsFailureOfComparison, IsNotChecked}
use Rattle.cli.specs.CheckedPolicies.{IsCheckedWithPolicies, IsCheckedWithPoliciesBy, IsFailureOfPolicyCheck}
use Rattle.cli.specs.Delivered.{IsDelivered, IsFailureOfDelivery, TakesAt}
use Rattle.cli.specs.Host.{HostState}
use Rattle.cli.specs.Searched.{FindsAt, IsFailureOfFinding, IsSearched}
use Rattle.cli.specs.declared.at_path.AtPath.{AtPath}
use Rattle.cli.specs.declared.at_path.AtPaths.{AtPaths}
use Rattle.cli.specs.declared.at_path.StorePair.{StorePair}
use Rattle.cli.specs.declared.delivering.Delivery.{Delivery}

-- ---- deliveries

abbrev pub taking_at : {D S : Type 0} → (S → Places) → TakingBy (AtPath D S)
taking_at known at new facts result = TakesAt (known at.source.now) at.path.now facts result

-- the store is that of the words
module _ {D S : Type 0} (known : S → Places) (host : HostState) (words : Delivery) (old new : AtPath D S) (so : (facts : List Fact) (result : Result Counts Failure) → taking_at known old new facts result → TakesAt host.at words.store.now facts result) where
  abbrev Delivers : Result Counts Failure → Type 0
  Delivers = DeliversBelieving host.holds words.verdicts.now words.issuer.now words.file.now (taking_at known) old new

  pub delivered : (result : Result Counts Failure) → Delivers result → IfOk result (IsDelivered host words)
  delivered (Ok counts) (facts, (accepts, believes, says), taken) =
      record { accepts = accepts; believes = believes; facts = facts; says = says; taken = so facts (Ok counts) taken }
  delivered (Err failure) did = tt

  pub not_delivered : (result : Result Counts Failure) → Delivers result → IfErr result (IsFailureOfDelivery host words)
  not_delivered (Ok counts) did = tt
  not_delivered (Err failure) (inl (refused, same)) = inl refused
  not_delivered (Err failure) (inr (facts, says, fails)) = inr (facts, says, so facts (Err failure) fails)

-- ---- verdicts

abbrev pub checking_at : {D S : Type 0} → (S → Places) → AnsweringBy (AtPath D S) Verdict
checking_at known at new accepts query result = ChecksAt (known at.source.now) at.path.now accepts query result

module _ {D S : Type 0} (known : S → Places) (host : HostState) (store verdicts : List ℕ) (texts : QueryTexts) (old new : AtPath D S) (so : (accepts : Accepts) (query : Query) (result : Result Verdict Failure) → checking_at known old new accepts query result → ChecksAt host.at store accepts query result) where
  abbrev Asks : Result Verdict Failure → Type 0
  Asks = AsksBelieving host.holds verdicts texts (checking_at known) old new

  pub checked : (result : Result Verdict Failure) → Asks result → IfOk result (IsChecked host store verdicts texts)
  checked (Ok verdict) ((accepts, query), asked, found) =
      record { accepts = accepts; query = query; asked = asked; checked = so accepts query (Ok verdict) found }
  checked (Err failure) did = tt

  pub not_checked : (result : Result Verdict Failure) → Asks result → IfErr result (IsFailureOfCheck host store verdicts texts)
  not_checked (Ok verdict) did = tt
  not_checked (Err failure) (inl (refused, same)) = inl refused
  not_checked (Err failure) (inr ((accepts, query), asked, fails)) = inr ((accepts, query, asked), so accepts query (Err failure) fails)

-- ---- verdicts with policies

-- policies are added to the verdict by what the store held
with_policies : (at : Places) (path : List ℕ) (accepts : Accepts) (q : QueryWithPolicies) (verdict : Verdict) (answer : VerdictWithPolicies) → IsCheckedBy at path accepts q.path verdict → AddsPolicies q verdict answer
    → IsCheckedWithPoliciesBy at path accepts q answer
with_policies at path accepts q verdict answer by adds = record {
  old = by.old;
  found = by.found;
  new = by.new;
  left = by.left;
  is = λ intact held store. let it = by.is intact held store in (adds accepts held it.0, it.1, it.2);
}

module _ {D S : Type 0} (known : S → Places) (host : HostState) (store verdicts : List ℕ) (texts : QueryTexts) (policies : PolicyTexts) (old new : AtPath D S) (so : (accepts : Accepts) (query : Query) (result : Result Verdict Failure) → checking_at known old new accepts query result → ChecksAt host.at store accepts query result) where
  abbrev AsksPolicies : Result PolicyVerdict Failure → Type 0
  AsksPolicies = ChecksBelieving host.holds verdicts texts policies (checking_at known) old new

  pub checked_policies : (result : Result PolicyVerdict Failure) → AsksPolicies result → IfOk result (IsCheckedWithPolicies host store verdicts texts policies)
  checked_policies (Ok told) ((accepts, q), (believes, asks), (verdict, did, (answer, adds, says))) =
      record { accepts = accepts; believes = believes; q = q; asks = asks; answer = answer; checked = with_policies host.at store accepts q verdict answer (so accepts q.path (Ok verdict) did) adds; says = says }
  checked_policies (Err failure) did = tt

  pub not_checked_policies : (result : Result PolicyVerdict Failure) → AsksPolicies result → IfErr result (IsFailureOfPolicyCheck host store verdicts texts policies)
  not_checked_policies (Ok told) did = tt
  not_checked_policies (Err failure) (inl (refused, same)) = inl refused
  not_checked_policies (Err failure) (inr ((accepts, q), (believes, asks), inl fails)) = inr (((accepts, believes), (q, asks)), so accepts q.path (Err failure) fails)
  not_checked_policies (Err failure) (inr ((accepts, q), (believes, asks), inr (verdict, did, memory))) =
      inr (((accepts, believes), (q, asks)), subst (IsNotChecked host.at store) (sym memory) (inl tt))

-- ---- comparisons

abbrev pub comparing_at : {D S : Type 0} → (S → Places) → AnsweringBy (AtPaths D S) Comparison
comparing_at known at new accepts query result = ComparesAt (known at.source.now) at.stores accepts query result

module _ {D S : Type 0} (known : S → Places) (host : HostState) (stores : StorePair) (verdicts : List ℕ) (texts : QueryTexts) (old new : AtPaths D S) (so : (accepts : Accepts) (query : Query) (result : Result Comparison Failure) → comparing_at known old new accepts query result → ComparesAt host.at stores accepts query result) where
  abbrev AsksBoth : Result Comparison Failure → Type 0
  AsksBoth = AsksBelieving host.holds verdicts texts (comparing_at known) old new

  pub compared : (result : Result Comparison Failure) → AsksBoth result → IfOk result (IsCompared host stores verdicts texts)
  compared (Ok comparison) ((accepts, query), asked, found) =
      record { accepts = accepts; query = query; asked = asked; compared = so accepts query (Ok comparison) found }
  compared (Err failure) did = tt

  pub not_compared : (result : Result Comparison Failure) → AsksBoth result → IfErr result (IsFailureOfComparison host stores verdicts texts)
  not_compared (Ok comparison) did = tt
  not_compared (Err failure) (inl (refused, same)) = inl refused
  not_compared (Err failure) (inr ((accepts, query), asked, fails)) = inr ((accepts, query, asked), so accepts query (Err failure) fails)

-- ---- searches

abbrev pub finding_at : {D S : Type 0} → (S → Places) → FindingBy (AtPath D S)
finding_at known at new accepts s budget result = FindsAt (known at.source.now) at.path.now accepts s budget result

module _ {D S : Type 0} (known : S → Places) (host : HostState) (store verdicts : List ℕ) (texts : SearchTexts) (old new : AtPath D S) (so : (accepts : Accepts) (s : Search) (budget : FindingBudget) (result : Result Finding Failure) → finding_at known old new accepts s budget result → FindsAt host.at store accepts s budget result) where
  abbrev Finds : Result FoundPath Failure → Type 0
  Finds = FindsBelieving host.holds verdicts texts (finding_at known) old new

  pub searched : (result : Result FoundPath Failure) → Finds result → IfOk result (IsSearched host store verdicts texts)
  searched (Ok answer) ((accepts, asked), (believes, is), (finding, found, answers)) =
      record { accepts = accepts; believes = believes; asked = asked; is = is; finding = finding; found = so accepts asked.search usual_budget (Ok finding) found; answers = answers }
  searched (Err failure) did = tt

  pub not_searched : (result : Result FoundPath Failure) → Finds result → IfErr result (IsFailureOfFinding host store verdicts texts)
  not_searched (Ok answer) did = tt
  not_searched (Err failure) (inl (refused, same)) = inl refused
  not_searched (Err failure) (inr ((accepts, asked), (believes, is), inl fails)) = inr (((accepts, believes), (asked, is)), so accepts asked.search usual_budget (Err failure) fails)
  not_searched (Err failure) (inr ((accepts, asked), (believes, is), inr (finding, found, memory))) =
      inr (((accepts, believes), (asked, is)), subst (IsNotChecked host.at store) (sym memory) (inl tt))

-- it was found, and memory ran out for its lines
pub without_memory : (host : HostState) (store verdicts : List ℕ) (texts : SearchTexts) (answer : FoundPath) (failure : Failure) → IsSearched host store verdicts texts answer → failure ≡ NoMemory → IsFailureOfFinding host store verdicts texts failure
without_memory host store verdicts texts answer failure found memory =
    inr (((found.accepts, found.believes), (found.asked, found.is)), subst (IsNotChecked host.at store) (sym memory) (inl tt))
