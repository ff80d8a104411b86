-- What is found among the paths that are valid with their policies.
use Rattle.std.proofs.Common.{◌≡◌, ◌≢◌, ℕ, suc, ◌∷◌, Bool, true, false, Some, None, map, slice_index_or, refl, sym, ap, subst, ◌∙◌, true≢false}
use Rattle.std.proofs.lemmas.List.{length-map, length-reverse}
use Rattle.path.specs.Query.{Accepts}
use Rattle.path.specs.declared.reason.Reason.{Reason}
use Rattle.path.specs.declared.reason.Outcome.TheVariants as path
use Rattle.path_issuers.specs.Search.{Search, Candidate, CandidatesAreOrdered, certificates_at, query_about}
use Rattle.path_search.specs.Answer.{seen_candidate}
use Rattle.path_search.specs.declared.answer.Candidate as handed
use Rattle.path_policies.specs.Outcome.{IsPolicyOutcome}
use Rattle.path_policies.specs.declared.reason.PolicyOutcome.{PolicyOutcome}
use Rattle.path_policies.specs.declared.reason.PolicySets.{PolicySets}
use Rattle.path_with_policies.specs.Joining.{Joins}
use Rattle.path_with_policies.specs.WithPolicies.{QueryWithPolicies, AreSameWithPolicies, HasPoliciesOfEach, IsOutcomeWithPolicies, IsValidWithPolicies, OutcomeWithPoliciesIsOne, ValidIsValidWithoutPolicies}
use Rattle.path_with_policies.specs.declared.outcome.OutcomeWithPolicies.{OutcomeWithPolicies}
use Rattle.path_with_policies.specs.declared.outcome.OutcomeWithPolicies.TheVariants.{Good, Bad}
use Rattle.relying_agreement.specs.Verdict.{IsVerdict, ValidExactlyWhere, VerdictIsOne}
use Rattle.relying_agreement.specs.declared.verdict.Verdict.{Verdict}
use Rattle.relying_policies.specs.WithPolicies.{IsVerdictWithPolicies, JoinsVerdict}
use Rattle.relying_policies.specs.WithPolicies as with_policies
use Rattle.relying_policies.specs.declared.verdict.VerdictWithPolicies.{VerdictWithPolicies}
use Rattle.relying_search.specs.Finding.{Finding, HeldFor}
use Rattle.relying_search.specs.declared.finding.FindingBudget.{FindingBudget}
use Rattle.relying_search.specs.Among.{IsFindingAmong}
use Rattle.relying_search.specs.Filter.{TellsWhether}
use Rattle.relying_search.proofs.AmongLaws.{finding_is_one, found_counts}
use Rattle.relying_policies.specs.SearchPolicies.{IsValidUnderPolicies, SearchPolicies, policies_about, policies_at, query_with_policies_about}
use Rattle.relying_policies.specs.Telling.{TellsWithPolicies}
use Rattle.relying_policies.specs.FindingWithPolicies.{AreSameFindings, FindingWithPoliciesIsOne, FoundIsValidWithPolicies, IsFindingWithPolicies, NotFoundExactlyWhere, seen_finding}
use Rattle.relying_policies.specs.declared.finding.FindingWithPolicies as code
use Rattle.relying_policies.specs.declared.finding.FindingWithPolicies.TheVariants as C

-- each certificate of a candidate's path has its policies
pub of_each : (s : Search) (p : SearchPolicies) (c : Candidate) → HasPoliciesOfEach (query_with_policies_about s p c)
of_each s p c =
    length-reverse (p.target ∷ map (policies_at p) c.above)
    ∙ ap suc (length-map c.above (policies_at p) ∙ sym (length-map c.above (λ place. slice_index_or s.bag place s.target)))
    ∙ sym (length-reverse (s.target ∷ certificates_at s.target s.bag c.above))

-- what the outcome of policies tells

pub good_tells : (policies : PolicyOutcome) (sets : PolicySets) → Joins path.Good policies (Good sets) → TellsWithPolicies policies true
good_tells policies sets joins accepts q each valid is =
    (λ t. (sets, joins accepts q (record { counts = each; of_path = valid; of_policies = is })), λ any. refl)

pub bad_tells : OutcomeWithPoliciesIsOne → (policies : PolicyOutcome) (j : ℕ) (reason : Reason) → Joins path.Good policies (Bad j reason)
    → TellsWithPolicies policies false
bad_tells law policies j reason joins accepts q each valid is = (
  λ t. absurd (true≢false (sym t)),
  λ any. absurd (law accepts q (Good any.0) (Bad j reason) each any.1 (joins accepts q (record { counts = each; of_path = valid; of_policies = is }))),
)

pub tells : (p : SearchPolicies) (s : Search) (c : Candidate) (policies : PolicyOutcome) (told : Bool) → TellsWithPolicies policies told
    → IsPolicyOutcome (policies_about p c) policies → TellsWhether (IsValidUnderPolicies p) s c told
tells p s c policies told says is accepts valid = says accepts (query_with_policies_about s p c) (of_each s p c) valid.valid is

module _ (ordered : CandidatesAreOrdered) (exact : ValidExactlyWhere) (one_verdict : VerdictIsOne)
    (one_outcome : OutcomeWithPoliciesIsOne) (alone : ValidIsValidWithoutPolicies) where
  module _ (accepts : Accepts) (held : HeldFor) (s : Search) (p : SearchPolicies) where
    abbrev query : Candidate → QueryWithPolicies
    query c = query_with_policies_about s p c

    abbrev HasVerdictWith : Candidate → VerdictWithPolicies → Type 0
    HasVerdictWith c answer = IsVerdictWithPolicies accepts (query c) (held (query_about s c)) answer

    -- the verdict on a path that is valid with its policies is that without them
    same_verdict : (c : Candidate) (sets : PolicySets) (verdict : Verdict) (answer : VerdictWithPolicies) → IsValidWithPolicies accepts (query c) sets
        → IsVerdict accepts (query_about s c) (held (query_about s c)) verdict → HasVerdictWith c answer → answer.verdict ≡ verdict
    same_verdict c sets verdict answer valid is has = by has.outcome has.is_outcome has.verdict_is
      where
        by : (outcome : OutcomeWithPolicies) → IsOutcomeWithPolicies accepts (query c) outcome
            → answer.verdict ≡ with_policies.verdict_of outcome (query_about s c) (held (query_about s c)) → answer.verdict ≡ verdict
        by (Bad j reason) fails e = absurd (one_outcome accepts (query c) (Good sets) (Bad j reason) (of_each s p c) valid fails)
        by (Good found) good e =
            e ∙ one_verdict accepts (query_about s c) (held (query_about s c)) _ verdict
            (record { outcome = path.Good; is_outcome = alone accepts (query c) sets valid; verdict_is = refl }) is

    -- it tells the policies at the end
    sets_told : (c : Candidate) (sets : PolicySets) (answer : VerdictWithPolicies) → IsValidWithPolicies accepts (query c) sets → HasVerdictWith c answer
        → (found : PolicySets) × (answer.policies ≡ Some found) × IsValidWithPolicies accepts (query c) found
    sets_told c sets answer valid has = by has.outcome has.is_outcome has.policies_are
      where
        by : (outcome : OutcomeWithPolicies) → IsOutcomeWithPolicies accepts (query c) outcome → answer.policies ≡ with_policies.policies_of outcome
            → (found : PolicySets) × (answer.policies ≡ Some found) × IsValidWithPolicies accepts (query c) found
        by (Bad j reason) fails e = absurd (one_outcome accepts (query c) (Good sets) (Bad j reason) (of_each s p c) valid fails)
        by (Good found) good e = (found, e, good)

    valid_with : (c : Candidate) (sets : PolicySets) (answer : VerdictWithPolicies) → HasVerdictWith c answer → answer.policies ≡ Some sets
        → IsValidWithPolicies accepts (query c) sets
    valid_with c sets answer has is = by has.outcome has.is_outcome has.policies_are
      where
        by : (outcome : OutcomeWithPolicies) → IsOutcomeWithPolicies accepts (query c) outcome → answer.policies ≡ with_policies.policies_of outcome
            → IsValidWithPolicies accepts (query c) sets
        by (Bad j reason) fails e = absurd (let no : None ≡ Some sets = sym e ∙ is in cc)
        by (Good found) good e =
            let same : found ≡ sets = let some : Some found ≡ Some sets = sym e ∙ is in cc in
            subst (IsValidWithPolicies accepts (query c)) same good

    -- a path was found, and its policies joined
    pub found_joined : (budget : FindingBudget) (c : handed.Candidate) (verdict : Verdict) (policies : PolicyOutcome) (answer : VerdictWithPolicies)
        → IsFindingAmong (IsValidUnderPolicies p accepts s) accepts held s budget (Finding.Found (seen_candidate c) verdict)
        → IsPolicyOutcome (policies_about p (seen_candidate c)) policies → JoinsVerdict verdict policies answer
        → IsFindingWithPolicies accepts held s p budget (C.Found c answer)
    found_joined budget c verdict policies answer found is joins =
        let it = found_counts (IsValidUnderPolicies p) ordered exact one_verdict accepts held s budget (seen_candidate c) verdict found in
        let has : HasVerdictWith (seen_candidate c) answer =
        joins accepts (query (seen_candidate c)) (held (query_about s (seen_candidate c))) (of_each s p (seen_candidate c)) it.1.verdict_is is in
        let same = same_verdict (seen_candidate c) it.0.counted.0 verdict answer it.0.counted.1 it.1.verdict_is has in
        record {
          among = subst (λ v. IsFindingAmong (IsValidUnderPolicies p accepts s) accepts held s budget (Finding.Found (seen_candidate c) v)) (sym same) found;
          verdict = has;
        }

    same_sets : (c d : Candidate) (one other : VerdictWithPolicies) → c ≡ d → HasVerdictWith c one → HasVerdictWith d other → (a b : PolicySets)
        → one.policies ≡ Some a → other.policies ≡ Some b → AreSameWithPolicies (Good a) (Good b)
    same_sets c d one other same has others a b is are =
        one_outcome accepts (query d) (Good a) (Good b) (of_each s p d)
        (subst (λ (e : Candidate). IsValidWithPolicies accepts (query e) a) same (valid_with c a one has is)) (valid_with d b other others are)

    ends_so : (finding : code.FindingWithPolicies) → finding ≢ C.GaveUp → seen_finding finding ≢ Finding.GaveUp
    ends_so (C.Found c answer) ended e = cc
    ends_so C.NotFound ended e = cc
    ends_so C.GaveUp ended e = ended refl

    pub same_finding : (budget others : FindingBudget) (one other : code.FindingWithPolicies) → IsFindingWithPolicies accepts held s p budget one
        → IsFindingWithPolicies accepts held s p others other → one ≢ C.GaveUp → other ≢ C.GaveUp → AreSameFindings one other
    same_finding budget others one other f g ended others_ended = by one other f g
        (finding_is_one (IsValidUnderPolicies p) ordered exact one_verdict accepts held s budget others (seen_finding one) (seen_finding other) f.among g.among
        (ends_so one ended) (ends_so other others_ended)) ended others_ended
      where
        by : (one other : code.FindingWithPolicies) → IsFindingWithPolicies accepts held s p budget one → IsFindingWithPolicies accepts held s p others other
            → seen_finding one ≡ seen_finding other → one ≢ C.GaveUp → other ≢ C.GaveUp → AreSameFindings one other
        by (C.Found c answer) (C.Found d told) f g same ended others_ended =
            let path : seen_candidate c ≡ seen_candidate d = cc in
            let verdict : answer.verdict ≡ told.verdict = cc in
            (path, verdict, same_sets (seen_candidate c) (seen_candidate d) answer told path f.verdict g.verdict)
        by (C.Found c answer) C.NotFound f g same ended others_ended = same
        by C.NotFound (C.Found d told) f g same ended others_ended = same
        by C.NotFound C.NotFound f g same ended others_ended = same
        by C.GaveUp other f g same ended others_ended = absurd (ended refl)
        by (C.Found c answer) C.GaveUp f g same ended others_ended = absurd (others_ended refl)
        by C.NotFound C.GaveUp f g same ended others_ended = absurd (others_ended refl)

  pub found_is_valid : FoundIsValidWithPolicies
  found_is_valid accepts held s p budget c answer is =
      let it = found_counts (IsValidUnderPolicies p) ordered exact one_verdict accepts held s budget (seen_candidate c) answer.verdict is.among in
      sets_told accepts held s p (seen_candidate c) it.0.counted.0 answer it.0.counted.1 is.verdict

  pub not_found : NotFoundExactlyWhere
  not_found accepts held s p budget = (
    λ is c sets candidate valid.
        is.among c record {
          valid = record { candidate = candidate; valid = alone accepts (query_with_policies_about s p c) sets valid };
          counted = (sets, valid);
        },
    λ none. record { among = λ c counted. none c counted.counted.0 counted.valid.candidate counted.counted.1; verdict = tt },
  )

  pub finding_with_policies_is_one : FindingWithPoliciesIsOne
  finding_with_policies_is_one accepts held s p budget others one other = same_finding accepts held s p budget others one other
