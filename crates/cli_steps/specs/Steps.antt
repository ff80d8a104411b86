-- What a request makes of a session's party, and how it is answered.
use Rattle.std.specs.Prelude.{◌≡◌, ◌⊎◌, ℕ, ℤ, Bool, List, [], ◌∷◌, Option}
use Rattle.path.specs.Query.{Accepts, Query}
use Rattle.relying_search.specs.Finding.{FindsHolding}
use Rattle.relying_search.specs.declared.finding.Finding.{Finding}
use Rattle.path_with_policies.specs.WithPolicies.{QueryWithPolicies}
use Rattle.relying_agreement.specs.Verdict.{IsVerdict}
use Rattle.relying_policies.specs.WithPolicies.{IsVerdictWithPolicies}
use Rattle.relying_policies.specs.declared.verdict.VerdictWithPolicies.{VerdictWithPolicies}
use Rattle.cli_operands.specs.Policies.{AsksWithPolicies}
use Rattle.cli_steps.specs.PolicyText.{SaysVerdict}
use Rattle.cli_steps.specs.WithPolicies.{IsFailureOfPolicyQuery}
use Rattle.statements_facts.specs.Coming.{AreCounts}
use Rattle.statements_facts.specs.Fact.{Fact}
use Rattle.cli_failures.specs.Failures.{Holding}
use Rattle.cli_failures.specs.declared.failure.Failure.{Failure}
use Rattle.cli_failures.specs.declared.failure.Failure.TheVariants.{NoMemory}
use Rattle.cli_listing.specs.HeldText.{IsListingOf}
use Rattle.cli_operands.specs.Asked.{AcceptsJust, Asks, IsBadMoment, IsFailureOfQuery, IsMomentOf}
use Rattle.cli_operands.specs.InOrder.{FailsFirst}
use Rattle.cli_requests.specs.Requests.{Request, SearchFiles, if_given, nothing, believe, deliver, check, check_with_policies, find, prints}
use Rattle.cli_requests.specs.Requests.{search_prints, list, forget, quit}
use Rattle.cli_showing.specs.Shown.{ArePrintsUnder, IsFailureOfPrints}
use Rattle.cli_words.specs.PolicyTexts.{PolicyTexts}
use Rattle.cli_words.specs.QueryTexts.{QueryTexts}
use Rattle.cli_words.specs.SearchTexts.{SearchTexts}
use Rattle.cli_words.specs.declared.line.Kind.{Kind}
use Rattle.cli_steps.specs.Found.{AnswersFinding, IsAskedToFind, IsFailureOfSearch, SearchAsked, usual_budget}
use Rattle.cli_steps.specs.Keeping.{IsNotKept, Kept, taking, trying}
use Rattle.cli_steps.specs.Passing.{HoldsStatement, IsRefusedFrom}
use Rattle.cli_steps.specs.SearchPrints.{AreSearchPrints, IsFailureOfSearchPrints}
use Rattle.cli_steps.specs.State.{SessionState, believing, forgetting, keeping}
use Rattle.cli_steps.specs.declared.answer.SessionAnswer.{SessionAnswer}
use Rattle.cli_steps.specs.declared.answer.SessionAnswer.TheVariants.{Nothing, Believes, Forgets, Ends, Delivered, Told, ToldWithPolicies}
use Rattle.cli_steps.specs.declared.answer.SessionAnswer.TheVariants.{Found, Prints, Listed, Failed}

-- ---- deliveries

-- A delivery fails: it is refused, and what is kept stays; or the statement says these facts, and the keeper did not take them.
abbrev pub IsUndelivered : Holding → Accepts → List ℕ → List ℕ → Kept → Kept → Failure → Type 0
IsUndelivered holds accepts issuer file old new failure =
    (IsRefusedFrom holds accepts issuer file failure × (new ≡ old))
    ⊎ ((facts : List Fact) × HoldsStatement holds accepts issuer file facts × IsNotKept failure
    × (new ≡ trying facts old))

-- a verifier that believes these fingerprints judges the statement; its facts are taken, and counted so; or a failure
abbrev pub DeliversFile : Holding → List ℕ → List ℕ → SessionState → SessionState → SessionAnswer → Type 0
DeliversFile holds issuer file old new (Delivered counts) =
    (accepts : Accepts) × AcceptsJust old.prints accepts
    × ((facts : List Fact) × HoldsStatement holds accepts issuer file facts
    × AreCounts old.kept.held facts counts × (new ≡ keeping (taking facts old.kept) old))
DeliversFile holds issuer file old new (Failed failure) =
    (accepts : Accepts) × AcceptsJust old.prints accepts
    × ((kept : Kept) × IsUndelivered holds accepts issuer file old.kept kept failure
    × (new ≡ keeping kept old))
DeliversFile holds issuer file old new answer = ⊥

-- ---- verdicts

-- What is wrong with a request for a verdict, the first of it: its operands, and then the keeper.
abbrev pub IsFailureOfVerdict : Holding → QueryTexts → Failure → Type 0
IsFailureOfVerdict holds texts =
    FailsFirst (IsFailureOfQuery holds texts) ((query : Query) × Asks holds texts query) IsNotKept

-- the verdict by what is held, with a verifier that believes these fingerprints; or a failure
abbrev pub ChecksPath : Holding → QueryTexts → SessionState → SessionAnswer → Type 0
ChecksPath holds texts state (Told verdict) =
    (accepts : Accepts) × AcceptsJust state.prints accepts
    × ((query : Query) × Asks holds texts query × IsVerdict accepts query state.kept.held verdict)
ChecksPath holds texts state (Failed failure) = IsFailureOfVerdict holds texts failure
ChecksPath holds texts state answer = ⊥

-- ---- verdicts with policies

-- What is wrong with a request for one, the first of it: its operands, and then the keeper.
abbrev pub IsFailureOfPolicyVerdict : Holding → QueryTexts → PolicyTexts → Failure → Type 0
IsFailureOfPolicyVerdict holds texts policies =
    FailsFirst (IsFailureOfPolicyQuery holds texts policies)
    ((q : QueryWithPolicies) × AsksWithPolicies holds texts policies q) IsNotKept

-- the verdict with policies by what is held, with a verifier that believes these fingerprints, and this is told of it; or a failure
abbrev pub ChecksPolicies : Holding → QueryTexts → PolicyTexts → SessionState → SessionAnswer → Type 0
ChecksPolicies holds texts policies state (ToldWithPolicies told) =
    (accepts : Accepts) × AcceptsJust state.prints accepts
    × ((q : QueryWithPolicies) × AsksWithPolicies holds texts policies q
    × ((answer : VerdictWithPolicies) × IsVerdictWithPolicies accepts q state.kept.held answer × SaysVerdict answer told))
ChecksPolicies holds texts policies state (Failed failure) = IsFailureOfPolicyVerdict holds texts policies failure
ChecksPolicies holds texts policies state answer = ⊥

-- ---- searches

-- What is wrong with a request for a search, the first of it: its operands, and then the keeper.
abbrev pub IsFailureOfFinding : Holding → SearchTexts → Failure → Type 0
IsFailureOfFinding holds texts =
    FailsFirst (IsFailureOfSearch holds texts) ((asked : SearchAsked) × IsAskedToFind holds texts asked) IsNotKept

-- what is found by what is held, with a verifier that believes these fingerprints, and this is answered to it; or a failure
abbrev pub FindsPath : Holding → SearchTexts → SessionState → SessionAnswer → Type 0
FindsPath holds texts state (Found answer) =
    (accepts : Accepts) × AcceptsJust state.prints accepts
    × ((asked : SearchAsked) × IsAskedToFind holds texts asked
    × ((finding : Finding) × FindsHolding accepts asked.search usual_budget state.kept.held finding
    × AnswersFinding holds texts asked finding answer))
FindsPath holds texts state (Failed failure) = IsFailureOfFinding holds texts failure
FindsPath holds texts state answer = ⊥

-- ---- listings

-- What is wrong with a request for a listing, the first of it: its moment, and then the keeper.
abbrev pub IsFailureOfListing : Option (List ℕ) → Failure → Type 0
IsFailureOfListing moment = FailsFirst (IsBadMoment moment) ((at : Option ℤ) × IsMomentOf moment at) IsNotKept

-- the lines of what is held, and whether each statement is in force at the moment, if one is named; or a failure
abbrev pub ListsHeld : Option (List ℕ) → SessionState → SessionAnswer → Type 0
ListsHeld moment state (Listed text) = (at : Option ℤ) × IsMomentOf moment at × IsListingOf at state.kept.held text.items
ListsHeld moment state (Failed failure) = IsFailureOfListing moment failure
ListsHeld moment state answer = ⊥

-- ---- others

-- one fingerprint more is believed, or memory ran out
abbrev pub BelievesMore : List ℕ → SessionState → SessionState → SessionAnswer → Type 0
BelievesMore print old new Believes = new ≡ believing print old
BelievesMore print old new (Failed failure) = (failure ≡ NoMemory) × (new ≡ old)
BelievesMore print old new answer = ⊥

-- the lines of what a verifier is asked, or a failure
abbrev pub ShowsPrints : Holding → Kind → Bool → List ℕ → List ℕ → SessionAnswer → Type 0
ShowsPrints holds kind with_parts issuer file (Prints text) =
    ArePrintsUnder holds issuer kind with_parts file text.items
ShowsPrints holds kind with_parts issuer file (Failed failure) =
    IsFailureOfPrints holds issuer kind file failure
ShowsPrints holds kind with_parts issuer file answer = ⊥

-- the same of what it may be asked in a search
abbrev pub ShowsSearchPrints : Holding → Bool → SearchFiles → SessionAnswer → Type 0
ShowsSearchPrints holds with_parts files (Prints text) =
    AreSearchPrints holds (files.anchors ∷ []) (if_given files.among) with_parts files.target text.items
ShowsSearchPrints holds with_parts files (Failed failure) =
    IsFailureOfSearchPrints holds (files.anchors ∷ []) (if_given files.among) files.target failure
ShowsSearchPrints holds with_parts files answer = ⊥

-- ---- requests

-- What a request makes of the party, and its answer. Operands hold so.
abbrev pub IsStep : Holding → Request → SessionState → SessionState → SessionAnswer → Type 0
IsStep holds nothing old new answer = (answer ≡ Nothing) × (new ≡ old)
IsStep holds (believe print) old new answer = BelievesMore print old new answer
IsStep holds (deliver issuer file) old new answer = DeliversFile holds issuer file old new answer
IsStep holds (check texts) old new answer = ChecksPath holds texts old answer × (new ≡ old)
IsStep holds (check_with_policies texts policies) old new answer = ChecksPolicies holds texts policies old answer × (new ≡ old)
IsStep holds (find texts) old new answer = FindsPath holds texts old answer × (new ≡ old)
IsStep holds (prints kind with_parts issuer file) old new answer =
    ShowsPrints holds kind with_parts issuer file answer × (new ≡ old)
IsStep holds (search_prints with_parts files) old new answer =
    ShowsSearchPrints holds with_parts files answer × (new ≡ old)
IsStep holds (list moment) old new answer = ListsHeld moment old answer × (new ≡ old)
IsStep holds forget old new answer = (answer ≡ Forgets) × (new ≡ forgetting old)
IsStep holds quit old new answer = (answer ≡ Ends) × (new ≡ old)
