-- Searches, from what was done on their way.
use Rattle.std.proofs.Common.{◌≡◌, ℕ, Bool, List, Option, Result, Ok, Err, IfErr, IfOk, inl, inr, map}
use Rattle.std.specs.Global.{Vec}
use Rattle.path.specs.Query.{Accepts}
use Rattle.path_issuers.specs.Search.{Search}
use Rattle.path_search.specs.Answer.{seen_candidate}
use Rattle.names_identity.specs.Identity.{ReferenceIdentity}
use Rattle.relying_search.specs.declared.finding.Finding.{Finding}
use Rattle.relying_search.specs.declared.finding.Finding.TheVariants as Of
use Rattle.cli_answers.specs.SearchText.{seen_place}
use Rattle.cli_failures.specs.Failures.{Holding}
use Rattle.cli_failures.specs.declared.failure.Failure.{Failure}
use Rattle.cli_failures.specs.declared.failure.Failure.TheVariants.{NoMemory}
use Rattle.cli_operands.proofs.Laws.{ask_to_find, hold_searched, places_stand, refuse_search}
use Rattle.cli_operands.specs.Asked.{AreTerms}
use Rattle.cli_operands.specs.Name.{IsNameOf}
use Rattle.cli_operands.specs.Searching.{AreCertificatesOfSearch, AreSearchOperands, IsFailureOfSearched, IsRefusalInSearch, IsSearchFor}
use Rattle.cli_operands.specs.declared.search_files.SearchCertificates.{SearchCertificates}
use Rattle.cli_operands.specs.declared.search_files.SearchOperands.{SearchOperands}
use Rattle.cli_operands.specs.declared.terms.Terms.{Terms}
use Rattle.cli_words.specs.SearchTexts.{SearchTexts}
use Rattle.cli_steps.specs.Finding.{AnswersIn, ArePrintsOf, IsNoPrintOf, IsSearchIn}
use Rattle.cli_steps.specs.Found.{AnswersFinding, FindingBy, FindsThen, IsAskedToFind, SearchAsked, usual_budget, with_name}
use Rattle.cli_steps.specs.Passing.{PassesOn}
use Rattle.cli_steps.specs.SearchPrints.{AreSearchLines, AreSearchPrints, IsFailureOfSearchPrints, files_asked}
use Rattle.cli_steps.specs.declared.found.FoundPath.{FoundPath}

-- what a receiver found was answered, or memory ran out behind it
pub answered : {R : Type 0} (Finds : FindingBy R) (Answers : Finding → FoundPath → Type 0) (old new : R) (accepts : Accepts) (s : Search) (finding : Finding) (result : Result FoundPath Failure)
    → Finds old new accepts s usual_budget (Ok finding) → IfOk result (Answers finding) → IfErr result (λ failure. failure ≡ NoMemory) → FindsThen Finds Answers old new accepts s result
answered Finds Answers old new accepts s finding (Ok answer) found answers fails = (finding, found, answers)
answered Finds Answers old new accepts s finding (Err failure) found answers fails = inr (finding, found, fails)

-- something of which more is said was answered
pub answers_more : {R : Type 0} (Finds : FindingBy R) (Answers More : Finding → FoundPath → Type 0) (old new : R) (accepts : Accepts) (s : Search) (result : Result FoundPath Failure)
    → ((finding : Finding) (answer : FoundPath) → Answers finding answer → More finding answer) → FindsThen Finds Answers old new accepts s result → FindsThen Finds More old new accepts s result
answers_more Finds Answers More old new accepts s (Ok answer) more (finding, found, answers) = (finding, found, more finding answer answers)
answers_more Finds Answers More old new accepts s (Err failure) more (inl fails) = inl fails
answers_more Finds Answers More old new accepts s (Err failure) more (inr late) = inr late

-- places in the files of operands are places in the files that these were read from
in_files : (holds : Holding) (texts : SearchTexts) (terms : Terms) (it : SearchOperands) (read : SearchCertificates) (asked : SearchAsked) (finding : Finding) (answer : FoundPath)
    → AreSearchOperands holds texts it → AreCertificatesOfSearch it read → IsSearchFor read terms asked.search → AnswersIn it asked.name asked.search.target finding answer
    → AnswersFinding holds texts asked finding answer
in_files holds texts terms it read asked (Of.Found c verdict) answer are of is (places, told) =
    (λ within. places_stand holds texts terms it read asked.search (seen_candidate c) (map seen_place answer.path.items) are of is within places, told)
in_files holds texts terms it read asked Of.NotFound answer are of is answers = answers
in_files holds texts terms it read asked Of.GaveUp answer are of is answers = answers

-- operands are of no name, so they are what the texts with this name ask for
pub with_this_name : (said : Option (List ℕ)) (holds : Holding) (texts : SearchTexts) (it : SearchOperands) → AreSearchOperands holds texts it → AreSearchOperands holds (with_name said texts) it
with_this_name said holds texts it are = record { profile = are.profile; target_file = are.target_file; target = are.target; anchors = are.anchors; among = are.among }

-- what operands ask for is what their texts ask for
module _ {R : Type 0} (Finds : FindingBy R) (old new : R) (accepts : Accepts) (holds : Holding) (texts : SearchTexts) (terms : Terms) (name : Option ReferenceIdentity) (it : SearchOperands)
    (are : AreSearchOperands holds texts it) (named : AreTerms texts.moment texts.purpose terms) (of : IsNameOf texts.name name) where
  abbrev asked : Search → SearchAsked
  asked s = record { search = s; name = name }

  is_asked : (s : Search) → IsSearchIn it terms s → IsAskedToFind holds texts (asked s)
  is_asked s (read, certificates, is) = record { name = of; search = ask_to_find holds texts terms it read s named are certificates is }

  more : (s : Search) → IsSearchIn it terms s → (finding : Finding) (answer : FoundPath) → AnswersIn it name s.target finding answer → AnswersFinding holds texts (asked s) finding answer
  more s (read, certificates, is) finding answer = in_files holds texts terms it read (asked s) finding answer are certificates is

  pub search_passed : (result : Result FoundPath Failure)
      → PassesOn (IsSearchIn it terms) (IsRefusalInSearch it) (λ old new (s : Search). FindsThen Finds (AnswersIn it name s.target) old new accepts s) old new result
      → PassesOn (IsAskedToFind holds texts) (IsFailureOfSearched holds texts) (λ old new (it : SearchAsked). FindsThen Finds (AnswersFinding holds texts it) old new accepts it.search) old new result
  search_passed (Ok answer) (s, is, did) =
      (asked s, is_asked s is, answers_more Finds (AnswersIn it name s.target) (AnswersFinding holds texts (asked s)) old new accepts s (Ok answer) (more s is) did)
  search_passed (Err failure) (inl (refused, same)) = inl (refuse_search holds texts it failure are refused, same)
  search_passed (Err failure) (inr (s, is, did)) =
      inr (asked s, is_asked s is, answers_more Finds (AnswersIn it name s.target) (AnswersFinding holds texts (asked s)) old new accepts s (Err failure) (more s is) did)

-- ---- what a verifier may be asked

module _ (holds : Holding) (anchors among : List (List ℕ)) (file : List ℕ) (it : SearchOperands) where
  pub prints_of_files : (with_parts : Bool) (result : Result (Vec ℕ) Failure) → AreSearchOperands holds (files_asked anchors among file) it → IfOk result (λ text. ArePrintsOf it with_parts text.items)
      → IfOk result (λ text. AreSearchPrints holds anchors among with_parts file text.items)
  prints_of_files with_parts (Ok text) are (terms, (s, (read, certificates, is), lines)) = (s, hold_searched holds (files_asked anchors among file) terms it read s are certificates is, lines)
  prints_of_files with_parts (Err failure) are prints = tt

  pub prints_fail : (result : Result (Vec ℕ) Failure) → AreSearchOperands holds (files_asked anchors among file) it → IfErr result (IsNoPrintOf it) → IfErr result (IsFailureOfSearchPrints holds anchors among file)
  prints_fail (Ok text) are fails = tt
  prints_fail (Err failure) are (inl refused) = inl (refuse_search holds (files_asked anchors among file) it failure are refused)
  prints_fail (Err failure) are (inr memory) = inr memory

-- the lines of the search among the certificates of operands
pub prints_in_operands : (it : SearchOperands) (terms : Terms) (read : SearchCertificates) (s : Search) (with_parts : Bool) (result : Result (Vec ℕ) Failure) → AreCertificatesOfSearch it read → IsSearchFor read terms s
    → IfOk result (λ text. AreSearchLines s with_parts text.items) → IfOk result (λ text. ArePrintsOf it with_parts text.items)
prints_in_operands it terms read s with_parts (Ok text) are is lines = (terms, (s, (read, are, is), lines))
prints_in_operands it terms read s with_parts (Err failure) are is lines = tt
