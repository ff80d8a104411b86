-- What a run has done, by the status that it answers.
use Rattle.std.specs.Prelude.{◌≡◌, ◌≢◌, ◌⊎◌, ℕ, List, [], ◌∷◌, Option, IsTrue, false, map}
use Rattle.std.specs.Io.KnownBytes.{Appends}
use Rattle.clap.specs.Words.{Text}
use Rattle.clap.specs.declared.error.kind.ErrorKind.{ErrorKind}
use Rattle.clap.specs.declared.error.kind.ErrorKind.TheVariants.{DisplayHelp, DisplayVersion, OutOfMemory}
use Rattle.relying_agreement.specs.declared.verdict.Comparison.{Comparison}
use Rattle.relying_agreement.specs.declared.verdict.Verdict.{Verdict}
use Rattle.cli_answers.specs.AnswerText.{comparison_line, counts_line, verdict_line}
use Rattle.statements_facts.specs.declared.counts.Counts.{Counts}
use Rattle.cli_words.specs.CommandLine.{AreRefusedWith, ReadsLine}
use Rattle.cli_words.specs.QueryTexts.{seen_words}
use Rattle.cli_words.specs.SearchTexts.{seen_search_words}
use Rattle.cli_words.specs.PolicyTexts.{seen_policy_words}
use Rattle.cli_words.specs.declared.line.Line.{Line}
use Rattle.cli_words.specs.declared.line.Line.TheVariants.{Tree, Show, Prints, SearchPrints, Deliver, Check, CheckWithPolicies, Compare, Find, List as Listing, Explain, Session}
use Rattle.cli_failures.specs.Topics.{explanation, is_known}
use Rattle.cli_failures.specs.Failures.{IsNoValue}
use Rattle.cli_failures.specs.declared.failure.Failure.{Failure}
use Rattle.cli_failures.specs.declared.failure.Failure.TheVariants.{BadTopic, NoMemory, Unwritable}
use Rattle.cli.specs.Checked.{FailsToCheck, FailsToCompare, IsChecked, IsCompared}
use Rattle.cli.specs.CheckedPolicies.{FailsToCheckPolicies, IsCheckedWithPolicies}
use Rattle.cli.specs.Delivered.{FailsToDeliver, IsDelivered}
use Rattle.cli.specs.Host.{HostState}
use Rattle.cli.specs.Listed.{FailsToList, IsListed, given}
use Rattle.cli.specs.Searched.{FailsToFind, IsSearched}
use Rattle.cli.specs.Session.{FailsInSession, IsWholeSession}
use Rattle.cli.specs.Streams.{FailsOrCuts, Streams}
use Rattle.cli_answers.specs.SearchText.{search_status}
use Rattle.cli_answers.specs.Status.{comparison_status, verdict_status}
use Rattle.cli_showing.specs.Shown.{ArePrintsUnder, IsFailureOfPrints, IsNotShown, IsShownText, IsTreeText}
use Rattle.cli_steps.specs.Found.{found_text}
use Rattle.cli_steps.specs.SearchPrints.{AreSearchPrints, IsFailureOfSearchPrints}
use Rattle.cli_steps.specs.declared.found.FoundPath.{FoundPath}
use Rattle.cli_steps.specs.declared.policy_verdict.PolicyVerdict.{PolicyVerdict}

-- ---- answers

-- the line of a verdict that is asked for, and its status
abbrev pub IsVerdictText : (Verdict → Type 0) → ℕ → List ℕ → Type 0
IsVerdictText Is status text =
    (verdict : Verdict) × Is verdict × (status ≡ verdict_status verdict) × (text ≡ verdict_line verdict)

-- the lines of a verdict with policies, and its status
abbrev pub IsPolicyVerdictText : (PolicyVerdict → Type 0) → ℕ → List ℕ → Type 0
IsPolicyVerdictText Is status text =
    (told : PolicyVerdict) × Is told × (status ≡ verdict_status told.verdict) × (text ≡ told.lines.items)

-- the line of a delivery that was made
abbrev pub IsCountsText : (Counts → Type 0) → List ℕ → Type 0
IsCountsText Is text = (counts : Counts) × Is counts × (text ≡ counts_line counts)

-- the line and the status of a comparison
abbrev pub IsComparisonText : (Comparison → Type 0) → ℕ → List ℕ → Type 0
IsComparisonText Is status text =
    (comparison : Comparison) × Is comparison × (status ≡ comparison_status comparison)
    × (text ≡ comparison_line comparison)

-- the lines of what is found, and the status that says it
abbrev pub IsFoundText : (FoundPath → Type 0) → ℕ → List ℕ → Type 0
IsFoundText Is status text =
    (answer : FoundPath) × Is answer × (status ≡ search_status answer.verdict) × (text ≡ found_text answer)

-- what the program's table of entries says of the topic, which it knows
abbrev pub IsExplanation : List (List ℕ) → List ℕ → Type 0
IsExplanation words text =
    (entries : List ℕ) × IsTrue (is_known entries words) × (text ≡ explanation entries words)

-- the table has nothing on the topic
abbrev pub IsNoTopic : List (List ℕ) → Failure → Type 0
IsNoTopic words failure = (failure ≡ BadTopic) × ((entries : List ℕ) × (is_known entries words ≡ false))

-- or there is an explanation, and standard output failed behind a front of it
abbrev pub FailsToExplain : List (List ℕ) → Option (List ℕ) → Option (List ℕ) → Failure → Type 0
FailsToExplain words = FailsOrCuts (IsNoTopic words) (IsExplanation words)

-- The text that the line asks for, and the status that comes with it. Files hold so, and stores stand and are left so. A session has no
-- such text: it writes as it reads.
abbrev pub IsAnswer : HostState → Line → ℕ → List ℕ → Type 0
IsAnswer host (Tree file) status text =
    (status ≡ 0) × IsTreeText host.holds file.now text
IsAnswer host (Show kind with_details file) status text =
    (status ≡ 0) × IsShownText host.holds kind with_details file.now text
IsAnswer host (Prints issuer kind with_parts file) status text =
    (status ≡ 0) × ArePrintsUnder host.holds issuer.now kind with_parts file.now text
IsAnswer host (SearchPrints issuers among with_parts file) status text =
    (status ≡ 0) × AreSearchPrints host.holds (issuers.now ∷ []) (map (λ w. w.now) among.items) with_parts file.now text
IsAnswer host (Deliver store verdicts issuer file) status text =
    (status ≡ 0)
    × IsCountsText
    (IsDelivered host (record { store = store; verdicts = verdicts; issuer = issuer; file = file }))
    text
IsAnswer host (Check store verdicts query) status text =
    IsVerdictText (IsChecked host store.now verdicts.now (seen_words query)) status text
IsAnswer host (CheckWithPolicies store verdicts query policies) status text =
    IsPolicyVerdictText
    (IsCheckedWithPolicies host store.now verdicts.now (seen_words query) (seen_policy_words policies))
    status text
IsAnswer host (Compare store other verdicts query) status text =
    IsComparisonText
    (IsCompared host (record { store = store; other = other }) verdicts.now (seen_words query))
    status text
IsAnswer host (Find store verdicts search) status text =
    IsFoundText (IsSearched host store.now verdicts.now (seen_search_words search)) status text
IsAnswer host (Listing store moment) status text =
    (status ≡ 0) × IsListed host.at store.now (given moment) text
IsAnswer host (Explain words) status text =
    (status ≡ 0) × IsExplanation (map (λ w. w.now) words.items) text
IsAnswer host (Session store verdicts) status text = ⊥

-- that text was written, and nothing else; or a session has ended that was not cut short
abbrev pub IsDone : HostState → Line → Streams → ℕ → Type 0
IsDone host (Session store verdicts) run status =
    (status ≡ 0) × IsWholeSession host (record { store = store; verdicts = verdicts }) run
IsDone host line run status =
    (text : List ℕ) × IsAnswer host line status text × Appends run.output run.written text

-- ---- failures

-- the first failure on what the line names; or what it asks for was found, and standard output failed behind a front of it
abbrev pub IsLineFailure : HostState → Line → Streams → Failure → Type 0
IsLineFailure host (Tree file) run =
    FailsOrCuts (IsNoValue host.holds file.now) (IsTreeText host.holds file.now) run.output run.written
IsLineFailure host (Show kind with_details file) run =
    FailsOrCuts (IsNotShown host.holds kind file.now) (IsShownText host.holds kind with_details file.now)
    run.output run.written
IsLineFailure host (Prints issuer kind with_parts file) run =
    FailsOrCuts (IsFailureOfPrints host.holds issuer.now kind file.now)
    (ArePrintsUnder host.holds issuer.now kind with_parts file.now) run.output run.written
IsLineFailure host (SearchPrints issuers among with_parts file) run =
    FailsOrCuts (IsFailureOfSearchPrints host.holds (issuers.now ∷ []) (map (λ w. w.now) among.items) file.now)
    (AreSearchPrints host.holds (issuers.now ∷ []) (map (λ w. w.now) among.items) with_parts file.now)
    run.output run.written
IsLineFailure host (Deliver store verdicts issuer file) run =
    FailsToDeliver host
    (record { store = store; verdicts = verdicts; issuer = issuer; file = file })
    run.output run.written
IsLineFailure host (Check store verdicts query) run =
    FailsToCheck host store.now verdicts.now (seen_words query) run.output run.written
IsLineFailure host (CheckWithPolicies store verdicts query policies) run =
    FailsToCheckPolicies host store.now verdicts.now (seen_words query) (seen_policy_words policies)
    run.output run.written
IsLineFailure host (Compare store other verdicts query) run =
    FailsToCompare host (record { store = store; other = other }) verdicts.now (seen_words query)
    run.output run.written
IsLineFailure host (Find store verdicts search) run =
    FailsToFind host store.now verdicts.now (seen_search_words search) run.output run.written
IsLineFailure host (Listing store moment) run =
    FailsToList host.at store.now (given moment) run.output run.written
IsLineFailure host (Explain words) run =
    FailsToExplain (map (λ w. w.now) words.items) run.output run.written
IsLineFailure host (Session store verdicts) run =
    FailsInSession host (record { store = store; verdicts = verdicts }) run

-- ---- words

abbrev pub IsHelp : ErrorKind → Type 0
IsHelp kind = (kind ≡ DisplayHelp) ⊎ (kind ≡ DisplayVersion)

-- it is what is wrong with the words
abbrev pub IsMistake : ErrorKind → Type 0
IsMistake kind = (kind ≢ OutOfMemory) × (IsHelp kind → ⊥)

-- ---- a run

-- what the words ask for was written, or they ask for help
abbrev pub HasAnswered : HostState → List Text → Streams → ℕ → Type 0
HasAnswered host words run status =
    ((line : Line) × ReadsLine words line × IsDone host line run status)
    ⊎ ((kind : ErrorKind) × AreRefusedWith words kind × IsHelp kind × (status ≡ 0))

-- The words are a line, and this failed; or memory ran out while they were read, or the text of help could not be written.
abbrev pub HasFailed : HostState → List Text → Streams → Failure → Type 0
HasFailed host words run failure =
    ((line : Line) × ReadsLine words line × IsLineFailure host line run failure)
    ⊎ (failure ≡ NoMemory)
    ⊎ ((kind : ErrorKind) × AreRefusedWith words kind × IsHelp kind × (failure ≡ Unwritable))

-- something is wrong with the words
abbrev pub AreMistaken : List Text → Type 0
AreMistaken words = (kind : ErrorKind) × AreRefusedWith words kind × IsMistake kind
