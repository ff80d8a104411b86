-- How a run ends.
use Rattle.std.specs.Prelude.{◌≡◌, ◌⊎◌, ℕ, List, OnOk, Option, map}
use Rattle.std.specs.Borrow.{Bor}
use Rattle.std.specs.Io.KnownBytes.{Appends}
use Rattle.clap.specs.Words.{Text}
use Rattle.cli_failures.specs.Report.{UnlessLate, report_line, exit_status}
use Rattle.cli_failures.specs.declared.failure.Failure.{Failure}
use Rattle.statements_facts.specs.declared.profile.Profile.{Profile}
use Rattle.cli_words.specs.declared.leading.RunOptions.{RunOptions}
use Rattle.clap.specs.declared.error.kind.ErrorKind.{ErrorKind}
use Rattle.cli_failures.specs.declared.failure.Failure.TheVariants.{NoMemory, Unwritable}
use Rattle.cli.specs.Host.{HostState}
use Rattle.cli.specs.Streams.{Streams, streams}
use Rattle.cli.specs.OnMachine.{IsCommandOf}
use Rattle.cli.specs.Outcome.{AreMistaken, HasAnswered, HasFailed, IsHelp, IsMistake}
use Rattle.cli.specs.declared.execution.Ended.{Ended}

-- what the words ask for was done: of a verdict 1 says that the path is invalid, or that none is found to the certificate under its name,
-- 2 that a certificate is revoked, and 3 that nothing current speaks of one, or that a search gave up; 7 says that two verdicts differ
abbrev pub IsAnswering : ℕ → Type 0
IsAnswering status =
    (status ≡ 0) ⊎ (status ≡ 1) ⊎ (status ≡ 2) ⊎ (status ≡ 3) ⊎ (status ≡ 7)

-- refused input, mistaken words, a failed file, store or writer, or memory that ran out
abbrev pub IsFailing : ℕ → Type 0
IsFailing status = (status ≡ 4) ⊎ (status ≡ 5) ⊎ (status ≡ 6)

-- This failed, with its status; standard output is as it was, except for what came before a late failure.
abbrev pub EndedAs : (Failure → Type 0) → Type 0 → ℕ → Type 0
EndedAs HasHappened unchanged status =
    (failure : Failure) × HasHappened failure × (status ≡ exit_status failure) × UnlessLate failure unchanged

-- This failed, with its status, and its line was told; standard output is as it was, except for what came before a late failure. Or the
-- words are mistaken.
abbrev pub RunHasEnded : HostState → List Text → Streams → Type 0 → (List ℕ → Type 0) → ℕ → Type 0
RunHasEnded host words run unchanged Told status =
    ((failure : Failure) × HasFailed host words run failure × (status ≡ exit_status failure)
    × UnlessLate failure unchanged × Told (report_line failure))
    ⊎ (AreMistaken words × (status ≡ 5) × unchanged)

-- whatever was told
abbrev pub HasEndedSo : HostState → List Text → Streams → Type 0 → ℕ → Type 0
HasEndedSo host words run unchanged status =
    RunHasEnded host words run unchanged (λ line. Unit {0}) status

-- an error of clap's in place of a line: memory ran out, help could not be written, or the words are mistaken
abbrev pub IsUnexplained : ErrorKind → Type 0 → (List ℕ → Type 0) → ℕ → Type 0
IsUnexplained kind unchanged Told status =
    ((failure : Failure) × ((failure ≡ NoMemory) ⊎ (IsHelp kind × (failure ≡ Unwritable)))
    × (status ≡ exit_status failure) × UnlessLate failure unchanged × Told (report_line failure))
    ⊎ (IsMistake kind × (status ≡ 5) × unchanged)

-- ---- of words as they are given

-- what they say
abbrev pub texts : List (Bor (List ℕ)) → List Text
texts words = map (λ word. word.now) words

-- if the status is that of an answer, what the words ask for was written
abbrev pub AnswersByStatus : {I O : Type 0} → HostState → List (Bor (List ℕ)) → (I → Option (List ℕ)) → I → I → (O → Option (List ℕ)) → O → O → ℕ → Type 0
AnswersByStatus host words remaining input source contents old new status =
    IsAnswering status →
    HasAnswered host (texts words) (streams remaining input source contents old new) status

-- if it is that of a failure, that has happened
abbrev pub FailsByStatus : {I O : Type 0} → HostState → List (Bor (List ℕ)) → (I → Option (List ℕ)) → I → I → (O → Option (List ℕ)) → O → O → ℕ → Type 0
FailsByStatus host words remaining input source contents old new status =
    IsFailing status →
    HasEndedSo host (texts words) (streams remaining input source contents old new) (new ≡ old) status

-- the same, with the line that was told, if a writer took it
abbrev pub FailsTelling : {I O E : Type 0} → HostState → List (Bor (List ℕ)) → (I → Option (List ℕ)) → I → I → (O → Option (List ℕ)) → O → O → (E → Option (List ℕ)) → E → E → Ended → Type 0
FailsTelling host words remaining input source contents old new told before after ended =
    IsFailing ended.status →
    RunHasEnded host (texts words) (streams remaining input source contents old new) (new ≡ old)
    (λ line. OnOk ended.told (Appends (told before) (told after) line)) ended.status

-- ---- over the system's files, with options for the run in front of the command, which say the profile

abbrev pub AnswersCommand : {I O : Type 0} → (Profile → HostState) → List (Bor (List ℕ)) → (I → Option (List ℕ)) → I → I → (O → Option (List ℕ)) → O → O → ℕ → Type 0
AnswersCommand host words remaining input source contents old new status =
    IsAnswering status →
    (options : RunOptions) × (command : List Text) × IsCommandOf (texts words) options command
    × HasAnswered (host options.profile) command (streams remaining input source contents old new) status

abbrev pub FailsCommand : {I O : Type 0} → (Profile → HostState) → List (Bor (List ℕ)) → (I → Option (List ℕ)) → I → I → (O → Option (List ℕ)) → O → O → ℕ → Type 0
FailsCommand host words remaining input source contents old new status =
    IsFailing status →
    (options : RunOptions) × (command : List Text) × IsCommandOf (texts words) options command
    × HasEndedSo (host options.profile) command (streams remaining input source contents old new) (new ≡ old) status
