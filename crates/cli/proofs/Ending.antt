-- How a run of a line ends, from what it did.
use Rattle.std.proofs.Common.{◌≡◌, ◌⊎◌, inl, inr, refl, sym, subst, ℕ, List, Option, Result, Ok, Err, IfErr, IfOk}
use Rattle.std.specs.Global.{Vec}
use Rattle.std.specs.Io.KnownBytes.{Appends, Keeps}
use Rattle.std.proofs.KnownBytes.{Appends-kept}
use Rattle.clap.specs.Words.{Text}
use Rattle.cli_words.specs.CommandLine.{ReadsLine}
use Rattle.cli_words.specs.declared.line.Line.{Line}
use Rattle.cli_words.specs.declared.line.Line.TheVariants.{Tree, Show, Prints, SearchPrints, Deliver, Check, CheckWithPolicies, Compare, Find, List as Listing, Explain, Session}
use Rattle.cli_answers.proofs.Laws.{whole}
use Rattle.cli_failures.specs.Report.{UnlessLate, report_line, exit_status}
use Rattle.cli_failures.specs.declared.failure.Failure.{Failure}
use Rattle.cli_failures.specs.declared.failure.Failure.TheVariants.{Unwritable}
use Rattle.cli.specs.Host.{HostState}
use Rattle.cli.specs.Outcome.{HasAnswered, IsDone, IsLineFailure}
use Rattle.cli.specs.Ended.{EndedAs, HasEndedSo, RunHasEnded, IsAnswering, IsFailing}
use Rattle.cli.specs.Streams.{FailsOrCuts, FailsToWrite, Streams, WritesAll}
use Rattle.cli.proofs.Serving.{whole_kept}
use Rattle.cli.proofs.Statuses.{is_failing, not_both}

pub either : (result : Result ℕ Failure) (ended : ℕ) (same : Type 0) (Told : List ℕ → Type 0) → IfOk result IsAnswering
    → IfOk result (λ status. (ended ≡ status) × same) → IfErr result (λ failure. (ended ≡ exit_status failure) × Told (report_line failure))
    → IsAnswering ended ⊎ IsFailing ended
either (Ok status) ended same Told is done failed = inl (subst IsAnswering (sym done.0) is)
either (Err failure) ended same Told is done failed = inr (subst IsFailing (sym failed.0) (is_failing failure))

pub answered : (host : HostState) (words : List Text) (line : Line) (run : Streams) (result : Result ℕ Failure) (ended : ℕ) (same : Type 0) (Told : List ℕ → Type 0)
    → ReadsLine words line → IfOk result (IsDone host line run)
    → IfOk result (λ status. (ended ≡ status) × same) → IfErr result (λ failure. (ended ≡ exit_status failure) × Told (report_line failure))
    → IsAnswering ended → HasAnswered host words run ended
answered host words line run (Ok status) ended same Told reads did done failed answers =
    inl (line, reads, subst (IsDone host line run) (sym done.0) did)
answered host words line run (Err failure) ended same Told reads did done failed answers =
    absurd (not_both ended answers (subst IsFailing (sym failed.0) (is_failing failure)))

-- nothing was told
pub silent : (result : Result ℕ Failure) (ended : ℕ) (same : Type 0) (Told : List ℕ → Type 0) → IfOk result (λ status. (ended ≡ status) × same) → IfErr result (λ failure. (ended ≡ exit_status failure) × Told (report_line failure))
    → IsAnswering ended → same
silent (Ok status) ended same Told done failed answers = done.1
silent (Err failure) ended same Told done failed answers = absurd (not_both ended answers (subst IsFailing (sym failed.0) (is_failing failure)))

pub failed : (host : HostState) (words : List Text) (line : Line) (run : Streams) (result : Result ℕ Failure) (ended : ℕ) (same unchanged : Type 0) (Told : List ℕ → Type 0)
    → ReadsLine words line → IfOk result IsAnswering → IfErr result (IsLineFailure host line run) → IfErr result (λ failure. UnlessLate failure unchanged)
    → IfOk result (λ status. (ended ≡ status) × same) → IfErr result (λ failure. (ended ≡ exit_status failure) × Told (report_line failure))
    → IsFailing ended → RunHasEnded host words run unchanged Told ended
failed host words line run (Ok status) ended same unchanged Told reads is fails quiet done told failing =
    absurd (not_both ended (subst IsAnswering (sym done.0) is) failing)
failed host words line run (Err failure) ended same unchanged Told reads is fails quiet done told failing =
    inl (failure, inl (line, reads, fails), told.0, quiet, told.1)

-- ---- the same of a line alone

pub line_answered : (Did : ℕ → Type 0) (result : Result ℕ Failure) (ended : ℕ) (same : Type 0) (Told : List ℕ → Type 0) → IfOk result Did
    → IfOk result (λ status. (ended ≡ status) × same) → IfErr result (λ failure. (ended ≡ exit_status failure) × Told (report_line failure))
    → IsAnswering ended → Did ended
line_answered Did (Ok status) ended same Told did done failed answers = subst Did (sym done.0) did
line_answered Did (Err failure) ended same Told did done failed answers =
    absurd (not_both ended answers (subst IsFailing (sym failed.0) (is_failing failure)))

pub line_failed : (Fails : Failure → Type 0) (result : Result ℕ Failure) (ended : ℕ) (same unchanged : Type 0) (Told : List ℕ → Type 0)
    → IfOk result IsAnswering → IfErr result Fails → IfErr result (λ failure. UnlessLate failure unchanged)
    → IfOk result (λ status. (ended ≡ status) × same) → IfErr result (λ failure. (ended ≡ exit_status failure) × Told (report_line failure))
    → IsFailing ended → EndedAs Fails unchanged ended
line_failed Fails (Ok status) ended same unchanged Told is fails quiet done told failing =
    absurd (not_both ended (subst IsAnswering (sym done.0) is) failing)
line_failed Fails (Err failure) ended same unchanged Told is fails quiet done told failing = (failure, fails, told.0, quiet)

-- so does the run of the words that it is
pub words_ended : (host : HostState) (words : List Text) (line : Line) (run : Streams) (unchanged : Type 0) (ended : ℕ) → ReadsLine words line
    → EndedAs (IsLineFailure host line run) unchanged ended → HasEndedSo host words run unchanged ended
words_ended host words line run unchanged ended reads (failure, fails, is, quiet) = inl (failure, inl (line, reads, fails), is, quiet, tt)

-- ---- texts that are made, and then written

-- what was written is what is asked for
pub text_written : (Is : List ℕ → Type 0) (text : Result (Vec ℕ) Failure) (old new : Option (List ℕ)) → IfOk text (λ made. Is made.items) → WritesAll text old new
    → (written : List ℕ) × Is written × Appends old new written
text_written Is (Ok made) old new is written = (made.items, is, written)
text_written Is (Err failure) old new is written = absurd written

pub text_unwritten : (Is : List ℕ → Type 0) (Fails : Failure → Type 0) (text : Result (Vec ℕ) Failure) (old new : Option (List ℕ)) (failure : Failure) → IfOk text (λ made. Is made.items) → IfErr text Fails
    → FailsToWrite text old new failure → FailsOrCuts Fails Is old new failure
text_unwritten Is Fails (Ok made) old new failure is fails (late, front) = inr (late, (made.items, is, front))
text_unwritten Is Fails (Err why) old new failure is fails (same, keeps) = inl (subst Fails (sym same) fails, keeps)

-- ---- standard output fails behind the text

pub unflushed : (host : HostState) (line : Line) (run : Streams) (after : Option (List ℕ)) (status : ℕ) → Keeps run.written after → IsDone host line run status
    → IsLineFailure host line (record run { written = after }) Unwritable
unflushed host (Tree file) run after status keeps (text, (zero, is), written) = inr (refl, (text, is, whole run.output run.written after text written keeps))
unflushed host (Show kind with_details file) run after status keeps (text, (zero, is), written) = inr (refl, (text, is, whole run.output run.written after text written keeps))
unflushed host (Prints issuer kind with_parts file) run after status keeps (text, (zero, are), written) = inr (refl, (text, are, whole run.output run.written after text written keeps))
unflushed host (SearchPrints issuers among with_parts file) run after status keeps (text, (zero, are), written) = inr (refl, (text, are, whole run.output run.written after text written keeps))
unflushed host (Deliver store verdicts issuer file) run after status keeps (text, (zero, (counts, is, line)), written) =
    inr (refl, (text, (counts, is, line), whole run.output run.written after text written keeps))
unflushed host (Check store verdicts query) run after status keeps (text, (verdict, is, ends, said), written) =
    inr (refl, (text, (verdict, is, said), whole run.output run.written after text written keeps))
unflushed host (CheckWithPolicies store verdicts query policies) run after status keeps (text, (told, is, ends, said), written) =
    inr (refl, (text, (told, is, said), whole run.output run.written after text written keeps))
unflushed host (Compare store other verdicts query) run after status keeps (text, (comparison, is, ends, said), written) =
    inr (refl, (text, (comparison, is, said), whole run.output run.written after text written keeps))
unflushed host (Find store verdicts search) run after status keeps (text, (answer, is, ends, said), written) =
    inr (refl, (text, (answer, is, said), whole run.output run.written after text written keeps))
unflushed host (Listing store moment) run after status keeps (text, (zero, is), written) = inr (refl, (text, is, whole run.output run.written after text written keeps))
unflushed host (Explain words) run after status keeps (text, (zero, is), written) = inr (refl, (text, is, whole run.output run.written after text written keeps))
unflushed host (Session store verdicts) run after status keeps (zero, is) = inr (whole_kept host _ run after keeps is, refl)

-- it does not

pub flushed : (host : HostState) (line : Line) (run : Streams) (after : Option (List ℕ)) (status : ℕ) → Keeps run.written after → IsDone host line run status
    → IsDone host line (record run { written = after }) status
flushed host (Tree file) run after status keeps (text, is, written) = (text, is, Appends-kept run.output run.written after text written keeps)
flushed host (Show kind with_details file) run after status keeps (text, is, written) = (text, is, Appends-kept run.output run.written after text written keeps)
flushed host (Prints issuer kind with_parts file) run after status keeps (text, is, written) = (text, is, Appends-kept run.output run.written after text written keeps)
flushed host (SearchPrints issuers among with_parts file) run after status keeps (text, is, written) = (text, is, Appends-kept run.output run.written after text written keeps)
flushed host (Deliver store verdicts issuer file) run after status keeps (text, is, written) = (text, is, Appends-kept run.output run.written after text written keeps)
flushed host (Check store verdicts query) run after status keeps (text, is, written) = (text, is, Appends-kept run.output run.written after text written keeps)
flushed host (CheckWithPolicies store verdicts query policies) run after status keeps (text, is, written) = (text, is, Appends-kept run.output run.written after text written keeps)
flushed host (Compare store other verdicts query) run after status keeps (text, is, written) = (text, is, Appends-kept run.output run.written after text written keeps)
flushed host (Find store verdicts search) run after status keeps (text, is, written) = (text, is, Appends-kept run.output run.written after text written keeps)
flushed host (Listing store moment) run after status keeps (text, is, written) = (text, is, Appends-kept run.output run.written after text written keeps)
flushed host (Explain words) run after status keeps (text, is, written) = (text, is, Appends-kept run.output run.written after text written keeps)
flushed host (Session store verdicts) run after status keeps (zero, is) = (zero, whole_kept host _ run after keeps is)
