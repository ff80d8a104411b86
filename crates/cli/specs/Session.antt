-- What a session answers over the store at a path, and why it fails.
use Rattle.std.specs.Prelude.{◌≡◌, ◌⊎◌, ℕ, List, [], ◌∷◌, Option, Some, None, IsTrue}
use Rattle.statements_facts.specs.Statement.{Holdings}
use Rattle.store_maps.specs.Held.{IsStoreOf}
use Rattle.cli_failures.specs.Failures.{Holding, OrUnwritable}
use Rattle.cli_failures.specs.declared.failure.Failure.{Failure}
use Rattle.cli_failures.specs.declared.failure.Failure.TheVariants.{Unwritable, NoMemory, Shut, NoInput}
use Rattle.cli_operands.specs.InOrder.{FailsFirst}
use Rattle.cli_operands.specs.Asked.{HoldsFingerprints, IsFailureOnFingerprints}
use Rattle.cli_steps.specs.Held.{holding_of}
use Rattle.cli_steps.specs.Serving.{SessionHasEnded}
use Rattle.cli_steps.specs.declared.ending.End.{End}
use Rattle.cli_steps.specs.declared.ending.End.TheVariants as ended
use Rattle.cli_steps.specs.State.{SessionState}
use Rattle.cli_store.specs.Standing.{IsFoundOrMade, IsIntact, MakesNoStore, Seen}
use Rattle.cli.specs.Host.{HostState}
use Rattle.cli.specs.Listed.{given}
use Rattle.cli.specs.Streams.{Streams}
use Rattle.cli.specs.declared.sessions.SessionWords.{SessionWords}

-- the fingerprints that are believed in the beginning: those of the file, or none
abbrev pub BelievesAtFirst : Holding → Option (List ℕ) → List (List ℕ) → Type 0
BelievesAtFirst holds None prints = prints ≡ []
BelievesAtFirst holds (Some file) prints = HoldsFingerprints holds file prints

-- the party of the beginning: these are believed, and this is held, also behind a crash
abbrev pub beginning : List (List ℕ) → Holdings → SessionState
beginning prints held =
    record { listed = prints; prints = prints; kept = record { held = held; left = held ∷ [] } }

-- A party has come so far over a store that was seen so in the beginning and in the end, if its disk has returned what was written. The
-- store holds what the party keeps, as long as its connection is open, and what a crash may leave lasts.
abbrev pub HasComeTo : (List Holdings → Type 0) → Seen → Seen → List (List ℕ) → (SessionState → SessionState → Type 0) → Type 0
HasComeTo lasts old new prints Are =
    IsIntact new → (start : Holdings) → IsStoreOf old.now start →
    (now : SessionState) × (IsTrue new.is_open → IsStoreOf new.now now.kept.held)
    × lasts now.kept.left × Are (beginning prints start) now

-- A session over the store at the path, which ended so: by a verifier that believes those fingerprints in the beginning, the lines that
-- standard input gave were answered on standard output, in order, and what one line left the next found.
pub record IsSession (host : HostState) (words : SessionWords) (run : Streams) (end : End) : Type 0 where
  pub prints : List (List ℕ)
  pub begins : BelievesAtFirst host.holds (given words.verdicts) prints
  pub old : Seen
  pub found : IsFoundOrMade host.at words.store.now old
  pub new : Seen
  pub left : host.at.leaves words.store.now new
  pub ended : SessionHasEnded (holding_of host.holds) run.input run.source run.output run.written (HasComeTo (host.at.lasts words.store.now) old new prints) end

-- what a session failed with that was cut short; nothing, if a line asked for its end or the input was at its end
abbrev pub cut_by : End → Option Failure
cut_by ended.Quit = None
cut_by ended.Finished = None
cut_by ended.Shut = Some Shut
cut_by ended.Unwritable = Some Unwritable
cut_by ended.Unreadable = Some NoInput
cut_by ended.NoMemory = Some NoMemory

-- it was not cut short
abbrev pub IsWholeSession : HostState → SessionWords → Streams → Type 0
IsWholeSession host words run = (end : End) × (cut_by end ≡ None) × IsSession host words run end

-- it was, by this
abbrev pub IsCutShort : HostState → SessionWords → Streams → Failure → Type 0
IsCutShort host words run failure = (end : End) × (cut_by end ≡ Some failure) × IsSession host words run end

-- ---- why a session fails

-- the file of verdicts, if there is one
abbrev pub IsFailureOnVerdicts : Holding → Option (List ℕ) → Failure → Type 0
IsFailureOnVerdicts holds None failure = failure ≡ NoMemory
IsFailureOnVerdicts holds (Some file) failure = IsFailureOnFingerprints holds file failure

-- What is wrong, the first of it: the verdicts, and then the store; or the session was cut short.
abbrev pub IsFailureOfSession : HostState → SessionWords → Streams → Failure → Type 0
IsFailureOfSession host words run =
    FailsFirst (IsFailureOnVerdicts host.holds (given words.verdicts))
    ((prints : List (List ℕ)) × BelievesAtFirst host.holds (given words.verdicts) prints)
    (λ failure. MakesNoStore host.at.stands words.store.now failure ⊎ IsCutShort host words run failure)

-- or it was whole, and standard output failed behind it
abbrev pub FailsInSession : HostState → SessionWords → Streams → Failure → Type 0
FailsInSession host words run =
    OrUnwritable (IsFailureOfSession host words run) (IsWholeSession host words run)
