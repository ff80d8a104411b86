-- How a run ends for which clap has no line.
use Rattle.std.proofs.Common.{◌≡◌, ◌⊎◌, inl, inr, refl, ℕ, List}
use Rattle.clap.specs.Words.{Text}
use Rattle.clap.specs.declared.error.kind.ErrorKind.{ErrorKind}
use Rattle.clap.specs.declared.error.kind.ErrorKind.TheVariants.{OutOfMemory}
use Rattle.cli_words.specs.CommandLine.{AreRefusedWith}
use Rattle.cli_failures.specs.declared.failure.Failure.TheVariants.{NoMemory, Unwritable}
use Rattle.cli_failures.specs.Report.{report_line, exit_status}
use Rattle.cli.specs.Host.{HostState}
use Rattle.cli.specs.Outcome.{HasAnswered, IsHelp, IsMistake}
use Rattle.cli.specs.Ended.{RunHasEnded, IsAnswering, IsFailing, IsUnexplained}
use Rattle.cli.specs.Streams.{Streams}
use Rattle.cli.proofs.Statuses.{not_both}

no_memory : (kind : ErrorKind) → IsHelp kind → kind ≡ OutOfMemory → ⊥
no_memory kind (inl is) said = absurd cc
no_memory kind (inr is) said = absurd cc

refused_help : (words : List Text) (kind : ErrorKind) → (kind ≡ OutOfMemory) ⊎ AreRefusedWith words kind → IsHelp kind → AreRefusedWith words kind
refused_help words kind (inl memory) help = absurd (no_memory kind help memory)
refused_help words kind (inr refused) help = refused

refused_mistake : (words : List Text) (kind : ErrorKind) → (kind ≡ OutOfMemory) ⊎ AreRefusedWith words kind → IsMistake kind → AreRefusedWith words kind
refused_mistake words kind (inl memory) mistake = absurd (mistake.0 memory)
refused_mistake words kind (inr refused) mistake = refused

pub either : (status : ℕ) → (status ≡ 0) ⊎ IsFailing status → IsAnswering status ⊎ IsFailing status
either status (inl done) = inl (inl done)
either status (inr fails) = inr fails

pub helped : (host : HostState) (words : List Text) (kind : ErrorKind) (run : Streams) (status : ℕ) (same : Type 0)
    → (kind ≡ OutOfMemory) ⊎ AreRefusedWith words kind → (status ≡ 0) ⊎ IsFailing status → (status ≡ 0 → IsHelp kind × same)
    → IsAnswering status → HasAnswered host words run status
helped host words kind run status same refused (inl done) help answers =
    inr (kind, refused_help words kind refused (help done).0, (help done).0, done)
helped host words kind run status same refused (inr fails) help answers = absurd (not_both status answers fails)

pub silent : (kind : ErrorKind) (status : ℕ) (same : Type 0) → (status ≡ 0) ⊎ IsFailing status → (status ≡ 0 → IsHelp kind × same) → IsAnswering status → same
silent kind status same (inl done) help answers = (help done).1
silent kind status same (inr fails) help answers = absurd (not_both status answers fails)

pub unexplained : (host : HostState) (words : List Text) (kind : ErrorKind) (run : Streams) (status : ℕ) (unchanged : Type 0) (Told : List ℕ → Type 0)
    → (kind ≡ OutOfMemory) ⊎ AreRefusedWith words kind → IsUnexplained kind unchanged Told status → RunHasEnded host words run unchanged Told status
unexplained host words kind run status unchanged Told refused (inl (failure, inl memory, told, quiet, line)) = inl (failure, inr (inl memory), told, quiet, line)
unexplained host words kind run status unchanged Told refused (inl (failure, inr (help, late), told, quiet, line)) =
    inl (failure, inr (inr (kind, refused_help words kind refused help, help, late)), told, quiet, line)
unexplained host words kind run status unchanged Told refused (inr (mistake, told, quiet)) = inr ((kind, refused_mistake words kind refused mistake, mistake), told, quiet)

-- whatever was told
pub untold : (kind : ErrorKind) (unchanged : Type 0) (Told : List ℕ → Type 0) (status : ℕ)
    → IsUnexplained kind unchanged Told status → IsUnexplained kind unchanged (λ line. Unit {0}) status
untold kind unchanged Told status (inl (failure, why, is, quiet, line)) = inl (failure, why, is, quiet, tt)
untold kind unchanged Told status (inr mistake) = inr mistake

-- ---- what clap answers in place of a line

pub late : (kind : ErrorKind) (status : ℕ) (unchanged : Type 0) (Told : List ℕ → Type 0) → IsHelp kind → (status ≡ exit_status Unwritable) × Told (report_line Unwritable)
    → IsUnexplained kind unchanged Told status
late kind status unchanged Told help told = inl (Unwritable, inr (help, refl), told.0, tt, told.1)

pub full : (kind : ErrorKind) (status : ℕ) (unchanged : Type 0) (Told : List ℕ → Type 0) → (status ≡ exit_status NoMemory) × Told (report_line NoMemory)
    → IsUnexplained kind unchanged Told status
full kind status unchanged Told told = inl (NoMemory, inl refl, told.0, tt, told.1)
