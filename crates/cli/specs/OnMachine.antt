-- A run over the system's files and stores, with options in front of the command. No contract says what files hold, but for those of a store
-- as they are opened.
use Rattle.std.specs.Prelude.{◌≡◌, List, ◌++◌, take, drop}
use Rattle.clap.specs.Words.{Text}
use Rattle.cli_words.specs.RunOptions.{TakesOptions}
use Rattle.cli_words.specs.declared.leading.RunOptions.{RunOptions}
use Rattle.cli_failures.specs.Failures.{any_file}
use Rattle.statements_facts.specs.declared.profile.Profile.{Profile}
use Rattle.sqlite_wal.specs.Recovery.{Image}
use Rattle.cli_store.specs.OnFiles.{places_on}
use Rattle.cli.specs.Host.{HostState}

-- The files of a store held this as they were opened. Stores, statements and paths are of one profile.
abbrev pub host_on : Image → Profile → HostState
host_on image profile = record { holds = any_file profile; at = places_on profile image }

-- the words without the options behind the program's name, and what these are
abbrev pub IsCommandOf : List Text → RunOptions → List Text → Type 0
IsCommandOf words options command =
    (left : List Text) × TakesOptions (drop 1 words) options left × (command ≡ take 1 words ++ left)
