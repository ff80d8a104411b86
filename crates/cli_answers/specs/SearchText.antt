-- What a search answers: its lines, and the exit status that says it.
use Rattle.std.specs.Prelude.{ℕ, List, [], ◌∷◌, ◌++◌, ◌+◌, codes}
use Rattle.std.specs.Fmt.{decimal}
use Rattle.cli_answers.specs.AnswerText.{verdict_line}
use Rattle.cli_answers.specs.Status.{verdict_status}
use Rattle.cli_answers.specs.declared.place_lines.FilePlace.{FilePlace}
use Rattle.cli_answers.specs.declared.search_verdict.SearchVerdict.{SearchVerdict}
use Rattle.cli_answers.specs.declared.search_verdict.SearchVerdict.TheVariants.{Told, OtherName, NotFound, GaveUp}

-- that of the verdict, or 1 for a path that is not the one that is asked for, and 3 where nothing is known
abbrev pub search_status : SearchVerdict → ℕ
search_status (Told verdict) = verdict_status verdict
search_status OtherName = 1
search_status NotFound = 1
search_status GaveUp = 3

abbrev pub search_verdict_line : SearchVerdict → List ℕ
search_verdict_line (Told verdict) = verdict_line verdict
search_verdict_line OtherName = codes "other name\n"
search_verdict_line NotFound = codes "not found\n"
search_verdict_line GaveUp = codes "gave up\n"

-- ---- where the certificates of a path stand

-- the name of a file, and the number of a certificate in it, counted from 1
pub record Place : Type 0 where
  pub file : List ℕ
  pub number : ℕ

abbrev pub seen_place : FilePlace → Place
seen_place place = record { file = place.file.now; number = place.number }

-- `J FILE N`: J is the certificate's number on the path, where 0 is the anchor
abbrev pub place_line : ℕ → Place → List ℕ
place_line index place =
    decimal index ++ codes " " ++ place.file ++ codes " " ++ decimal place.number ++ codes "\n"

-- the lines of places, numbered from a start
abbrev pub path_lines : ℕ → List Place → List ℕ
path_lines start [] = []
path_lines start (place ∷ places) = place_line start place ++ path_lines (start + 1) places
