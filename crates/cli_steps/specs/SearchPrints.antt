-- What a verifier may be asked in a search, in print.
use Rattle.std.specs.Prelude.{◌≡◌, ◌⊎◌, ℕ, List, [], None, Bool}
use Rattle.std.specs.List.{AllPairs, flat_map}
use Rattle.path_issuers.specs.Links.{certificate_at}
use Rattle.path_issuers.specs.Questions.{AreSearchQuestions, IsAskedBefore, issuer_at}
use Rattle.path_issuers.specs.Search.{Search}
use Rattle.path_issuers.specs.declared.question.SearchQuestion.{SearchQuestion}
use Rattle.cli_failures.specs.Failures.{Holding}
use Rattle.cli_failures.specs.declared.failure.Failure.{Failure}
use Rattle.cli_failures.specs.declared.failure.Failure.TheVariants.{NoMemory}
use Rattle.cli_operands.specs.Searching.{HoldSearched, IsFailureOfSearched}
use Rattle.cli_words.specs.SearchTexts.{SearchTexts}
use Rattle.cli_printing.specs.FingerprintText.{certificate_print_line}

-- the line of a question: whether the issuer's key accepts the signature of the certificate
abbrev pub question_text : Bool → Search → SearchQuestion → List ℕ
question_text with_parts s question =
    certificate_print_line with_parts (issuer_at s question.issuer).key_info (certificate_at s question.certificate)

-- the lines of all questions of a search, in their order
pub record AreSearchLines (s : Search) (with_parts : Bool) (text : List ℕ) : Type 0 where
  pub questions : List SearchQuestion
  pub are : AreSearchQuestions s questions
  pub order : AllPairs IsAskedBefore questions
  pub text_is : text ≡ flat_map (question_text with_parts s) questions

-- A search among the certificates of these files. The questions do not depend on more.
abbrev pub files_asked : List (List ℕ) → List (List ℕ) → List ℕ → SearchTexts
files_asked anchors among target = record {
  moment = [];
  purpose = None;
  name = None;
  anchors = anchors;
  among = among;
  target = target;
}

-- those of the search among the certificates that the files hold: the anchors', those of the others, and the target's
abbrev pub AreSearchPrints : Holding → List (List ℕ) → List (List ℕ) → Bool → List ℕ → List ℕ → Type 0
AreSearchPrints holds issuers among with_parts file text =
    (s : Search) × HoldSearched holds (files_asked issuers among file) s × AreSearchLines s with_parts text

-- what is wrong with the files, the first of it; or memory ran out
abbrev pub IsFailureOfSearchPrints : Holding → List (List ℕ) → List (List ℕ) → List ℕ → Failure → Type 0
IsFailureOfSearchPrints holds issuers among file failure =
    IsFailureOfSearched holds (files_asked issuers among file) failure ⊎ (failure ≡ NoMemory)
