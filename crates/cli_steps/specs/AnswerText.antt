-- How answers are written.
use Rattle.std.specs.Prelude.{◌==◌, ◌+◌, ℕ, List, [], ◌++◌, codes, length}
use Rattle.std.specs.Fmt.{decimal}
use Rattle.std.specs.List.{filter}
use Rattle.relying_agreement.specs.declared.verdict.Verdict.{Verdict}
use Rattle.statements_facts.specs.declared.counts.Counts.{Counts}
use Rattle.cli_answers.specs.AnswerText.{counts_line, verdict_line}
use Rattle.cli_answers.specs.SearchText.{search_status}
use Rattle.cli_answers.specs.Status.{verdict_status}
use Rattle.cli_steps.specs.Found.{found_text}
use Rattle.cli_steps.specs.declared.found.FoundPath.{FoundPath}
use Rattle.cli_steps.specs.declared.policy_verdict.PolicyVerdict.{PolicyVerdict}
use Rattle.cli_failures.specs.Report.{exit_status, told_line}
use Rattle.cli_failures.specs.declared.failure.Failure.{Failure}
use Rattle.cli_steps.specs.declared.answer.SessionAnswer.{SessionAnswer}
use Rattle.cli_steps.specs.declared.answer.SessionAnswer.TheVariants.{Nothing, Believes, Forgets, Ends, Delivered, Told, ToldWithPolicies}
use Rattle.cli_steps.specs.declared.answer.SessionAnswer.TheVariants.{Found, Prints, Listed, Failed, BadLine, LongLine}

-- how many lines a text has
abbrev pub feeds_in : List ℕ → ℕ
feeds_in text = length (filter (λ octet. octet == 10) text)

-- `0 N`, and N lines
abbrev pub lines_text : List ℕ → List ℕ
lines_text text = codes "0 " ++ decimal (feeds_in text) ++ codes "\n" ++ text

-- `0 stored A kept B contradicted C`
abbrev pub delivered_text : Counts → List ℕ
delivered_text counts = codes "0 " ++ counts_line counts

-- the status of the verdict, and its line
abbrev pub verdict_answer : Verdict → List ℕ
verdict_answer verdict = decimal (verdict_status verdict) ++ codes " " ++ verdict_line verdict

-- the status of the verdict, the number of lines, and the lines
abbrev pub policy_answer : PolicyVerdict → List ℕ
policy_answer told =
    decimal (verdict_status told.verdict) ++ codes " " ++ decimal (feeds_in told.lines.items) ++ codes "\n"
    ++ told.lines.items

-- the status of the verdict, the number of lines, and the lines: one for each certificate of the path, and that of the verdict
abbrev pub found_answer : FoundPath → List ℕ
found_answer found =
    decimal (search_status found.verdict) ++ codes " " ++ decimal (length found.path.items + 1) ++ codes "\n"
    ++ found_text found

-- the status of the failure, and its line
abbrev pub failed_text : Failure → List ℕ
failed_text failure = decimal (exit_status failure) ++ codes " " ++ told_line failure

abbrev pub answer_text : SessionAnswer → List ℕ
answer_text Nothing = []
answer_text Believes = codes "0 believed\n"
answer_text Forgets = codes "0 forgotten\n"
answer_text Ends = codes "0 ended\n"
answer_text (Delivered counts) = delivered_text counts
answer_text (Told verdict) = verdict_answer verdict
answer_text (ToldWithPolicies told) = policy_answer told
answer_text (Found found) = found_answer found
answer_text (Prints text) = lines_text text.items
answer_text (Listed text) = lines_text text.items
answer_text (Failed failure) = failed_text failure
answer_text BadLine = codes "5 bad line\n"
answer_text LongLine = codes "5 line too long\n"
