use Rattle.std.proofs.Common.{take}
use Rattle.std.specs.List.{flat_map}
use Rattle.std.specs.Io.KnownBytes.{Appends}
use Rattle.path_issuers.specs.View.{seen_search}
use Rattle.cli_steps.specs.SearchPrints.{question_text}
use Rattle.cli_steps.proofs.asking.write_questions.Given as goal

abbrev pub invariant-each : goal.invariant-each
invariant-each g l =
    Appends (g.W.Write.contents l.initial.writer) (g.W.Write.contents l.writer) (flat_map (question_text l.with_parts (seen_search l.search)) (take l.question-index l.questions))
