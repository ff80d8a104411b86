-- A search among the paths that count, by statements at hand.
use Rattle.std.specs.Prelude.{List, Option}
use Rattle.path.specs.Query.{Accepts}
use Rattle.path_issuers.specs.Search.{Search, Candidate, IsValidCandidate}
use Rattle.path_search.specs.declared.paths.Paths.{Paths}
use Rattle.statements.specs.Statement.{Statement}
use Rattle.relying_search.specs.Finding.{seen_finding}
use Rattle.relying_search.specs.declared.finding.Finding as code
use Rattle.relying_search.specs.declared.finding.FindingBudget.{FindingBudget}
use Rattle.relying_search.specs.Among.{IsFindingAmong}
use Rattle.relying_search.specs.AskedAmong.{AsksAbout, StepsAmong}
use Rattle.relying_search.specs.declared.among_asked.AskedAmong.{AskedAmong}
use Rattle.relying_texts.specs.Texts.{held_for}

-- the finding of the party that began with nothing, and was told these statements
abbrev pub IsFindingAmongByStatements : (Accepts → Search → Candidate → Type 0) → Accepts → List Statement → Search → FindingBudget → code.Finding → Type 0
IsFindingAmongByStatements counts accepts statements s budget finding =
    IsFindingAmong (counts accepts s) accepts (held_for accepts statements) s budget (seen_finding finding)

-- a valid path was asked about
abbrev pub AsksByStatements : (Accepts → Search → Candidate → Type 0) → Accepts → List Statement → Search → AskedAmong → AskedAmong → Candidate → Option code.Finding → Type 0
AsksByStatements counts accepts statements s old new c answer =
    IsValidCandidate accepts s c → AsksAbout (counts accepts s) accepts (held_for accepts statements) s old new c answer

-- the next one was
abbrev pub StepsByStatements : (Accepts → Search → Candidate → Type 0) → Accepts → List Statement → Search → Paths → AskedAmong → Paths → AskedAmong → Option code.Finding → Type 0
StepsByStatements counts accepts statements s paths asked next new answer =
    StepsAmong (counts accepts s) accepts (held_for accepts statements) s paths asked next new answer
