-- Verifiers that answer the same questions alike.
use Rattle.std.specs.Prelude.{◌≡◌, ◌↔◌, ℕ, List, Option, Contains, IsTrue}
use Rattle.path.specs.Query.{Query, Accepts}
use Rattle.path_issuers.specs.Search.{Search}
use Rattle.path_search.specs.WhyNot.{IsWhyNot}
use Rattle.path_search.specs.declared.answer.Budget.{Budget}
use Rattle.path_search.specs.declared.diagnosis.WhyNot.{WhyNot}
use Rattle.path_verifiers.specs.Fingerprint.{fingerprint_of}
use Rattle.relying_agreement.specs.declared.verdict.Verdict.{Verdict}
use Rattle.statements.specs.Statement.{Statement}
use Rattle.relying_search.specs.Finding.{Finding, IsFinding}
use Rattle.relying_search.specs.declared.finding.FindingBudget.{FindingBudget}
use Rattle.relying_texts.specs.Texts.{IsVerdictByStatements, held_for}
use Rattle.relying_questions.specs.FindingQuestions.{AreFindingQuestions}
use Rattle.relying_questions.specs.Questions.{Judgement, answer, questions_of}
use Rattle.relying_questions.specs.Seen.{judgement_print}

-- both answer each of the questions alike
abbrev pub AnswerAlike : Accepts → Accepts → List Judgement → Type 0
AnswerAlike accepts other questions = (asked : Judgement) → Contains questions asked → answer accepts asked ≡ answer other asked

-- Verifiers that answer the questions alike give the same verdict on the path by the statements.
abbrev pub DecideVerdict : List Judgement → Query → List Statement → Type 0
DecideVerdict questions query statements =
    (accepts other : Accepts) → AnswerAlike accepts other questions →
    (verdict : Verdict) → IsVerdictByStatements accepts query statements verdict ↔ IsVerdictByStatements other query statements verdict

-- The questions about a path and statements do so.
abbrev pub QuestionsDecide : Type 0
QuestionsDecide = (query : Query) (statements : List Statement) → DecideVerdict (questions_of query statements) query statements

-- Verifiers that answer the questions alike find the same by the statements, whatever may be spent.
abbrev pub DecideFinding : List Judgement → Search → List Statement → Type 0
DecideFinding questions s statements =
    (accepts other : Accepts) → AnswerAlike accepts other questions →
    (budget : FindingBudget) (finding : Finding) →
    IsFinding accepts (held_for accepts statements) s budget finding ↔ IsFinding other (held_for other statements) s budget finding

-- The questions about a search and statements do so.
abbrev pub FindingQuestionsDecide : Type 0
FindingQuestionsDecide =
    (s : Search) (statements : List Statement) (questions : List Judgement) → AreFindingQuestions s statements questions →
    DecideFinding questions s statements

-- Verifiers that answer the questions about a search alike say the same of why no path is found, whatever may be spent.
abbrev pub DecideWhyNot : List Judgement → Search → Type 0
DecideWhyNot questions s =
    (accepts other : Accepts) → AnswerAlike accepts other questions →
    (budget : Budget) (found : Option WhyNot) → IsWhyNot accepts s budget found ↔ IsWhyNot other s budget found

-- The questions about a search and any statements do so.
abbrev pub WhyNotQuestionsDecide : Type 0
WhyNotQuestionsDecide =
    (s : Search) (statements : List Statement) (questions : List Judgement) → AreFindingQuestions s statements questions → DecideWhyNot questions s

-- ---- by fingerprints

-- exactly those signatures are accepted whose fingerprints are among these
abbrev pub AcceptsPrints : Accepts → List (List ℕ) → Type 0
AcceptsPrints accepts prints =
    (algorithm key message signature : List ℕ) →
    (IsTrue (accepts algorithm key message signature) ↔ Contains prints (fingerprint_of algorithm key message signature))

-- Fingerprints of the questions that a verifier answers by yes, and of no other question, give its verdict.
abbrev pub PrintsDecide : Type 0
PrintsDecide =
    (accepts by_prints : Accepts) (query : Query) (statements : List Statement) (prints : List (List ℕ)) → AcceptsPrints by_prints prints →
    ((asked : Judgement) → Contains (questions_of query statements) asked → (IsTrue (answer accepts asked) ↔ Contains prints (judgement_print asked))) →
    (verdict : Verdict) → IsVerdictByStatements accepts query statements verdict ↔ IsVerdictByStatements by_prints query statements verdict

-- the same of what a search finds
abbrev pub FindingPrintsDecide : Type 0
FindingPrintsDecide =
    (accepts by_prints : Accepts) (s : Search) (statements : List Statement) (questions : List Judgement) (prints : List (List ℕ)) →
    AreFindingQuestions s statements questions → AcceptsPrints by_prints prints →
    ((asked : Judgement) → Contains questions asked → (IsTrue (answer accepts asked) ↔ Contains prints (judgement_print asked))) →
    (budget : FindingBudget) (finding : Finding) →
    IsFinding accepts (held_for accepts statements) s budget finding ↔ IsFinding by_prints (held_for by_prints statements) s budget finding

-- the same of why no path is found
abbrev pub WhyNotPrintsDecide : Type 0
WhyNotPrintsDecide =
    (accepts by_prints : Accepts) (s : Search) (statements : List Statement) (questions : List Judgement) (prints : List (List ℕ)) →
    AreFindingQuestions s statements questions → AcceptsPrints by_prints prints →
    ((asked : Judgement) → Contains questions asked → (IsTrue (answer accepts asked) ↔ Contains prints (judgement_print asked))) →
    (budget : Budget) (found : Option WhyNot) → IsWhyNot accepts s budget found ↔ IsWhyNot by_prints s budget found
