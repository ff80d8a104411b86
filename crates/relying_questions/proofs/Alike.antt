-- Questions that two verifiers answer alike, one after the other.
use Rattle.std.proofs.Common.{◌≡◌, List, [], ◌∷◌, ◌++◌, sym}
use Rattle.std.specs.List.{AllByRecursion}
use Rattle.std.proofs.lemmas.List.Elements.{All-contains_itself, recursion_from_All}
use Rattle.path.specs.Query.{Accepts}
use Rattle.relying_questions.specs.Questions.{Judgement, answer}
use Rattle.relying_questions.specs.Agreement.{AnswerAlike}

abbrev pub Alike : Accepts → Accepts → List Judgement → Type 0
Alike accepts other questions = AllByRecursion (λ asked. answer accepts asked ≡ answer other asked) questions

pub each_alike : (accepts other : Accepts) (questions : List Judgement) → AnswerAlike accepts other questions → Alike accepts other questions
each_alike accepts other questions alike =
    recursion_from_All (λ asked. answer accepts asked ≡ answer other asked) questions
    (λ k d below. alike _ (All-contains_itself questions k d below))

pub turned : (accepts other : Accepts) (questions : List Judgement) → Alike accepts other questions → Alike other accepts questions
turned accepts other [] alike = tt
turned accepts other (asked ∷ questions) alike = (sym alike.0, turned accepts other questions alike.1)

pub before : (accepts other : Accepts) (some more : List Judgement) → Alike accepts other (some ++ more) → Alike accepts other some
before accepts other [] more alike = tt
before accepts other (asked ∷ some) more alike = (alike.0, before accepts other some more alike.1)

pub behind : (accepts other : Accepts) (some more : List Judgement) → Alike accepts other (some ++ more) → Alike accepts other more
behind accepts other [] more alike = alike
behind accepts other (asked ∷ some) more alike = behind accepts other some more alike.1
