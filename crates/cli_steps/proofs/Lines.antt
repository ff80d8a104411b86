-- Lines and their answers, one more.
use Rattle.std.proofs.Common.{◌≡◌, ◌∙◌, ℕ, false, List, [], ◌∷◌, ◌++◌, Option, Some, None, inr, refl, sym, ap, subst, append-nil}
use Rattle.std.specs.Io.KnownBytes.{Appends}
use Rattle.std.proofs.KnownBytes.{Appends-trans}
use Rattle.std.proofs.lemmas.Grind.{flat_map-append}
use Rattle.cli_failures.specs.Failures.{Holding}
use Rattle.cli_answers.specs.Lines.{GivesLine, IsLineRead}
use Rattle.cli_answers.specs.declared.lines.LineRead.TheVariants.{TooLong}
use Rattle.cli_steps.specs.AnswerText.{answer_text}
use Rattle.cli_steps.specs.State.{SessionState}
use Rattle.cli_steps.specs.declared.answer.SessionAnswer.{SessionAnswer}
use Rattle.cli_steps.specs.declared.answer.SessionAnswer.TheVariants.{LongLine}
use Rattle.cli_steps.specs.Serving.{AreAnswersToLines, GivesLines, GoOn, SessionHasEnded, HasServed, HasServedLast, IsAnswerToLine, IsSame, Known, SaysLong, ServesLine, is_end, text_of}
use Rattle.cli_steps.specs.declared.ending.End.{End}
use Rattle.cli_steps.specs.declared.ending.End.TheVariants as ended

gives_more : (a b c : Option (List ℕ)) (lines : List (List ℕ)) (line : List ℕ) → GivesLines a b lines → GivesLine b c line → GivesLines a c (lines ++ line ∷ [])
gives_more a b c [] line same gives = (c, subst (λ (from : Option (List ℕ)). GivesLine from c line) same gives, refl)
gives_more a b c (first ∷ lines) line (middle, one, more) gives = (middle, one, gives_more middle b c lines line more gives)

answers_more : (holds : Holding) (lines : List (List ℕ)) (answers : List SessionAnswer) (line : List ℕ) (answer : SessionAnswer) (start middle now : SessionState)
    → AreAnswersToLines holds lines answers start middle → IsAnswerToLine holds line middle now answer → AreAnswersToLines holds (lines ++ line ∷ []) (answers ++ answer ∷ []) start now
answers_more holds [] [] line answer start middle now same is = (now, subst (λ (from : SessionState). IsAnswerToLine holds line from now answer) same is, refl)
answers_more holds [] (other ∷ answers) line answer start middle now none is = absurd none
answers_more holds (first ∷ lines) [] line answer start middle now none is = absurd none
answers_more holds (first ∷ lines) (other ∷ answers) line answer start middle now (next, one, more) is =
    (next, one, answers_more holds lines answers line answer next middle now more is)

go_on_more : (answers : List SessionAnswer) (answer : SessionAnswer) → GoOn answers → is_end answer ≡ false → GoOn (answers ++ answer ∷ [])
go_on_more [] answer go_on is = (is, tt)
go_on_more (other ∷ answers) answer (one, more) is = (one, go_on_more answers answer more is)

text_more : (answers : List SessionAnswer) (answer : SessionAnswer) → text_of answers ++ answer_text answer ≡ text_of (answers ++ answer ∷ [])
text_more answers answer = ap (λ (text : List ℕ). text_of answers ++ text) (sym (append-nil (answer_text answer))) ∙ sym (flat_map-append answer_text answers (answer ∷ []))

said_more : (a b c : Option (List ℕ)) (answers : List SessionAnswer) (answer : SessionAnswer) → Appends a b (text_of answers) → Appends b c (answer_text answer) → Appends a c (text_of (answers ++ answer ∷ []))
said_more a b c answers answer before more = subst (Appends a c) (text_more answers answer) (Appends-trans a b c (text_of answers) (answer_text answer) before more)

-- one relation and then another are known, and what is weaker
abbrev pub Follow : Known → Known → Known → Type 1
Follow Before Line Now = (One Other Both : SessionState → SessionState → Type 0) → ((start between now : SessionState) → One start between → Other between now → Both start now) → Before One → Line Other → Now Both

module _ (holds : Holding) (input middle source output said written : Option (List ℕ)) (Before Line Now : Known) (follow : Follow Before Line Now) where
  pub one_more : HasServed holds input middle output said Before → ServesLine holds middle source said written Line None → HasServed holds input source output written Now
  one_more served (line, gives, (answer, says, known, goes)) = record {
    lines = served.lines ++ line ∷ [];
    answers = served.answers ++ answer ∷ [];
    read = gives_more input middle source served.lines line served.read gives;
    said = said_more output said written served.answers answer served.said says;
    go_on = go_on_more served.answers answer served.go_on goes;
    known = follow _ _ _ (answers_more holds served.lines served.answers line answer) served.known known;
  }

  last : (Is : List SessionAnswer → SessionAnswer → Type 0) (served : HasServed holds input middle output said Before) (line : List ℕ) (answer : SessionAnswer) → GivesLine middle source line → Is served.answers answer
      → Line (λ old new. IsAnswerToLine holds line old new answer) → HasServedLast holds input source Now Is
  last Is served line answer gives is known = record {
    lines = served.lines;
    line = line;
    answers = served.answers;
    answer = answer;
    read = gives_more input middle source served.lines line served.read gives;
    go_on = served.go_on;
    last = is;
    known = follow _ _ _ (answers_more holds served.lines served.answers line answer) served.known known;
  }

  unchanged : HasServed holds input middle output said Before → written ≡ said → Line IsSame → HasServed holds input middle output written Now
  unchanged served same known = record {
    lines = served.lines;
    answers = served.answers;
    read = served.read;
    said = subst (λ (to : Option (List ℕ)). Appends output to (text_of served.answers)) (sym same) served.said;
    go_on = served.go_on;
    known = follow _ _ _ (λ start between now are is. subst (λ (to : SessionState). AreAnswersToLines holds served.lines served.answers start to) (sym is) are) served.known known;
  }

  pub ends : (end : End) → HasServed holds input middle output said Before → ServesLine holds middle source said written Line (Some end) → SessionHasEnded holds input source output written Now end
  ends ended.Quit served (line, gives, (answer, says, known, is)) =
      last _ served line answer gives (is, said_more output said written served.answers answer served.said says) known
  ends ended.Finished served (same, known, rest, at_end) = (middle, unchanged served same known, rest, at_end)
  ends ended.Shut served (line, gives, (answer, says, known, is)) =
      last _ served line answer gives (is, said_more output said written served.answers answer served.said says) known
  ends ended.Unwritable served (line, gives, (answer, front, known)) = last _ served line answer gives (said, served.said, front) known
  ends ended.Unreadable served (same, known) = (middle, unchanged served same known)
  ends ended.NoMemory served (line, gives, impossible) = absurd impossible

-- ---- lines that are too long

-- nothing changed, and the line was refused
pub too_long : (holds : Holding) (input source output written : Option (List ℕ)) (Knows : Known) (begun : List ℕ) (end : Option End) → IsLineRead input source begun TooLong → SaysLong output written end
    → ((Are : SessionState → SessionState → Type 0) → ((state : SessionState) → Are state state) → Knows Are) → ServesLine holds input source output written Knows end
too_long holds input source output written Knows begun None (rest, more, gives) says known =
    (begun ++ rest, gives, (LongLine, says, known _ (λ state. inr (more, refl, refl)), refl))
too_long holds input source output written Knows begun (Some end) (rest, more, gives) (is, front) known =
    subst (λ (it : End). ServesLine holds input source output written Knows (Some it)) (sym is) (begun ++ rest, gives, (LongLine, front, known _ (λ state. inr (more, refl, refl))))
