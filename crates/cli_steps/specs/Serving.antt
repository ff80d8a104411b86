-- What a session reads and writes, and what becomes of its party.
use Rattle.std.specs.Prelude.{◌≡◌, ◌⊎◌, ◌<◌, ◌≤◌, ◌^◌, ℕ, Bool, true, false, List, [], ◌∷◌, ◌++◌, length, Option, Some, None}
use Rattle.std.specs.List.{AllByRecursion, flat_map}
use Rattle.std.specs.Io.KnownBytes.{Appends, Consumes, IsAtEnd}
use Rattle.cli_failures.specs.Failures.{Holding}
use Rattle.cli_failures.specs.declared.failure.Failure.TheVariants.{NoMemory, StoreFailed}
use Rattle.cli_failures.specs.declared.failure.StoreRefusal.TheVariants as OfStore
use Rattle.cli_answers.specs.Fronts.{TakesFront}
use Rattle.cli_answers.specs.Lines.{GivesLine}
use Rattle.cli_requests.specs.Requests.{Request, request_on}
use Rattle.cli_steps.specs.Held.{holding_of}
use Rattle.cli_steps.specs.AnswerText.{answer_text}
use Rattle.cli_steps.specs.Keeping.{Keeping}
use Rattle.cli_steps.specs.State.{SessionState}
use Rattle.cli_steps.specs.Steps.{IsStep}
use Rattle.cli_steps.specs.Ways.{MovesParty}
use Rattle.cli_steps.specs.declared.answer.SessionAnswer.{SessionAnswer}
use Rattle.cli_steps.specs.declared.answer.SessionAnswer.TheVariants.{BadLine, Ends, Failed, LongLine}
use Rattle.cli_steps.specs.declared.party.Party.{Party}
use Rattle.cli_steps.specs.declared.ending.End.{End}
use Rattle.cli_steps.specs.declared.ending.End.TheVariants as ended

-- ---- one line

-- a request does its step; a line that is none changes nothing
abbrev pub IsAnswerOf : Holding → Option Request → SessionState → SessionState → SessionAnswer → Type 0
IsAnswerOf holds (Some request) old new answer = IsStep holds request old new answer
IsAnswerOf holds None old new answer = (answer ≡ BadLine) × (new ≡ old)

-- memory ran out, and nothing changed
abbrev pub RunsOut : SessionState → SessionState → SessionAnswer → Type 0
RunsOut old new answer = (answer ≡ Failed NoMemory) × (new ≡ old)

-- a line of at most 2^20 octets
abbrev pub IsAnswerWithin : Holding → List ℕ → SessionState → SessionState → SessionAnswer → Type 0
IsAnswerWithin holds line old new answer =
    IsAnswerOf holds (request_on line) old new answer ⊎ RunsOut old new answer

-- What a line, without its line feed, makes of the party, and its answer.
abbrev pub IsAnswerToLine : Holding → List ℕ → SessionState → SessionState → SessionAnswer → Type 0
IsAnswerToLine holds line old new answer =
    ((length line ≤ 2 ^ 20) × IsAnswerWithin holds line old new answer)
    ⊎ ((2 ^ 20 < length line) × (answer ≡ LongLine) × (new ≡ old))

-- ---- lines, one after the other

-- the source gave these lines
abbrev pub GivesLines : Option (List ℕ) → Option (List ℕ) → List (List ℕ) → Type 0
GivesLines old new [] = new ≡ old
GivesLines old new (line ∷ lines) =
    (middle : Option (List ℕ)) × GivesLine old middle line × GivesLines middle new lines

-- each line has its answer, in order, and what one leaves the next finds
abbrev pub AreAnswersToLines : Holding → List (List ℕ) → List SessionAnswer → SessionState → SessionState → Type 0
AreAnswersToLines holds [] [] start now = now ≡ start
AreAnswersToLines holds [] (answer ∷ answers) start now = ⊥
AreAnswersToLines holds (line ∷ lines) [] start now = ⊥
AreAnswersToLines holds (line ∷ lines) (answer ∷ answers) start now =
    (next : SessionState) × IsAnswerToLine holds line start next answer × AreAnswersToLines holds lines answers next now

-- how they are written
abbrev pub text_of : List SessionAnswer → List ℕ
text_of answers = flat_map answer_text answers

-- ---- what comes behind an answer

-- whether a session ends with the answer
abbrev pub is_end : SessionAnswer → Bool
is_end Ends = true
is_end answer = false

-- whether the keeper of the statements refused
abbrev pub is_refusal : SessionAnswer → Bool
is_refusal (Failed (StoreFailed OfStore.Store)) = true
is_refusal answer = false

-- the session goes on after these answers
abbrev pub GoOn : List SessionAnswer → Type 0
GoOn answers = AllByRecursion (λ answer. is_end answer ≡ false) answers

-- What is known of a party: that relations hold between what it believed and held before, and what it believes and holds now.
abbrev pub Known : Type 1
Known = (SessionState → SessionState → Type 0) → Type 0

-- nothing changed
abbrev pub IsSame : SessionState → SessionState → Type 0
IsSame old new = new ≡ old

-- ---- sessions

-- Lines were read and answered, and the session goes on.
pub record HasServed (holds : Holding) (input source output written : Option (List ℕ)) (Knows : Known) : Type 0 where
  pub lines : List (List ℕ)
  pub answers : List SessionAnswer
  pub read : GivesLines input source lines
  pub said : Appends output written (text_of answers)
  pub go_on : GoOn answers
  pub known : Knows (λ old new. AreAnswersToLines holds lines answers old new)

-- The same, with a last line and its answer, of which this is so.
pub record HasServedLast (holds : Holding) (input source : Option (List ℕ)) (Knows : Known) (Is : List SessionAnswer → SessionAnswer → Type 0) : Type 0 where
  pub lines : List (List ℕ)
  pub line : List ℕ
  pub answers : List SessionAnswer
  pub answer : SessionAnswer
  pub read : GivesLines input source (lines ++ line ∷ [])
  pub go_on : GoOn answers
  pub last : Is answers answer
  pub known : Knows (λ old new. AreAnswersToLines holds (lines ++ line ∷ []) (answers ++ answer ∷ []) old new)

-- all answers were written, and this is so of the last
abbrev pub SaysAll : (SessionAnswer → Bool) → Option (List ℕ) → Option (List ℕ) → List SessionAnswer → SessionAnswer → Type 0
SaysAll is_so output written answers answer =
    (is_so answer ≡ true) × Appends output written (text_of (answers ++ answer ∷ []))

-- all but the last were written, and of the last a front, which may be nothing
abbrev pub SaysAllButEnd : Option (List ℕ) → Option (List ℕ) → List SessionAnswer → SessionAnswer → Type 0
SaysAllButEnd output written answers answer =
    (middle : Option (List ℕ)) × Appends output middle (text_of answers)
    × TakesFront middle written (answer_text answer)

-- How a session ended, and what is known of its party then. Each line that was read has its answer, also where the session was cut short:
-- behind a line that asks for the end; at the end of the source; behind an answer that the keeper refused; or as the last answer could not
-- be written, or the source could not be read.
abbrev pub SessionHasEnded : Holding → Option (List ℕ) → Option (List ℕ) → Option (List ℕ) → Option (List ℕ) → Known → End → Type 0
SessionHasEnded holds input source output written Knows ended.Quit =
    HasServedLast holds input source Knows (SaysAll is_end output written)
SessionHasEnded holds input source output written Knows ended.Finished =
    (middle : Option (List ℕ)) × HasServed holds input middle output written Knows
    × Consumes middle source [] × IsAtEnd source
SessionHasEnded holds input source output written Knows ended.Shut =
    HasServedLast holds input source Knows (SaysAll is_refusal output written)
SessionHasEnded holds input source output written Knows ended.Unwritable =
    HasServedLast holds input source Knows (SaysAllButEnd output written)
SessionHasEnded holds input source output written Knows ended.Unreadable =
    (middle : Option (List ℕ)) × HasServed holds input middle output written Knows
SessionHasEnded holds input source output written Knows ended.NoMemory =
    (source ≡ input) × (written ≡ output) × Knows IsSame

-- How a session ended that served a party. Files hold so; what a source has left and what a writer took are seen so.
abbrev pub SessionEnds : {R W K : Type 0} → Holding → (R → Option (List ℕ)) → R → R → (W → Option (List ℕ)) → W → W → (K → Type 0) → (K → Keeping) → Party K → Party K → End → Type 0
SessionEnds holds remaining input source contents output written is_clean keeps old new =
    SessionHasEnded (holding_of holds) (remaining input) (remaining source) (contents output)
    (contents written) (MovesParty is_clean keeps old new)

-- ---- on the way

-- An answer of which this is so was written, and the session goes on or ends so; or a front of it was, and no more could be written.
abbrev pub WritesAnswer : Option (List ℕ) → Option (List ℕ) → Known → (SessionState → SessionState → SessionAnswer → Type 0) → Option End → Type 0
WritesAnswer output written Knows Is None =
    (answer : SessionAnswer) × Appends output written (answer_text answer) × Knows (λ old new. Is old new answer)
    × (is_end answer ≡ false)
WritesAnswer output written Knows Is (Some ended.Quit) =
    (answer : SessionAnswer) × Appends output written (answer_text answer) × Knows (λ old new. Is old new answer)
    × (is_end answer ≡ true)
WritesAnswer output written Knows Is (Some ended.Shut) =
    (answer : SessionAnswer) × Appends output written (answer_text answer) × Knows (λ old new. Is old new answer)
    × (is_refusal answer ≡ true)
WritesAnswer output written Knows Is (Some ended.Unwritable) =
    (answer : SessionAnswer) × TakesFront output written (answer_text answer) × Knows (λ old new. Is old new answer)
WritesAnswer output written Knows Is (Some ended.Finished) = ⊥
WritesAnswer output written Knows Is (Some ended.Unreadable) = ⊥
WritesAnswer output written Knows Is (Some ended.NoMemory) = ⊥

-- the answer to a line that is too long was written, or a front of it
abbrev pub SaysLong : Option (List ℕ) → Option (List ℕ) → Option End → Type 0
SaysLong output written None = Appends output written (answer_text LongLine)
SaysLong output written (Some end) = (end ≡ ended.Unwritable) × TakesFront output written (answer_text LongLine)

-- the answer to a line that was read
abbrev pub AnswersRead : Holding → Option (List ℕ) → Option (List ℕ) → Option (List ℕ) → Option (List ℕ) → Known → Option End → Type 0
AnswersRead holds input source output written Knows end =
    (line : List ℕ) × GivesLine input source line × WritesAnswer output written Knows (IsAnswerToLine holds line) end

-- One line was read and answered; or none was, and nothing changed.
abbrev pub ServesLine : Holding → Option (List ℕ) → Option (List ℕ) → Option (List ℕ) → Option (List ℕ) → Known → Option End → Type 0
ServesLine holds input source output written Knows (Some ended.Finished) =
    (written ≡ output) × Knows IsSame × Consumes input source [] × IsAtEnd source
ServesLine holds input source output written Knows (Some ended.Unreadable) =
    (written ≡ output) × Knows IsSame
ServesLine holds input source output written Knows end =
    AnswersRead holds input source output written Knows end

-- what one line makes of a party, and of a source and a writer that are seen so
abbrev pub ServesPartyLine : {R W K : Type 0} → Holding → (R → Option (List ℕ)) → R → R → (W → Option (List ℕ)) → W → W → (K → Type 0) → (K → Keeping) → Party K → Party K → Option End → Type 0
ServesPartyLine holds remaining input source contents output written is_clean keeps old new =
    ServesLine (holding_of holds) (remaining input) (remaining source) (contents output)
    (contents written) (MovesParty is_clean keeps old new)

-- what comes behind an answer
abbrev pub IsFollowedBy : SessionAnswer → Option End → Type 0
IsFollowedBy answer None = is_end answer ≡ false
IsFollowedBy answer (Some ended.Quit) = is_end answer ≡ true
IsFollowedBy answer (Some ended.Shut) = is_refusal answer ≡ true
IsFollowedBy answer (Some end) = ⊥
