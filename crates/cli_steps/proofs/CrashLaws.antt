-- What a crash leaves, line by line.
use Rattle.std.proofs.Common.{◌≡◌, ◌⊎◌, ℕ, List, [], ◌∷◌, Option, Some, None, inl, inr, refl, sym, subst, ap}
use Rattle.std.specs.List.{AllByRecursion}
use Rattle.path.specs.Query.{Accepts}
use Rattle.statements_facts.specs.Fact.{Fact}
use Rattle.statements_facts.specs.Statement.{Holdings}
use Rattle.cli_failures.specs.Failures.{Holding}
use Rattle.cli_failures.specs.declared.failure.Failure.{Failure}
use Rattle.cli_operands.specs.Asked.{AcceptsJust}
use Rattle.cli_requests.specs.Requests.{Request, nothing, believe, deliver, check, check_with_policies, find, prints, search_prints, list, forget, quit, request_on}
use Rattle.cli_steps.specs.Keeping.{Kept, taking, trying}
use Rattle.cli_steps.specs.State.{SessionState, believing, forgetting, keeping}
use Rattle.cli_steps.specs.Steps.{BelievesMore, DeliversFile, IsUndelivered, IsStep}
use Rattle.cli_steps.specs.declared.answer.SessionAnswer.{SessionAnswer}
use Rattle.cli_steps.specs.declared.answer.SessionAnswer.TheVariants.{Nothing, Believes, Forgets, Ends, Delivered, Told, ToldWithPolicies, Found, Prints, Listed, Failed, BadLine, LongLine}
use Rattle.cli_steps.specs.Crash.{CrashLosesNothing, FailsToDeliverThem, IsHeldOrMore, LosesNothing, SomeFailsToDeliverThem}
use Rattle.cli_steps.specs.Serving.{AreAnswersToLines, IsAnswerOf, IsAnswerToLine, IsAnswerWithin}

-- what may be more is of a wider kind
held_or_wider : (One Other : List Fact → Type 0) → ((facts : List Fact) → One facts → Other facts) → (held left : Holdings) → IsHeldOrMore One held left → IsHeldOrMore Other held left
held_or_wider One Other so held left (inl is) = inl is
held_or_wider One Other so held left (inr (facts, one, is)) = inr (facts, so facts one, is)

all_wider : (One Other : List Fact → Type 0) → ((facts : List Fact) → One facts → Other facts) → (held : Holdings) (left : List Holdings) → AllByRecursion (IsHeldOrMore One held) left → AllByRecursion (IsHeldOrMore Other held) left
all_wider One Other so held [] all = tt
all_wider One Other so held (first ∷ left) (here, others) = (held_or_wider One Other so held first here, all_wider One Other so held left others)

wider : (One Other : List Fact → Type 0) → ((facts : List Fact) → One facts → Other facts) → (kept : Kept) → LosesNothing One kept → LosesNothing Other kept
wider One Other so kept all = all_wider One Other so kept.held kept.left all

-- ---- one line

module _ (holds : Holding) (Before : List Fact → Type 0) (line : List ℕ) (old : SessionState) (answer : SessionAnswer) where
  abbrev Then : List Fact → Type 0
  Then facts = Before facts ⊎ FailsToDeliverThem holds line old answer facts

  same : (kept : Kept) → kept ≡ old.kept → LosesNothing Before old.kept → LosesNothing Then kept
  same kept is so = wider Before Then (λ facts before. inl before) kept (subst (LosesNothing Before) (sym is) so)

  unchanged : (new : SessionState) → new ≡ old → LosesNothing Before old.kept → LosesNothing Then new.kept
  unchanged new is so = same new.kept (ap (λ (state : SessionState). state.kept) is) so

  taken : (facts : List Fact) (new : SessionState) → new ≡ keeping (taking facts old.kept) old → LosesNothing Then new.kept
  taken facts new is = subst (λ (state : SessionState). LosesNothing Then state.kept) (sym is) (inl refl, tt)

  tried : (facts : List Fact) (kept : Kept) → kept ≡ trying facts old.kept → FailsToDeliverThem holds line old answer facts → LosesNothing Before old.kept → LosesNothing Then kept
  tried facts kept is fails so =
      subst (LosesNothing Then) (sym is) (inr (facts, inr fails, refl), wider Before Then (λ facts before. inl before) old.kept so)

-- ---- requests

failed : (holds : Holding) (Before : List Fact → Type 0) (line : List ℕ) (accepts : Accepts) (issuer file : List ℕ) (old : SessionState) (kept : Kept) (failure : Failure)
    → request_on line ≡ Some (deliver issuer file) → AcceptsJust old.prints accepts → IsUndelivered holds accepts issuer file old.kept kept failure
    → LosesNothing Before old.kept → LosesNothing (Then holds Before line old (Failed failure)) kept
failed holds Before line accepts issuer file old kept failure asks believes (inl (refused, is)) so = same holds Before line old (Failed failure) kept is so
failed holds Before line accepts issuer file old kept failure asks believes (inr (facts, says, why, is)) so =
    tried holds Before line old (Failed failure) facts kept is
    (record { issuer = issuer; file = file; asks = asks; accepts = accepts; believes = believes; says = says; failure = failure; answered = refl; failed = why })
    so

delivers : (holds : Holding) (Before : List Fact → Type 0) (line : List ℕ) (issuer file : List ℕ) (old new : SessionState) (answer : SessionAnswer) → request_on line ≡ Some (deliver issuer file)
    → DeliversFile holds issuer file old new answer → LosesNothing Before old.kept → LosesNothing (Then holds Before line old answer) new.kept
delivers holds Before line issuer file old new (Delivered counts) asks (accepts, just, (facts, says, are, is)) so = taken holds Before line old (Delivered counts) facts new is
delivers holds Before line issuer file old new (Failed failure) asks (accepts, just, (kept, fails, is)) so =
    subst (λ (state : SessionState). LosesNothing (Then holds Before line old (Failed failure)) state.kept) (sym is)
    (failed holds Before line accepts issuer file old kept failure asks just fails so)
delivers holds Before line issuer file old new Nothing asks none so = absurd none
delivers holds Before line issuer file old new Believes asks none so = absurd none
delivers holds Before line issuer file old new Forgets asks none so = absurd none
delivers holds Before line issuer file old new Ends asks none so = absurd none
delivers holds Before line issuer file old new (Told verdict) asks none so = absurd none
delivers holds Before line issuer file old new (ToldWithPolicies verdict) asks none so = absurd none
delivers holds Before line issuer file old new (Found path) asks none so = absurd none
delivers holds Before line issuer file old new (Prints text) asks none so = absurd none
delivers holds Before line issuer file old new (Listed text) asks none so = absurd none
delivers holds Before line issuer file old new BadLine asks none so = absurd none
delivers holds Before line issuer file old new LongLine asks none so = absurd none

-- a request that keeps what is kept
keeps_it : (print : List ℕ) (old new : SessionState) (answer : SessionAnswer) → BelievesMore print old new answer → new.kept ≡ old.kept
keeps_it print old new Believes is = ap (λ (state : SessionState). state.kept) is
keeps_it print old new (Failed failure) (why, is) = ap (λ (state : SessionState). state.kept) is
keeps_it print old new (Delivered counts) none = absurd none
keeps_it print old new Nothing none = absurd none
keeps_it print old new Forgets none = absurd none
keeps_it print old new Ends none = absurd none
keeps_it print old new (Told verdict) none = absurd none
keeps_it print old new (ToldWithPolicies verdict) none = absurd none
keeps_it print old new (Found path) none = absurd none
keeps_it print old new (Prints text) none = absurd none
keeps_it print old new (Listed text) none = absurd none
keeps_it print old new BadLine none = absurd none
keeps_it print old new LongLine none = absurd none

step : (holds : Holding) (Before : List Fact → Type 0) (line : List ℕ) (request : Request) (old new : SessionState) (answer : SessionAnswer) → request_on line ≡ Some request
    → IsStep holds request old new answer → LosesNothing Before old.kept → LosesNothing (Then holds Before line old answer) new.kept
step holds Before line nothing old new answer asks (answered, is) so = unchanged holds Before line old answer new is so
step holds Before line (believe print) old new answer asks is so = same holds Before line old answer new.kept (keeps_it print old new answer is) so
step holds Before line (deliver issuer file) old new answer asks is so = delivers holds Before line issuer file old new answer asks is so
step holds Before line (check path) old new answer asks (told, is) so = unchanged holds Before line old answer new is so
step holds Before line (check_with_policies path policies) old new answer asks (told, is) so = unchanged holds Before line old answer new is so
step holds Before line (find texts) old new answer asks (told, is) so = unchanged holds Before line old answer new is so
step holds Before line (search_prints with_parts files) old new answer asks (told, is) so = unchanged holds Before line old answer new is so
step holds Before line (prints kind with_parts issuer file) old new answer asks (told, is) so = unchanged holds Before line old answer new is so
step holds Before line (list moment) old new answer asks (told, is) so = unchanged holds Before line old answer new is so
step holds Before line forget old new answer asks (answered, is) so = same holds Before line old answer new.kept (ap (λ (state : SessionState). state.kept) is) so
step holds Before line quit old new answer asks (answered, is) so = unchanged holds Before line old answer new is so

-- ---- lines

asked : (holds : Holding) (Before : List Fact → Type 0) (line : List ℕ) (request : Option Request) (old new : SessionState) (answer : SessionAnswer) → request_on line ≡ request
    → IsAnswerOf holds request old new answer → LosesNothing Before old.kept → LosesNothing (Then holds Before line old answer) new.kept
asked holds Before line (Some request) old new answer asks is so = step holds Before line request old new answer asks is so
asked holds Before line None old new answer asks (answered, is) so = unchanged holds Before line old answer new is so

within : (holds : Holding) (Before : List Fact → Type 0) (line : List ℕ) (old new : SessionState) (answer : SessionAnswer) → IsAnswerWithin holds line old new answer
    → LosesNothing Before old.kept → LosesNothing (Then holds Before line old answer) new.kept
within holds Before line old new answer (inl is) so = asked holds Before line (request_on line) old new answer refl is so
within holds Before line old new answer (inr (answered, is)) so = unchanged holds Before line old answer new is so

answered_to : (holds : Holding) (Before : List Fact → Type 0) (line : List ℕ) (old new : SessionState) (answer : SessionAnswer) → IsAnswerToLine holds line old new answer
    → LosesNothing Before old.kept → LosesNothing (Then holds Before line old answer) new.kept
answered_to holds Before line old new answer (inl (short, is)) so = within holds Before line old new answer is so
answered_to holds Before line old new answer (inr (long, answered, is)) so = unchanged holds Before line old answer new is so

-- what may be more behind the lines, behind the first of them or the others
either : (holds : Holding) (Before : List Fact → Type 0) (line : List ℕ) (lines : List (List ℕ)) (answer : SessionAnswer) (answers : List SessionAnswer) (start next : SessionState) → IsAnswerToLine holds line start next answer
    → (facts : List Fact) → Then holds Before line start answer facts ⊎ SomeFailsToDeliverThem holds lines answers next facts
    → Before facts ⊎ SomeFailsToDeliverThem holds (line ∷ lines) (answer ∷ answers) start facts
either holds Before line lines answer answers start next is facts (inl (inl before)) = inl before
either holds Before line lines answer answers start next is facts (inl (inr here)) = inr (inl here)
either holds Before line lines answer answers start next is facts (inr later) = inr (inr (next, is, later))

loses_nothing_since : (holds : Holding) (Before : List Fact → Type 0) (lines : List (List ℕ)) (answers : List SessionAnswer) (start now : SessionState) → LosesNothing Before start.kept
    → AreAnswersToLines holds lines answers start now → LosesNothing (λ facts. Before facts ⊎ SomeFailsToDeliverThem holds lines answers start facts) now.kept
loses_nothing_since holds Before [] [] start now so is =
    wider Before _ (λ facts before. inl before) now.kept (subst (λ (state : SessionState). LosesNothing Before state.kept) (sym is) so)
loses_nothing_since holds Before [] (answer ∷ answers) start now so none = absurd none
loses_nothing_since holds Before (line ∷ lines) [] start now so none = absurd none
loses_nothing_since holds Before (line ∷ lines) (answer ∷ answers) start now so (next, first, others) =
    wider _ _ (either holds Before line lines answer answers start next first) now.kept
    (loses_nothing_since holds (Then holds Before line start answer) lines answers next now (answered_to holds Before line start next answer first so) others)

-- nothing failed before
none_before : (Then : List Fact → Type 0) (facts : List Fact) → ⊥ ⊎ Then facts → Then facts
none_before Then facts (inl impossible) = absurd impossible
none_before Then facts (inr later) = later

pub loses_nothing : (holds : Holding) → CrashLosesNothing holds
loses_nothing holds lines answers start now just are =
    wider _ _ (none_before (SomeFailsToDeliverThem holds lines answers start)) now.kept
    (loses_nothing_since holds (λ facts. ⊥) lines answers start now (subst (AllByRecursion (IsHeldOrMore (λ facts. ⊥) start.kept.held)) (sym just) (inl refl, tt)) are)
