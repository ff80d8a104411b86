-- What a call makes of what a keeper holds.
use Rattle.std.specs.Global.{Vec}
use Rattle.std.specs.Prelude.{◌≡◌, ◌⊎◌, ℕ, ℤ, List, [], ◌∷◌, Option, Result, Ok, Err}
use Rattle.path.specs.Query.{Accepts, Query}
use Rattle.path_issuers.specs.Search.{Search}
use Rattle.relying_search.specs.Finding.{FindsHolding}
use Rattle.relying_search.specs.declared.finding.Finding.{Finding}
use Rattle.relying_search.specs.declared.finding.Finding.TheVariants as Of
use Rattle.relying_search.specs.declared.finding.FindingBudget.{FindingBudget}
use Rattle.relying_agreement.specs.Verdict.{IsVerdict}
use Rattle.relying_agreement.specs.declared.verdict.Verdict.{Verdict}
use Rattle.relying_agreement.specs.declared.verdict.Verdict.TheVariants.{Invalid}
use Rattle.statements_facts.specs.Coming.{AreCounts, after_all}
use Rattle.statements_facts.specs.Fact.{Fact}
use Rattle.statements_facts.specs.Statement.{Holdings}
use Rattle.statements_facts.specs.declared.counts.Counts.{Counts}
use Rattle.cli_listing.specs.HeldText.{IsListingOf}
use Rattle.store_listing.specs.Laws.{ListsOnce, ShowsHeld}
use Rattle.store_listing.specs.Listing.{seen_listing}
use Rattle.store_listing.specs.declared.held.Listing.{Listing}
use Rattle.cli_failures.specs.declared.failure.Failure.{Failure}
use Rattle.cli_failures.specs.declared.failure.Failure.TheVariants.{NoMemory, StoreFailed}
use Rattle.cli_failures.specs.declared.failure.StoreRefusal.TheVariants as OfStore

-- What is kept: what is held as long as the connection is open, and what may be found behind a crash at this moment, which is one of
-- these.
pub record Kept : Type 0 where
  pub held : Holdings
  pub left : List Holdings

-- what a keeper keeps: a relation
abbrev pub Keeping : Type 1
Keeping = Kept → Type 0

-- the facts were taken in order, and are there behind a crash
abbrev pub taking : List Fact → Kept → Kept
taking facts kept =
    record { held = after_all kept.held facts; left = after_all kept.held facts ∷ [] }

-- they were not taken; a crash may leave them all the same
abbrev pub trying : List Fact → Kept → Kept
trying facts kept = record { held = kept.held; left = after_all kept.held facts ∷ kept.left }

-- what was kept is kept
abbrev pub Keeps : Keeping → Keeping → Type 0
Keeps old new = (kept : Kept) → old kept → new kept

-- the keeper did not answer: memory ran out, or it refused
abbrev pub IsNotKept : Failure → Type 0
IsNotKept failure = (failure ≡ NoMemory) ⊎ (failure ≡ StoreFailed OfStore.Store)

-- all facts were taken, and counted so; or none was
abbrev pub Takes : Keeping → Keeping → List Fact → Result Counts Failure → Type 0
Takes old new facts (Ok counts) =
    (kept : Kept) → old kept → new (taking facts kept) × AreCounts kept.held facts counts
Takes old new facts (Err failure) =
    (kept : Kept) → old kept → new (trying facts kept) × IsNotKept failure

-- a verdict that the path is invalid, or another that comes from there
abbrev pub IsInvalidOrFrom : Type 0 → Verdict → Type 0
IsInvalidOrFrom is_open (Invalid j reason) = Unit {0}
IsInvalidOrFrom is_open verdict = is_open

-- the verdict by what is held, or none; and nothing changed
abbrev pub AnswersWithVerdict : Keeping → Keeping → Accepts → Query → Result Verdict Failure → Type 0
AnswersWithVerdict old new accepts query (Ok verdict) =
    (kept : Kept) → old kept → new kept × IsVerdict accepts query kept.held verdict
AnswersWithVerdict old new accepts query (Err failure) =
    (kept : Kept) → old kept → new kept × IsNotKept failure

-- a path with its verdict, which comes from there; that no path meets the conditions is so whatever is held
abbrev pub IsNotFoundOrFrom : Type 0 → Finding → Type 0
IsNotFoundOrFrom is_open (Of.Found c verdict) = is_open
IsNotFoundOrFrom is_open Of.NotFound = Unit {0}
IsNotFoundOrFrom is_open Of.GaveUp = Unit {0}

-- what is found by what is held, or nothing is answered; and nothing changed
abbrev pub AnswersWithFinding : Keeping → Keeping → Accepts → Search → FindingBudget → Result Finding Failure → Type 0
AnswersWithFinding old new accepts s budget (Ok finding) =
    (kept : Kept) → old kept → new kept × FindsHolding accepts s budget kept.held finding
AnswersWithFinding old new accepts s budget (Err failure) =
    (kept : Kept) → old kept → new kept × IsNotKept failure

-- a listing that shows what is held, slot by slot, and nothing twice; or none; and nothing changed
abbrev pub AnswersWithListing : Keeping → Keeping → Result Listing Failure → Type 0
AnswersWithListing old new (Ok all) =
    (kept : Kept) → old kept → new kept × ShowsHeld kept.held (seen_listing all) × ListsOnce (seen_listing all)
AnswersWithListing old new (Err failure) =
    (kept : Kept) → old kept → new kept × IsNotKept failure

-- the same in lines
abbrev pub AnswersWithLines : Keeping → Keeping → Option ℤ → Result (Vec ℕ) Failure → Type 0
AnswersWithLines old new at (Ok text) =
    (kept : Kept) → old kept → new kept × IsListingOf at kept.held text.items
AnswersWithLines old new at (Err failure) =
    (kept : Kept) → old kept → new kept × IsNotKept failure

-- a keeper whose disk has returned what was written had such a disk before, and did this
abbrev pub Cleanly : Type 0 → Type 0 → Type 0 → Type 0
Cleanly was_clean is_clean Did = (is_clean → was_clean) × (is_clean → Did)

-- the same of a keeper that took facts
abbrev pub TakesCleanly : {K : Type 0} → (K → Type 0) → (K → Keeping) → K → K → List Fact → Result Counts Failure → Type 0
TakesCleanly is_clean keeps old new facts result =
    Cleanly (is_clean old) (is_clean new) (Takes (keeps old) (keeps new) facts result)

-- and of one that was asked
abbrev pub AnswersCleanly : {K : Type 0} → (K → Type 0) → (K → Keeping) → K → K → Accepts → Query → Result Verdict Failure → Type 0
AnswersCleanly is_clean keeps old new accepts query result =
    Cleanly (is_clean old) (is_clean new) (AnswersWithVerdict (keeps old) (keeps new) accepts query result)

-- and of one that was asked to find a path
abbrev pub FindsCleanly : {K : Type 0} → (K → Type 0) → (K → Keeping) → K → K → Accepts → Search → FindingBudget → Result Finding Failure → Type 0
FindsCleanly is_clean keeps old new accepts s budget result =
    Cleanly (is_clean old) (is_clean new) (AnswersWithFinding (keeps old) (keeps new) accepts s budget result)
