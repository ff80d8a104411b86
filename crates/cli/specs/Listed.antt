-- What the store at a path holds, listed, and why it is not.
use Rattle.std.specs.Prelude.{◌≡◌, ℕ, ℤ, List, Option, option_map}
use Rattle.std.specs.Borrow.{Bor}
use Rattle.statements_facts.specs.Statement.{Holdings}
use Rattle.store_maps.specs.Held.{IsStoreOf}
use Rattle.cli_listing.specs.HeldText.{IsListingOf}
use Rattle.cli_failures.specs.Report.{WritesText}
use Rattle.cli_failures.specs.declared.failure.Failure.{Failure}
use Rattle.cli_operands.specs.InOrder.{FailsFirst}
use Rattle.cli_operands.specs.Asked.{IsBadMoment, IsMomentOf}
use Rattle.cli_store.specs.Standing.{IsFound, IsIntact, Places, Seen, the_same}
use Rattle.cli.specs.Checked.{IsNotChecked}
use Rattle.cli.specs.Streams.{FailsOrCuts}

-- the lines of a store that was seen so, which was left in a state in which it holds the same, and that lasts
abbrev pub HasListed : Places → List ℕ → Option ℤ → Seen → List ℕ → Type 0
HasListed places path moment old text =
    (new : Seen) × places.leaves path new
    × (IsIntact new → (held : Holdings) → IsStoreOf old.now held →
    IsStoreOf new.now held × IsListingOf moment held text × places.lasts path (the_same held))

-- the same of the store at a path
abbrev pub IsListedAt : Places → List ℕ → Option ℤ → List ℕ → Type 0
IsListedAt places path moment text =
    (old : Seen) × IsFound places path old × HasListed places path moment old text

-- the lines that are asked for
abbrev pub IsListed : Places → List ℕ → Option (List ℕ) → List ℕ → Type 0
IsListed places path moment text =
    (at : Option ℤ) × IsMomentOf moment at × IsListedAt places path at text

-- What is wrong, the first of it: the moment; the store is not found, or does not answer.
abbrev pub IsFailureOfListing : Places → List ℕ → Option (List ℕ) → Failure → Type 0
IsFailureOfListing places path moment =
    FailsFirst (IsBadMoment moment) ((at : Option ℤ) × IsMomentOf moment at)
    (IsNotChecked places path)

-- ---- of words as they are given

-- the text of a word, if there is one
abbrev pub given : Option (Bor (List ℕ)) → Option (List ℕ)
given word = option_map (λ text. text.now) word

-- the lines were written
abbrev pub WritesListing : {O : Type 0} → Places → List ℕ → Option (Bor (List ℕ)) → (O → Option (List ℕ)) → O → O → Type 0
WritesListing places path moment contents old new =
    WritesText (IsListed places path (given moment)) (contents old) (contents new)

-- or that is wrong; or the lines are those, and standard output failed behind a front of them
abbrev pub FailsToList : Places → List ℕ → Option (List ℕ) → Option (List ℕ) → Option (List ℕ) → Failure → Type 0
FailsToList places path moment = FailsOrCuts (IsFailureOfListing places path moment) (IsListed places path moment)
