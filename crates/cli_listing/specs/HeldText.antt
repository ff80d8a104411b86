-- The lines of what is held.
use Rattle.std.specs.Prelude.{◌≡◌, ℕ, ℤ, List, Option}
use Rattle.statements_facts.specs.Statement.{Holdings}
use Rattle.store_listing.specs.Laws.{ListsOnce, ShowsHeld}
use Rattle.store_listing.specs.Listing.{Overview}
use Rattle.cli_listing.specs.ListingText.{listing_text}

-- the lines of a listing that shows what is held, slot by slot, and nothing twice
abbrev pub IsListingOf : Option ℤ → Holdings → List ℕ → Type 0
IsListingOf at held text =
    (all : Overview) × ShowsHeld held all × ListsOnce all × (text ≡ listing_text at all)
