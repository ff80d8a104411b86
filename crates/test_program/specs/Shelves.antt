-- What a shelf holds, and what stands on it.
use Rattle.std.specs.Prelude.{◌≡◌, ℕ, List, [], ◌∷◌, ◌++◌, Option, Some, None, bytes_eq, if◌then◌else◌, ⊤}
use Rattle.statements_facts.specs.Coming.{after_all}
use Rattle.statements_facts.specs.Fact.{Fact, facts_in}
use Rattle.statements_facts.specs.Statement.{Holdings, empty_holdings}
use Rattle.statements_facts.specs.declared.fact.Facts.{Facts}
use Rattle.statements_facts.specs.declared.profile.Profile.TheVariants.{Stated}
use Rattle.store_maps.specs.Held.{IsStoreOf}
use Rattle.cli.specs.Failures.{Holding}
use Rattle.cli_failures.specs.declared.failure.StoreRefusal.TheVariants as refused
use Rattle.cli_store.specs.Standing.{IsIntact, Lasting, Leaving, Places, Standing, database, nothing, refusal}
use Rattle.test_program.specs.declared.shelf.Kept.{Kept}
use Rattle.test_program.specs.declared.shelf.Text.{Text}

-- the octets of the first text of this name
abbrev pub octets_under : List Text → List ℕ → Option (List ℕ)
octets_under [] name = None
octets_under (text ∷ others) name =
    if bytes_eq text.name.now name then Some text.octets.items else octets_under others name

-- a file holds what the text of its name has
abbrev pub holding_in : List Text → Holding
holding_in texts = record { has = λ name found. octets_under texts name ≡ found; profile = Stated }

-- the statements that were put into the first store of this path
abbrev pub statements_at : List Kept → List ℕ → Option (List Facts)
statements_at [] path = None
statements_at (kept ∷ others) path =
    if bytes_eq kept.path.now path then Some kept.statements.items else statements_at others path

-- what is held after these statements, in order
abbrev pub after_these : Holdings → List Facts → Holdings
after_these held [] = held
after_these held (facts ∷ others) = after_these (after_all held (facts_in facts)) others

-- What stands at paths: a store that holds what the statements of the path say, on a disk that returned what was written; or none, as no
-- statements are kept there. Its disk may stop, or lack memory, and refuses then.
abbrev pub standing_on : List Kept → Standing
standing_on stores path (database seen) =
    (statements : List Facts) × (statements_at stores path ≡ Some statements)
    × IsStoreOf seen.now (after_these empty_holdings statements) × IsIntact seen
standing_on stores path nothing = statements_at stores path ≡ None
standing_on stores path (refusal why) = why ≡ refused.Store

-- how stores are left: their disk has returned what was written
abbrev pub leaving : Leaving
leaving path seen = IsIntact seen

-- What is closed is dropped: the shelf of the next run is put together by who runs it.
abbrev pub lasting : Lasting
lasting path left = ⊤

-- what is known of the places on a shelf
abbrev pub places_on : List Kept → Places
places_on stores = record { profile = Stated; stands = standing_on stores; leaves = leaving; lasts = lasting }

-- A shelf has one statement more at the path than another, and it says these facts.
pub record HasTaken (stores next : List Kept) (path : List ℕ) (facts : List Fact) : Type 0 where
  pub before : List Facts
  pub taken : Facts
  pub was : statements_at stores path ≡ Some before
  pub is : statements_at next path ≡ Some (before ++ taken ∷ [])
  pub says : facts_in taken ≡ facts
