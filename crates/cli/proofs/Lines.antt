-- The lines of a listing, by what was read of the store.
use Rattle.std.proofs.Common.{◌≡◌, subst, sym, map, ℤ, Option, Result, Ok, Err, IfOk}
use Rattle.std.specs.Global.{Vec}
use Rattle.sqlite.specs.State.{State, HasCleanDisk}
use Rattle.statements_facts.specs.Statement.{Holdings}
use Rattle.store_sql.specs.Statements.{CommitsNothing}
use Rattle.store_maps.specs.Held.{IsStoreOf}
use Rattle.store_listing.specs.declared.held.Listing.{Listing}
use Rattle.store_listing.specs.Laws.{ShowsStore}
use Rattle.store_listing.specs.Listing.{IsListing, seen_held_issuer, seen_listing}
use Rattle.store_listing.specs.Reads.{ReadsStore}
use Rattle.cli_listing.specs.ListingText.{IdsRise, listing_text}
use Rattle.cli_failures.specs.declared.failure.Failure.{Failure}
use Rattle.cli_store.specs.Standing.{IsFound, LeavesIfClean, Places, Seen, seen_of}
use Rattle.cli.specs.Listed.{HasListed, IsListedAt}
use Rattle.cli.proofs.Lasting.{IsReady, same_lasts}
use Rattle.std.specs.Prelude.{ℕ, List}

module _ (at : Places) (path : List ℕ) (old new : State) (left : at.leaves path (seen_of new)) (closes : (later : List Holdings) → LeavesIfClean new later → at.lasts path later) (ready : IsReady old) where
  pub listed : (moment : Option ℤ) (all : Listing) (result : Result (Vec ℕ) Failure) → CommitsNothing old new
      → (HasCleanDisk new → ReadsStore {A = Listing} old new IsListing (Ok all)) → (HasCleanDisk new → ShowsStore old.now all)
      → IfOk result (λ text. IdsRise (map seen_held_issuer all.issuers.items) → text.items ≡ listing_text moment (seen_listing all))
      → IfOk result (λ text. HasListed at path moment (seen_of old) text.items)
  listed moment all (Ok text) survives reads shows lines = (
    seen_of new,
    left,
    λ intact held stands. let shown = shows intact held stands in (
      subst (λ now. IsStoreOf now held) (sym (reads intact).0.0.now_is) stands,
      (seen_listing all, shown.0, shown.1, lines shown.1.rise),
      same_lasts old new (at.lasts path) closes ready survives held stands,
    ),
  )
  listed moment all (Err failure) survives reads shows lines = tt

pub listed_at : (at : Places) (path : List ℕ) (moment : Option ℤ) (old : Seen) (result : Result (Vec ℕ) Failure) → IsFound at path old
    → IfOk result (λ text. HasListed at path moment old text.items) → IfOk result (λ text. IsListedAt at path moment text.items)
listed_at at path moment old (Ok text) found listed = (old, found, listed)
listed_at at path moment old (Err failure) found listed = tt
