-- What the texts of the listing mean under the schemas of version 2, and that they are not refused for what they ask.
use Rattle.std.proofs.Common.{◌≡◌, ◌∷◌, [], List, ℕ, codes, refl, true, false}
use Rattle.sqlite.specs.Term.{Term, col}
use Rattle.sqlite.specs.Command.TheVariants.{Select}
use Rattle.sqlite_tied.specs.Compute.{everything}
use Rattle.sqlite_typing.specs.Types.{accepts_program}
use Rattle.sqlite.specs.Listing.{understood, reads_listing}
use Rattle.sqlite.proofs.Callers.{IsPlain, command_of}
use Rattle.store_sql.specs.declared.origin.Origin.{Origin}
use Rattle.store_sql.specs.declared.origin.Origin.TheVariants.{Made, Migrated}
use Rattle.store_sql.specs.Tables.{store_schema, crls_tree, entries_tree}
use Rattle.store_sql.proofs.Laws.{IsWhole}
use Rattle.store_adoption.specs.Tests.{IsTableQuery}
use Rattle.store_adoption.proofs.Laws.{in_order_of_ids, answered}
use Rattle.store_listing.specs.Texts.{held_issuers, held_lists, held_entries, held_singles}

-- the text shows these columns of a table's rows, in the order of their ids
abbrev pub ShowsTable : Origin → List ℕ → ℕ → List Term → List (List ℕ) → Type 0
ShowsTable origin text tree project names =
    (command_of (understood (store_schema origin) text) ≡ Select (record { lets = []; body = in_order_of_ids tree project }) names) × (reads_listing (store_schema origin) text ≡ false) × IsPlain (understood (store_schema origin) text)

abbrev pub IsAnswered : Origin → List ℕ → Type 0
IsAnswered origin text = IsTableQuery (store_schema origin) text (understood (store_schema origin) text)

-- ---- issuers

abbrev pub issuer_columns : List Term
issuer_columns = col 1 0 ∷ col 1 2 ∷ col 1 3 ∷ []

pub shows_issuers : (origin : Origin) → ShowsTable origin held_issuers 1 issuer_columns (codes "id" ∷ codes "name" ∷ codes "spki" ∷ [])
unfolding understood everything
shows_issuers Made = (refl, refl, (refl, refl))
shows_issuers Migrated = (refl, refl, (refl, refl))

whole_issuers : (origin : Origin) → IsWhole held_issuers 0 (understood (store_schema origin) held_issuers)
unfolding understood everything
whole_issuers Made = (refl, refl)
whole_issuers Migrated = (refl, refl)

typed_issuers : (origin : Origin) → accepts_program (store_schema origin) [] (in_order_of_ids 1 issuer_columns) [] ≡ true
typed_issuers Made = refl
typed_issuers Migrated = refl

pub answers_issuers : (origin : Origin) → IsAnswered origin held_issuers
answers_issuers origin = let it = shows_issuers origin in answered (store_schema origin) held_issuers 1 issuer_columns _ (understood (store_schema origin) held_issuers) it.0 it.1 it.2 (whole_issuers origin) (typed_issuers origin)

-- ---- lists

abbrev pub list_columns : List Term
list_columns = col 1 1 ∷ col 1 2 ∷ col 1 3 ∷ col 1 4 ∷ col 1 5 ∷ []

pub shows_lists : (origin : Origin) → ShowsTable origin held_lists (crls_tree origin) list_columns (codes "issuer" ∷ codes "scope" ∷ codes "number" ∷ codes "since" ∷ codes "until" ∷ [])
unfolding understood everything
shows_lists Made = (refl, refl, (refl, refl))
shows_lists Migrated = (refl, refl, (refl, refl))

whole_lists : (origin : Origin) → IsWhole held_lists 0 (understood (store_schema origin) held_lists)
unfolding understood everything
whole_lists Made = (refl, refl)
whole_lists Migrated = (refl, refl)

typed_lists : (origin : Origin) → accepts_program (store_schema origin) [] (in_order_of_ids (crls_tree origin) list_columns) [] ≡ true
typed_lists Made = refl
typed_lists Migrated = refl

pub answers_lists : (origin : Origin) → IsAnswered origin held_lists
answers_lists origin = let it = shows_lists origin in answered (store_schema origin) held_lists (crls_tree origin) list_columns _ (understood (store_schema origin) held_lists) it.0 it.1 it.2 (whole_lists origin) (typed_lists origin)

-- ---- entries

abbrev pub key_columns : List Term
key_columns = col 1 2 ∷ col 1 3 ∷ []

pub shows_entries : (origin : Origin) → ShowsTable origin held_entries (entries_tree origin) key_columns (codes "issuer" ∷ codes "scope" ∷ [])
unfolding understood everything
shows_entries Made = (refl, refl, (refl, refl))
shows_entries Migrated = (refl, refl, (refl, refl))

whole_entries : (origin : Origin) → IsWhole held_entries 0 (understood (store_schema origin) held_entries)
unfolding understood everything
whole_entries Made = (refl, refl)
whole_entries Migrated = (refl, refl)

typed_entries : (origin : Origin) → accepts_program (store_schema origin) [] (in_order_of_ids (entries_tree origin) key_columns) [] ≡ true
typed_entries Made = refl
typed_entries Migrated = refl

pub answers_entries : (origin : Origin) → IsAnswered origin held_entries
answers_entries origin = let it = shows_entries origin in answered (store_schema origin) held_entries (entries_tree origin) key_columns _ (understood (store_schema origin) held_entries) it.0 it.1 it.2 (whole_entries origin) (typed_entries origin)

-- ---- responses

abbrev pub single_columns : List Term
single_columns = col 1 1 ∷ col 1 2 ∷ col 1 3 ∷ col 1 4 ∷ col 1 5 ∷ col 1 6 ∷ col 1 7 ∷ col 1 8 ∷ col 1 9 ∷ []

abbrev pub single_names : List (List ℕ)
single_names = codes "issuer" ∷ codes "name_hash" ∷ codes "serial" ∷ codes "this_update" ∷ codes "produced_at" ∷ codes "since" ∷ codes "until" ∷ codes "status" ∷ codes "reason" ∷ []

pub shows_singles : (origin : Origin) → ShowsTable origin held_singles 3 single_columns single_names
unfolding understood everything
shows_singles Made = (refl, refl, (refl, refl))
shows_singles Migrated = (refl, refl, (refl, refl))

whole_singles : (origin : Origin) → IsWhole held_singles 0 (understood (store_schema origin) held_singles)
unfolding understood everything
whole_singles Made = (refl, refl)
whole_singles Migrated = (refl, refl)

typed_singles : (origin : Origin) → accepts_program (store_schema origin) [] (in_order_of_ids 3 single_columns) [] ≡ true
typed_singles Made = refl
typed_singles Migrated = refl

pub answers_singles : (origin : Origin) → IsAnswered origin held_singles
answers_singles origin = let it = shows_singles origin in answered (store_schema origin) held_singles 3 single_columns _ (understood (store_schema origin) held_singles) it.0 it.1 it.2 (whole_singles origin) (typed_singles origin)
