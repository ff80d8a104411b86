-- What the texts that show all rows mean under the schemas of version 2.
use Rattle.std.proofs.Common.{◌≡◌, ◌∷◌, [], codes, refl, false}
use Rattle.sqlite.specs.Term.{col}
use Rattle.sqlite.specs.Command.TheVariants.{Select}
use Rattle.sqlite_tied.specs.Compute.{everything}
use Rattle.sqlite.specs.Listing.{understood, reads_listing}
use Rattle.sqlite.proofs.Callers.{IsPlain, command_of}
use Rattle.store_sql.specs.declared.origin.Origin.{Origin}
use Rattle.store_sql.specs.declared.origin.Origin.TheVariants.{Made, Migrated}
use Rattle.store_sql.specs.Tables.{version_1_schema, store_schema, crls_tree, entries_tree}
use Rattle.store_adoption.specs.Texts.{all_versions, all_issuers, all_crls, all_ocsp, all_entries, all_unscoped_crls, all_unscoped_entries}
use Rattle.store_adoption.proofs.Ordered.{in_order_of_ids}

pub shows_versions : (origin : Origin) → (command_of (understood (store_schema origin) all_versions) ≡ Select (record { lets = []; body = in_order_of_ids 0 (col 1 0 ∷ col 1 2 ∷ []) }) (codes "id" ∷ codes "version" ∷ [])) × (reads_listing (store_schema origin) all_versions ≡ false) × IsPlain (understood (store_schema origin) all_versions)
unfolding understood everything
shows_versions Made = (refl, refl, (refl, refl))
shows_versions Migrated = (refl, refl, (refl, refl))

pub shows_issuers : (origin : Origin) → (command_of (understood (store_schema origin) all_issuers) ≡ Select (record { lets = []; body = in_order_of_ids 1 (col 1 0 ∷ []) }) (codes "id" ∷ [])) × (reads_listing (store_schema origin) all_issuers ≡ false) × IsPlain (understood (store_schema origin) all_issuers)
unfolding understood everything
shows_issuers Made = (refl, refl, (refl, refl))
shows_issuers Migrated = (refl, refl, (refl, refl))

pub shows_crls : (origin : Origin) → (command_of (understood (store_schema origin) all_crls) ≡ Select (record { lets = []; body = in_order_of_ids (crls_tree origin) (col 1 1 ∷ col 1 2 ∷ col 1 3 ∷ []) }) (codes "issuer" ∷ codes "scope" ∷ codes "number" ∷ [])) × (reads_listing (store_schema origin) all_crls ≡ false) × IsPlain (understood (store_schema origin) all_crls)
unfolding understood everything
shows_crls Made = (refl, refl, (refl, refl))
shows_crls Migrated = (refl, refl, (refl, refl))

pub shows_singles : (origin : Origin) → (command_of (understood (store_schema origin) all_ocsp) ≡ Select (record { lets = []; body = in_order_of_ids 3 (col 1 1 ∷ col 1 8 ∷ col 1 9 ∷ []) }) (codes "issuer" ∷ codes "status" ∷ codes "reason" ∷ [])) × (reads_listing (store_schema origin) all_ocsp ≡ false) × IsPlain (understood (store_schema origin) all_ocsp)
unfolding understood everything
shows_singles Made = (refl, refl, (refl, refl))
shows_singles Migrated = (refl, refl, (refl, refl))

pub shows_entries : (origin : Origin) → (command_of (understood (store_schema origin) all_entries) ≡ Select (record { lets = []; body = in_order_of_ids (entries_tree origin) (col 1 0 ∷ col 1 2 ∷ col 1 3 ∷ col 1 4 ∷ col 1 5 ∷ []) }) (codes "id" ∷ codes "issuer" ∷ codes "scope" ∷ codes "serial" ∷ codes "reason" ∷ [])) × (reads_listing (store_schema origin) all_entries ≡ false) × IsPlain (understood (store_schema origin) all_entries)
unfolding understood everything
shows_entries Made = (refl, refl, (refl, refl))
shows_entries Migrated = (refl, refl, (refl, refl))

-- ---- version 1

pub shows_old_versions : (command_of (understood version_1_schema all_versions) ≡ Select (record { lets = []; body = in_order_of_ids 0 (col 1 0 ∷ col 1 2 ∷ []) }) (codes "id" ∷ codes "version" ∷ [])) × (reads_listing version_1_schema all_versions ≡ false) × IsPlain (understood version_1_schema all_versions)
unfolding understood everything
shows_old_versions = (refl, refl, (refl, refl))

pub shows_old_issuers : (command_of (understood version_1_schema all_issuers) ≡ Select (record { lets = []; body = in_order_of_ids 1 (col 1 0 ∷ []) }) (codes "id" ∷ [])) × (reads_listing version_1_schema all_issuers ≡ false) × IsPlain (understood version_1_schema all_issuers)
unfolding understood everything
shows_old_issuers = (refl, refl, (refl, refl))

pub shows_old_singles : (command_of (understood version_1_schema all_ocsp) ≡ Select (record { lets = []; body = in_order_of_ids 3 (col 1 1 ∷ col 1 8 ∷ col 1 9 ∷ []) }) (codes "issuer" ∷ codes "status" ∷ codes "reason" ∷ [])) × (reads_listing version_1_schema all_ocsp ≡ false) × IsPlain (understood version_1_schema all_ocsp)
unfolding understood everything
shows_old_singles = (refl, refl, (refl, refl))

pub shows_unscoped_crls : (command_of (understood version_1_schema all_unscoped_crls) ≡ Select (record { lets = []; body = in_order_of_ids 5 (col 1 0 ∷ col 1 2 ∷ col 1 3 ∷ col 1 4 ∷ []) }) (codes "issuer" ∷ codes "number" ∷ codes "since" ∷ codes "until" ∷ [])) × (reads_listing version_1_schema all_unscoped_crls ≡ false) × IsPlain (understood version_1_schema all_unscoped_crls)
unfolding understood everything
shows_unscoped_crls = (refl, refl, (refl, refl))

pub shows_unscoped_entries : (command_of (understood version_1_schema all_unscoped_entries) ≡ Select (record { lets = []; body = in_order_of_ids 6 (col 1 1 ∷ col 1 2 ∷ col 1 3 ∷ []) }) (codes "issuer" ∷ codes "serial" ∷ codes "reason" ∷ [])) × (reads_listing version_1_schema all_unscoped_entries ≡ false) × IsPlain (understood version_1_schema all_unscoped_entries)
unfolding understood everything
shows_unscoped_entries = (refl, refl, (refl, refl))
