-- Why the tables of a new store are not made.
use Rattle.std.proofs.Common.{◌≡◌, ℕ, pos, List, [], ◌∷◌, Ok, Err, ap, subst, ◌∙◌, refl}
use Rattle.sqlite_trees.specs.Tree.{Trees}
use Rattle.sqlite.specs.declared.types.Value.TheVariants.{Int}
use Rattle.sqlite.specs.declared.error.Error.{Error}
use Rattle.sqlite.specs.State.{State, ExecutesInside, HasCleanDisk, Survives}
use Rattle.store_sql.specs.declared.fault.StoreFault.TheVariants.{Store}
use Rattle.store_sql.specs.declared.origin.Origin.TheVariants.{Made}
use Rattle.store_sql.specs.Fault.{fault_from}
use Rattle.store_sql.specs.Cause.{MayRefuse}
use Rattle.store_sql.specs.Tables.{no_schema, meta_alone, meta_and_issuers, start_schema, half_schema, store_schema, meta_table, ocsp_table, scoped_entries_table}
use Rattle.store_sql.specs.Texts.{create_meta, create_issuers, create_ocsp, create_scoped_crls, create_scoped_entries, insert_version}
use Rattle.store_sql.proofs.Laws.{makes, makes_meta, makes_ocsp, makes_entries, issuers_caused, crls_caused, later_refuses}
use Rattle.store_rows.specs.Making.{IsEmptyWith}
use Rattle.store_rows.proofs.Creating.{one_more}
use Rattle.store_rows.proofs.Versions.{version_not_inserted}

module _ (old mid new : State) (P Q : Trees → Type 0) (first : Survives old mid P) (second : Survives mid new Q) (clean : HasCleanDisk mid) (error : Error) (is : fault_from error ≡ Store) (count : ℕ) where
  pub issuers_not_made : ExecutesInside 0 create_meta [] old mid (Ok count) → ExecutesInside 0 create_issuers [] mid new (Err error) → IsEmptyWith old.now no_schema → MayRefuse old new
  issuers_not_made one two was =
      let x = makes_meta in
      let made = makes old mid create_meta no_schema (meta_table 0) count was.schema_is x.0 x.1 x.2 x.4 refl one.0 in
      later_refuses old mid new P Q first second clean (issuers_caused mid new (made.schema_is ∙ x.3) error two is)

  pub crls_not_made : ExecutesInside 0 create_ocsp [] old mid (Ok count) → ExecutesInside 0 create_scoped_crls [] mid new (Err error) → IsEmptyWith old.now meta_and_issuers → MayRefuse old new
  crls_not_made one two was =
      let x = makes_ocsp in
      let made = makes old mid create_ocsp meta_and_issuers (ocsp_table 0) count was.schema_is x.0 x.1 x.2 x.4 refl one.0 in
      later_refuses old mid new P Q first second clean (crls_caused Made mid new (made.schema_is ∙ x.3) error two is)

  pub version_not_set : (version : ℕ) → ExecutesInside 0 create_scoped_entries [] old mid (Ok count)
      → ExecutesInside 0 insert_version (Int (pos 1) ∷ Int (pos version) ∷ []) mid new (Err error) → IsEmptyWith old.now (half_schema Made) → MayRefuse old new
  version_not_set version one two was =
      let x = makes_entries Made in
      let made = makes old mid create_scoped_entries (half_schema Made) (scoped_entries_table 0) count was.schema_is x.0 x.1 x.2 x.4 refl one.0 in
      let empty = one_more old mid (half_schema Made) (store_schema Made) (scoped_entries_table 0) made x.3 was in
      later_refuses old mid new P Q first second clean
      (version_not_inserted Made version mid new empty.schema_is empty.empty.0 made.sound error two is)
