-- The laws that other crates may cite.
pub use Rattle.store_sql.proofs.Meaning.{makes_meta, makes_issuers, makes_ocsp, makes_crls, makes_entries, selects_versions, deletes_version, inserts_version, selects_issuer, inserts_issuer, selects_crl, deletes_crl, inserts_crl, selects_entry, selects_entries, deletes_entries, inserts_entry, group_terms, inserts_entries, selects_single, deletes_single, inserts_single}
pub use Rattle.store_sql.proofs.TableSteps.{Leaves, deletes_by, inserts_one, inserts_at, inserts_all, finds_by}
pub use Rattle.store_sql.proofs.Answering.{passing, shown_as, truth_of, equal_blobs, equal_ints}
pub use Rattle.store_sql.proofs.Rowids.{less_is, below_next, rises_kept, rises_pushed}
pub use Rattle.store_sql.proofs.TableWrites.{went, same_value}
pub use Rattle.store_sql.proofs.Keys.{at_most, one_row, one_passes}
pub use Rattle.store_sql.proofs.Making.{MakesTable, makes}
pub use Rattle.store_sql.proofs.Refusing.{IsWhole, query_caused, failure_caused, not_run_caused, later_refuses, sooner_refuses, if_err_then}
pub use Rattle.store_sql.proofs.Ending.{begun_refuses, commit_refuses}
pub use Rattle.store_sql.proofs.RefusingWrites.{delete_caused}
pub use Rattle.store_sql.proofs.RefusingRows.{Fits, chosen_caused, given_caused, AllFit, all_caused}
pub use Rattle.store_sql.proofs.Uniques.{IsNewKey}
pub use Rattle.store_sql.proofs.Storable.{int_is_number, zero_is_number, storable, fits_between, next_fits, apart_below, not_taken}
pub use Rattle.store_sql.proofs.Typing.{insert_issuer_whole, delete_crl_whole, insert_crl_whole, delete_entries_whole, insert_entry_whole, insert_entries_whole, delete_single_whole, insert_single_whole, crl_deletion_typed, entries_deletion_typed, single_deletion_typed, issuer_insertion_typed, crl_insertion_typed, entry_insertion_typed, EntryColumns, columns_and, group_columns, entries_insertion_typed, single_insertion_typed, delete_version_whole, insert_version_whole, version_deletion_typed, version_insertion_typed}
pub use Rattle.sqlite_typing.specs.Types.{accepts_terms}
pub use Rattle.store_sql.proofs.NewTables.{meta_caused, issuers_caused, ocsp_caused, crls_caused, entries_caused}
