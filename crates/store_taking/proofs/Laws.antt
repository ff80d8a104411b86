-- The laws that other crates may cite.
pub use Rattle.store_taking.proofs.Chains.{changes_then, passes_then, stops_then, goes_then}
pub use Rattle.store_taking.proofs.Forms.{all_and, all_as, all_filtered, crl_in_form, entries_in_form, list_owned}
pub use Rattle.store_taking.proofs.Deliveries.{rolled_back}
