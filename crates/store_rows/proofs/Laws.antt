-- The laws that other crates may cite.
pub use Rattle.store_rows.proofs.Finding.{survives_itself}
pub use Rattle.store_rows.proofs.Refilling.{replaces}
pub use Rattle.store_rows.proofs.Refills.{ascends}
pub use Rattle.store_rows.proofs.Placing.{Under, under, is_under_of, not_under, in_room}
pub use Rattle.store_rows.proofs.Numbers.{value_back}
pub use Rattle.store_rows.proofs.Versions.{version_not_deleted, version_not_inserted}
pub use Rattle.store_rows.proofs.Refused.{as_refused}
pub use Rattle.store_rows.proofs.Steps.{one_issuer, one_crl, one_single}
