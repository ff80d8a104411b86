-- The laws that other crates may cite.
pub use Rattle.statements_crl.proofs.FirstReason.{reason_at}
pub use Rattle.statements_crl.proofs.EntryLaws.{entry_is_exact}
pub use Rattle.statements_crl.proofs.IssuingPointLaws.{issuing_point_is_exact}
pub use Rattle.statements_crl.proofs.ListLaws.{list_is_exact, list_is_exact_under, list_is_unique, list_is_unique_under}
pub use Rattle.statements_crl.proofs.Profiles.{stated_is_wide, stated_lists_are_whole, stated_lists_are_read_wide}
