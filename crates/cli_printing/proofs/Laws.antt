-- The laws that other crates may cite.
pub use Rattle.cli_printing.proofs.Appending.{appends_both}
