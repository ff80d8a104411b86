-- The laws that other crates may cite.
pub use Rattle.names_order.proofs.BaseKeys.{inside_begins}
