-- The laws that other crates may cite.
pub use Rattle.statements_ocsp.proofs.ResponseLaws.{response_is_exact, response_is_unique}
