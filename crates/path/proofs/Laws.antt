-- The laws that other crates may cite.
pub use Rattle.path.proofs.WideCertificates.{stated_too}
