pub mod Octets
pub mod Premises
pub use Rattle.cert.specs.Certificate
pub use Rattle.relying_agreement.specs.Run
pub use Rattle.relying_agreement.specs.Agreement
pub use Rattle.relying_agreement.specs.Verdict
pub use Rattle.vectors.specs.ToySignature
