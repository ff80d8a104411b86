pub mod WithPolicies
pub mod Inputs
pub mod Asking
pub mod Joining
pub use Rattle.path.specs.Options
pub use Rattle.path.specs.Query
pub use Rattle.path.specs.Reading
pub use Rattle.path.specs.Validity
pub use Rattle.path_policies.specs.Query as PolicyQuery
pub use Rattle.path_policies.specs.Seen
pub use Rattle.path_policies.specs.Reading as PolicyReading
pub use Rattle.path_policies.specs.Outcome
pub use Rattle.cert.specs.Certificate
