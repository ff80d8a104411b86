pub mod WithPolicies
pub mod Joining
pub mod SearchPolicies
pub mod Telling
pub mod Apart
pub mod ByStatements
pub mod FindingWithPolicies
pub use Rattle.path_with_policies.specs.WithPolicies as PathWithPolicies
pub use Rattle.relying_agreement.specs.Verdict
pub use Rattle.statements.specs.Statement
pub use Rattle.path_issuers.specs.Search
pub use Rattle.path_search.specs.Answer
pub use Rattle.path_policies.specs.Seen
pub use Rattle.path_policies.specs.Outcome
pub use Rattle.relying_search.specs.Finding
pub use Rattle.relying_search.specs.Among
pub use Rattle.relying_texts.specs.Texts
