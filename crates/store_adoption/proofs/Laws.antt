-- The laws that other crates may cite.
pub use Rattle.store_adoption.proofs.Adopting.{order_of_store, one_profile, not_version_1, one_origin, few_scopes, few_statuses, few_reasons, numbered, both_all}
pub use Rattle.store_adoption.proofs.Answered.{answered}
pub use Rattle.store_adoption.proofs.Decoded.{all_shown}
pub use Rattle.store_adoption.proofs.Following.{all_here}
pub use Rattle.store_adoption.proofs.Inspecting.{checked, stopped, later_caused}
pub use Rattle.store_adoption.proofs.Ordered.{in_order_of_ids}
pub use Rattle.store_adoption.proofs.Placed.{in_order}
pub use Rattle.store_adoption.proofs.WithoutScopes.{order_of_version_1}
