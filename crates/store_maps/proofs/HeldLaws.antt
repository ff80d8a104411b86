-- The laws that other crates may cite.
pub use Rattle.store_maps.proofs.Owning.{same_held, find_past}
pub use Rattle.store_maps.proofs.Listing.{list_held, eq_of, is_eq_of, and_parts}
pub use Rattle.store_maps.proofs.Saying.{single_held}
pub use Rattle.store_maps.proofs.Trees.{trees_of}
