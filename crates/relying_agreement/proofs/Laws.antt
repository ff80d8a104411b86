-- The laws that other crates may cite.
pub use Rattle.relying_agreement.proofs.Places.{place_by_place, point_by_point}
