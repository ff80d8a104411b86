-- The laws that other crates may cite.
pub use Rattle.path_issuers.proofs.Factoring.{valid_path_factors, tail_is_right, tail_right}
pub use Rattle.path_issuers.proofs.Picking.{picked_more, picked_none}
pub use Rattle.path_issuers.proofs.Rising.{not_longer, rises_with}
