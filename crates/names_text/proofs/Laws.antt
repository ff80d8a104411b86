-- The laws that other crates may cite.
pub use Rattle.names_text.proofs.Splitting.{slice_split-append, slice_split_nonempty, join-append, same_ends}
pub use Rattle.names_text.proofs.PreparedText.{spaced, join_first}
