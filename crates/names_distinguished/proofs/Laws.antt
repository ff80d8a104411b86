-- The laws that other crates may cite.
pub use Rattle.names_distinguished.proofs.NameLaws.{is_name, name_is, name_is_exact}
pub use Rattle.names_distinguished.proofs.NameValues.{name_has_layout}
pub use Rattle.names_distinguished.proofs.Matching.{matching_is_exact, within_is_exact}
pub use Rattle.names_distinguished.proofs.Keys.{keys_decide_within, keys_tell_their_end}
pub use Rattle.names_text.proofs.Laws.{slice_split-append, slice_split_nonempty, join-append, same_ends}
