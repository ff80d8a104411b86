-- The laws that other crates may cite.
pub use Rattle.names_distinguished.proofs.Laws.{matching_is_exact, name_is_exact, name_has_layout}
pub use Rattle.names.proofs.GeneralLaws.{general_names_are_read, subtree_bases_are_read}
pub use Rattle.names.proofs.CoverageLaws.{coverage_test_is_exact, base_inside_is_sound, shared_bases_are_nested, covered_is_of_form, covered_is_processed, base_form_test_is_exact}
