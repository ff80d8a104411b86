-- The laws that other crates may cite.
pub use Rattle.path_conditions.proofs.Selecting.{list_any-map, list_any-filter, list_any-weaker, length-filter-le}
pub use Rattle.path_conditions.proofs.NarrowedLists.{Laws, laws_of_names, in_one, about, narrowed_sound, narrowed_complete, of_form_is, of_form_from, length-narrowed, processed_test, three_forms}
