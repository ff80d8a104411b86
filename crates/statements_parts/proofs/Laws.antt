-- The laws that other crates may cite.
pub use Rattle.statements_parts.proofs.NewTypes.{AreNew, new_pairs, pairs_are_new}
pub use Rattle.statements_parts.proofs.PartLaws.{as_der_ok, contained_ok, contained_again, TakesRead, next_read_ok, next_read_again, TakesComponent, component_ok, component_again, serial_ok, serial_again, name_ok, name_again, signature_ok, signature_again, NewExtension, new_extension_ok, new_extension_again}
