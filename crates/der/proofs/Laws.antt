-- The laws that other crates may cite.
pub use Rattle.der.proofs.Headers.{two_octets, shorter}
pub use Rattle.der.proofs.Fronts.{Front}
pub use Rattle.der.proofs.Clean.{Parts, parts_of, front_of, clean_in}
pub use Rattle.der.proofs.Parts.{read_front, built_primitive, inner_encoded, rest_encoded, encoded_long, none_left}
pub use Rattle.der.proofs.Served.{served_length}
pub use Rattle.der.proofs.OneEncoding.{one_encoding, one_value, one_value_all}
pub use Rattle.der.proofs.OneFault.{one_fault, one_start}
pub use Rattle.der.proofs.Decide.{decide, never_both, are_octets}
pub use Rattle.der.proofs.Prefixes.{header_len-ahead, whole-ahead, contents_len-ahead, end_of-ahead, header-ahead, header-back, fault-ahead}
pub use Rattle.der.proofs.Faults.{refused_itself, first_within}
