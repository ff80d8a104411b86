-- The laws that other crates may cite.
pub use Rattle.cert.proofs.AlgorithmLaws.{is_algorithm, algorithm_is, has_algorithm, algorithm_has}
pub use Rattle.cert.proofs.ValidityLaws.{is_validity, validity_is, has_validity, validity_has}
pub use Rattle.cert.proofs.ExtensionLaws.{is_extension, extension_is, as_extension, of_extension}
pub use Rattle.cert.proofs.KeyUsageLaws.{is_key_usage, key_usage_is}
pub use Rattle.cert.proofs.BasicConstraintsLaws.{are_basic_constraints, basic_constraints_are}
pub use Rattle.cert.proofs.PurposesLaws.{are_purposes, purposes_are}
pub use Rattle.cert.proofs.AlternativeNamesLaws.{are_alternative_names, alternative_names_are}
pub use Rattle.cert.proofs.NameConstraintsLaws.{are_name_constraints, name_constraints_are}
pub use Rattle.cert.proofs.KeyInfoLaws.{is_key_info, key_info_is}
pub use Rattle.cert.proofs.ExtensionListLaws.{are_extensions, extensions_are}
pub use Rattle.cert.proofs.CertificateLaws.{is_tbs, tbs_is, is_certificate_at, certificate_at_is, certificate_is_exact, certificate_is_unique}
pub use Rattle.cert.proofs.FaultPlaces.{begins_at, Left, members_left}
pub use Rattle.cert.proofs.FaultSteps.{Within, Any, and_then, refused, Next, NextIs, StandsWhereThere, check_within, is_a_within, required_within, optional_stands, next_within, ended_within, or_fault_within}
pub use Rattle.cert.proofs.ExtensionFaults.{nested_within, ValueStands, extension_within}
