-- The laws that other crates may cite.
pub use Rattle.cert_policies.proofs.PoliciesLaws.{are_policies, policies_are}
pub use Rattle.cert_policies.proofs.MappingsLaws.{are_mappings, mappings_are}
pub use Rattle.cert_policies.proofs.ConstraintsLaws.{are_constraints, constraints_are}
pub use Rattle.cert_policies.proofs.AnyPolicyLaws.{is_inhibit_any_policy, inhibit_any_policy_is}
pub use Rattle.cert_policies.proofs.PolicyFieldLaws.{policies_by_field}
pub use Rattle.cert_policies.proofs.PolicyFaults.{policy_fault_is_of_value}
