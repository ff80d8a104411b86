use Rattle.cert_policies.proofs.PoliciesLaws.{are_policies, policies_are}
use Rattle.cert_policies.proofs.MappingsLaws.{are_mappings, mappings_are}
use Rattle.cert_policies.proofs.ConstraintsLaws.{are_constraints, constraints_are}
use Rattle.cert_policies.proofs.AnyPolicyLaws.{is_inhibit_any_policy, inhibit_any_policy_is}
use Rattle.cert_policies.proofs.PolicyFieldLaws.{policies_by_field}
use Rattle.cert_policies.proofs.PolicyFaults.{policy_fault_is_of_value}
use Rattle.cert_policies.proofs.layout.policy_layout_laws.Goals as goal

pub returns-clause-policies : goal.returns-clause-policies
returns-clause-policies c = λ octet_string found fits. (are_policies octet_string found fits, policies_are octet_string found)

pub returns-clause-mappings : goal.returns-clause-mappings
returns-clause-mappings c = λ octet_string found fits. (are_mappings octet_string found fits, mappings_are octet_string found)

pub returns-clause-constraints : goal.returns-clause-constraints
returns-clause-constraints c = λ octet_string found fits. (are_constraints octet_string found fits, constraints_are octet_string found fits)

pub returns-clause-inhibit_any_policy : goal.returns-clause-inhibit_any_policy
returns-clause-inhibit_any_policy c = λ octet_string found fits. (is_inhibit_any_policy octet_string found fits, inhibit_any_policy_is octet_string found fits)

pub returns-clause-by_field : goal.returns-clause-by_field
returns-clause-by_field c = policies_by_field

pub returns-clause-fault : goal.returns-clause-fault
returns-clause-fault c = policy_fault_is_of_value
