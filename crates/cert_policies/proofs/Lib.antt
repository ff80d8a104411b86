mod ContainedValues
mod Places
mod Numbers
mod AddedItems
mod NewPolicies
mod PoliciesLaws
mod MappingsLaws
mod AnyPolicyLaws
mod ConstraintsLaws
mod PolicyFieldLaws
mod FaultSteps
mod PolicyFaults
pub mod Laws
