mod Chains
mod Forms
mod Issuing
mod Causing
mod Outcomes
mod Storing
mod Deliveries
pub mod Laws
