pub mod Arcs
pub mod Decimals
pub mod Lines
pub mod Subidentifiers
mod Values
mod Certificates
mod Files
mod Places
mod NamedPolicies
pub mod Laws
