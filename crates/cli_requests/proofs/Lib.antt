mod Digits
mod FirstPolicies
pub mod Names
pub mod Words
