mod Answered
mod Passed
mod Searched
mod ToldPolicies
pub mod Beliefs
mod Composing
mod CrashLaws
mod Lines
