pub mod Failures
pub mod Report
pub mod Topics
