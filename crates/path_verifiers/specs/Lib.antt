pub mod Accepts
pub mod Fingerprint
pub mod FramingLaws
pub mod ListVerifier
