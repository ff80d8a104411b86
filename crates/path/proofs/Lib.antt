mod Rooms
mod Deciding
mod Issuers
mod Passing
mod Outcomes
mod WideCertificates
mod Readings
mod Profiles
pub mod Laws
