mod Narrowed
mod Loops
mod MailBases
mod HostBases
mod Narrowing
pub mod Laws
