pub mod Adopts
pub mod Opens
pub mod Crash
pub mod Widens
