pub mod Laws
mod Joining
mod Downward
mod Found
