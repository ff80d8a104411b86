mod Chains
mod Looking
mod Nothing
mod Owning
mod Listing
mod Saying
mod Trees
pub mod HeldLaws
