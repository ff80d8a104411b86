mod Numbering
mod Factoring
mod Rising
mod Listing
mod Exploring
mod Numbers
mod Chaining
mod Reaching
mod Whole
mod Descending
mod Picking
mod Joining
mod Gathering
mod ByNumber
mod Asked
mod Agreeing
mod Signing
pub mod Laws
