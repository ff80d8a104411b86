mod Chained
mod Cells
mod Ordered
mod Meaning
mod Answered
mod Testing
mod Following
mod Stores
mod Typed
mod Inspecting
mod Placed
mod Decoded
mod Versions
mod Adopting
mod WithoutScopes
pub mod Laws
