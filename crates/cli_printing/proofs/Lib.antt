mod Appending
mod Pieces
mod Shown
mod Joining
mod Delegates
mod SameText
mod Oids
mod Masks
pub mod Laws
