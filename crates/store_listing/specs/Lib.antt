pub mod Counts
pub mod Listing
pub mod Cells
pub mod Texts
pub mod Reads
pub mod Laws
