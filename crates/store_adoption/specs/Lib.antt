pub mod Version1
pub mod Creates
pub mod Texts
pub mod Cells
pub mod Tests
pub mod Seen
pub mod Inspects
pub mod Read
