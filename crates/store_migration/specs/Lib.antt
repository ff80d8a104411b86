pub mod Texts
pub mod Grouped
pub mod Moved
pub mod Migrates
pub mod Moves
pub mod Widens
