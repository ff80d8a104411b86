pub mod Stored
pub mod Standing
pub mod OnFiles
