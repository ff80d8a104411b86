pub mod Shelves
pub mod Lasting
pub mod Runs
