pub mod Fault
pub mod Tables
pub mod Texts
pub mod Queries
pub mod Statements
pub mod Inside
pub mod Bindings
pub mod Cause
