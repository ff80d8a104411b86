pub mod Operands
pub mod Requests
