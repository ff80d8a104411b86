pub mod Held
pub mod Answers
pub mod LooksUp
pub mod Creation
pub mod Laws
