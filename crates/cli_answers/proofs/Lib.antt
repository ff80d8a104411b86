mod Fronts
pub mod Laws
pub mod Reading
