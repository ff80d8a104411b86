mod Splitting
mod Words
mod PreparedText
mod PreparationLaws
pub mod Laws
