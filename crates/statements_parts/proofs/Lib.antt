mod KnownTypes
mod NewTypes
mod PartLaws
pub mod Laws
