mod AnyOrder
mod Ascending
mod ByPrefix
mod Finding
mod Prefixes
mod Sorting
mod NewestLaws
mod ComingLaws
mod Counting
pub mod Laws
