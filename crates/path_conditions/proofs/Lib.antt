mod Selecting
mod NarrowedLists
mod Members
mod Repeated
mod Tests
pub mod Laws
