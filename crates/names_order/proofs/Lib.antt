mod KeyLists
mod SameEnds
mod TextKeys
mod DomainTexts
mod BitKeys
mod BaseKeys
mod Members
mod KeySearch
mod Halving
mod Outermost
mod Indexed
mod Directories
pub mod Laws
