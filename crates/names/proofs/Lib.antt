mod LabelWalk
mod DnsNames
mod Labels
mod DomainLaws
mod Ranges
mod Masks
mod BaseLaws
mod GeneralLaws
mod CoverageLaws
mod Subtrees
pub mod Laws
