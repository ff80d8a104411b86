mod Saturation
mod OidSets
mod AlgorithmLaws
mod ValidityLaws
mod ExtensionLaws
mod VersionLaws
mod KeyInfoLaws
mod ContainedValues
mod AddedItems
mod Rooms
mod KeyUsageLaws
mod PathLengths
mod BasicConstraintsLaws
mod PurposesLaws
mod AlternativeNamesLaws
mod NameConstraintsLaws
mod Sayings
mod NewTypes
mod ExtensionListLaws
mod ExtensionTypes
mod FieldLaws
mod TbsLaws
mod CertificateLaws
mod FaultPlaces
mod FaultSteps
mod NameFaults
pub mod KeptValues
mod ExtensionFaults
mod CertificateFaults
pub mod StandingValues
pub mod Laws
