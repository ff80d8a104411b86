mod ContainedValues
mod Places
mod AddedItems
mod NamesAmong
mod ListedNames
mod ReasonBits
mod RelativeParts
mod ChosenNames
mod OnePoint
mod ManyPoints
mod CompletePoints
mod LimitedPoints
mod PointsOfCertificate
mod FaultSteps
mod PointFaults
mod Answered
pub mod Laws
