mod Told
mod OneAnswer
mod WalkedBases
mod FoundNames
mod Adding
mod SameEmails
mod WalkedHosts
pub mod Laws
mod OtherConstraints
mod FaultPlaces
mod OwnBases
