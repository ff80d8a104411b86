mod EntryAgain
mod OneExtension
mod ListedAgain
mod FirstReason
mod Numbers
mod ExtensionTypes
mod ReasonLaws
mod EntryLaws
mod IssuingPointLaws
mod ListExtensionLaws
mod ListLaws
mod Profiles
pub mod Laws
