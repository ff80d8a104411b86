mod HostTexts
mod HostLaws
mod HostTests
mod UriTexts
mod FirstCuts
mod MailLaws
mod MailTests
mod UriTests
pub mod Laws
mod Search
mod HostOrder
mod HostMembers
mod MailMembers
mod LastSplits
mod LocalParts
mod FullNames
mod Literals
