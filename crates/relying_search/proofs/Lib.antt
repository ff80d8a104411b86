mod Standing
mod Same
mod Downward
pub mod Laws
mod AmongStanding
mod AmongSame
mod Every
mod Ending
mod Reasons
pub mod AmongLaws
