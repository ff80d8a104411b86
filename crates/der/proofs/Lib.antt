mod Numbers
mod Headers
mod Prefixes
mod Fronts
mod Served
mod Sound
mod Clean
mod Faults
mod Accepts
mod Parts
mod OneEncoding
mod OneFault
mod Decide
mod KnownFronts
mod Waiting
pub mod Laws
