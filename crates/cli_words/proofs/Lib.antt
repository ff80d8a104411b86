pub mod Turns
pub mod TreeWords
pub mod ShowWords
pub mod PrintsWords
pub mod DeliverWords
pub mod CheckWords
pub mod CompareWords
pub mod FindWords
pub mod ExplainWords
mod SessionWords
mod ListWords
mod Flaws
pub mod Values
mod Behind
pub mod Outcomes
mod PlainLines
mod Adding
