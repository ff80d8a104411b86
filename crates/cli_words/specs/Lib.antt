pub mod App
pub mod QueryTexts
pub mod SearchTexts
pub mod PolicyTexts
pub mod CommandLine
pub mod PlainLine
pub mod RunOptions
