pub mod AnswerText
pub mod Status
pub mod SearchText
pub mod Fronts
pub mod Lines
