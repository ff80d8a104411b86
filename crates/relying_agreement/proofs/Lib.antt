mod Options
mod Places
pub mod Laws
mod StatusLaws
mod ValidLaws
mod HiddenLaws
mod WordLaws
mod VerdictLaws
mod Tests
mod AgreementLaws
mod ComparisonLaws
mod RunLaws
mod BecomingLaws
mod ExamplePath
mod ExampleLaws
mod KnownVerdictLaws
