mod Joining
mod Leaving
mod Ranks
mod OneOutcome
mod Asking
