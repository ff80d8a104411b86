mod Dates
mod Writing
mod Under
mod Points
