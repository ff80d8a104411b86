mod Folding
mod Slots
mod Runs
mod Deciding
mod Bearing
mod StatementsRead
mod SameIssuers
