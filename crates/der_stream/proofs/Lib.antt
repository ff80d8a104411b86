mod Streams
mod Longest
mod Fronts
mod Counted
mod Enough
mod Shown
