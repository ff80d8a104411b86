mod Searching
mod Framing
