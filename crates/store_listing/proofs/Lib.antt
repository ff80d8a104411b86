mod Meaning
mod Counting
mod Told
mod Composing
mod Shown
mod Once
