mod Clean
mod Filling
mod Runs
