mod Storing
mod Standing
