mod Usage
mod Standing
mod Naming
