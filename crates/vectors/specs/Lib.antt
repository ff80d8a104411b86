pub mod ToySignature
