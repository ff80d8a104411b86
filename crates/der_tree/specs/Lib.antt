pub mod Tree
pub mod Fault
pub use Rattle.asn.specs.Size
pub use Rattle.der.specs.Value
pub use Rattle.der.specs.Encoding
pub use Rattle.der.specs.FirstFault
