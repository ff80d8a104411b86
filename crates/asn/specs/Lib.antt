pub mod Part
pub mod Place
pub mod Members
pub mod Shows
pub mod Walk
pub mod Reading
pub mod Outermost
pub mod Layout
pub mod ListLayout
pub mod Size
pub mod Integer
pub mod NumberLaws
pub mod Oid
pub mod Time
pub use Rattle.der.specs.Value
pub use Rattle.der.specs.Identifier
pub use Rattle.der.specs.Length
pub use Rattle.der.specs.Contents
pub use Rattle.der.specs.Encoding
pub use Rattle.der.specs.Fault as DerFault
pub use Rattle.der.specs.FirstFault
pub use Rattle.der.specs.Laws as DerLaws
pub use Rattle.der.specs.declared.fault.Rule
