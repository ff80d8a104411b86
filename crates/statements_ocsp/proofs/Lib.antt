mod PassedValues
mod SingleAgain
mod ListOfExtensions
mod StatusLaws
mod SingleLaws
mod ResponseLaws
mod KindLaws
pub mod Laws
