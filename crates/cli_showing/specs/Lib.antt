pub mod Shown
pub use Rattle.cli_printing.specs.Printed
pub use Rattle.cli_printing.specs.CertificateText
pub use Rattle.cli_printing.specs.CrlText
pub use Rattle.cli_printing.specs.ResponseText
pub use Rattle.cli_printing.specs.FingerprintText
