pub mod HostConditions
pub mod HostConstraints
pub mod Indexes
pub mod Lists
pub mod MailLists
pub mod HostLists
pub mod Laws
pub use Rattle.cert.specs.CertificateHosts
pub use Rattle.names_hosts.specs.Hosts
pub use Rattle.names_hosts.specs.Mail
pub use Rattle.names_hosts.specs.HostLists as HostBases
pub use Rattle.names_hosts.specs.MailLists as MailBases
