-- The laws that other crates may cite.
pub use Rattle.names_hosts.proofs.HostTexts.{same_folded, same_host}
pub use Rattle.names_hosts.proofs.HostLaws.{host_base_is_one}
pub use Rattle.names_hosts.proofs.HostTests.{host_test_is_exact, host_base_is_exact}
pub use Rattle.names_hosts.proofs.MailTests.{mail_name_is_exact, mail_base_is_exact, mail_name_is_one, mail_base_is_one}
pub use Rattle.names_hosts.proofs.UriTexts.{uri_host_is_one}
pub use Rattle.names_hosts.proofs.UriTests.{uri_host_is_exact}
