-- The laws that other crates may cite.
pub use Rattle.statements_facts.proofs.NewestLaws.{crls_keep_newest, responses_keep_newest, never_itself_crl, never_itself_ocsp}
pub use Rattle.statements_facts.proofs.ComingLaws.{comes_as_one, holds_newest, takes_both, one_crl_slot, one_ocsp_slot}
pub use Rattle.statements_facts.proofs.Counting.{one_more_taken, nothing_counted, one_more_counted, left_out}
