use Rattle.names_hosts.proofs.MailLaws.{mail_inside_is_exact, shared_mail_is_nested}
use Rattle.names_hosts.proofs.MailTests.{mail_name_is_exact, mail_base_is_exact, mail_name_is_one, mail_base_is_one}
use Rattle.names_hosts.proofs.Literals.{literals_are_at_no_hosts}
use Rattle.names_hosts.proofs.mail.mail_laws.Goals as goal

pub returns : goal.returns
returns c = record {
  name = mail_name_is_one;
  base = mail_base_is_one;
  inside = mail_inside_is_exact;
  nested = shared_mail_is_nested;
  exact_name = mail_name_is_exact;
  exact_base = mail_base_is_exact;
  literals = literals_are_at_no_hosts;
}
