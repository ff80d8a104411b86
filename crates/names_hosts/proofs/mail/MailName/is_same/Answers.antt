use Rattle.std.proofs.Common.{◌∙◌, sym}
use Rattle.names_hosts.specs.Mail.{mail_text}
use Rattle.names_hosts.proofs.MailMembers.{same_by_order, other_by_order}
use Rattle.names_hosts.proofs.mail.MailName.is_same.Goals as goal

pub returns-then-is_eq : goal.returns-then-is_eq
returns-then-is_eq c = record {
  decides = same_by_order (mail_text c.args.self.now) (mail_text c.args.other.now) c.compare_locals.result c.is_same_host.result
      c.compare_locals.ensures (sym c.is_eq.ensures ∙ c.if-is_eq.true) c.is_same_host.ensures;
}

pub returns-else-is_eq : goal.returns-else-is_eq
returns-else-is_eq c = record {
  decides = other_by_order (mail_text c.args.self.now) (mail_text c.args.other.now) c.compare_locals.result c.is_eq.result
      c.compare_locals.ensures (sym c.is_eq.ensures ∙ c.if-is_eq.false) c.if-is_eq.false;
}
