use Rattle.std.proofs.Common.{◌∙◌, ap, List}
use Rattle.names_hosts.specs.declared.mail.MailName.{MailName}
use Rattle.names_hosts.specs.Mail.{mail_text}
use Rattle.names_hosts.specs.MailLists.{is_one_mailbox}
use Rattle.names_hosts.proofs.MailMembers.{covered_here, covered_at_host}
use Rattle.names_hosts.proofs.mail_index.MailIndex.covers.Goals as goal

pub returns-then-finds : goal.returns-then-finds
returns-then-finds c =
    let i = c.self.inside in
    let name = mail_text c.args.name.now in
    record {
      decides = covered_here i.all.items i.mailboxes.items i.hosts c.args.self.now name c.finds.result c.self.invariant c.self.view_is
          (c.finds.ensures ∙ ap (λ (l : List MailName). is_one_mailbox l name) c.deref.ensures.value) c.if-finds.true;
    }

pub returns-else-finds : goal.returns-else-finds
returns-else-finds c =
    let i = c.self.inside in
    let name = mail_text c.args.name.now in
    record {
      decides = covered_at_host i.all.items i.mailboxes.items i.hosts c.args.self.now name c.finds.result c.covers.result c.self.invariant c.self.view_is
          (c.finds.ensures ∙ ap (λ (l : List MailName). is_one_mailbox l name) c.deref.ensures.value) c.if-finds.false c.covers.ensures.decides;
    }
