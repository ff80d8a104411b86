use Rattle.std.proofs.Common.{◌≡◌, ◌∙◌, rules, tests}
use Rattle.std.proofs.lemmas.Fn.{always_returns_same}
use Rattle.names_hosts.specs.Mail.{mail_text}
use Rattle.names_hosts.specs.MailLists.{mail_order, is_same_mailbox}
use Rattle.names_hosts.proofs.Search.{searched}
use Rattle.names_hosts.proofs.MailMembers.{mails_total, equal_mail_is_exact}
use Rattle.names_hosts.proofs.mail_index.finds.Goals as goal

pub returns : goal.returns
returns c =
    let name = mail_text c.args.name.now in
    let search_by = c.binary_search_by in
    c.is_ok.ensures.value
    ∙ searched mails_total mail_text name (λ one. is_same_mailbox name (mail_text one)) (λ one. equal_mail_is_exact name (mail_text one))
    c.args.mailboxes.now c.requires search_by.result search_by.ensures.bound
    (search_by.ensures.position (λ one. mail_order (mail_text one) name)
    (always_returns_same _ (λ a r. r ≡ mail_order (mail_text a.0.now) name) _ (λ a r g k. search (rules, tests))))
