use Rattle.std.proofs.Common.{◌≡◌, rules}
use Rattle.std.specs.Ordering.{is_lt}
use Rattle.std.proofs.lemmas.Result.{on_ok_weaker}
use Rattle.std.proofs.lemmas.List.Sorted.{answers_always, ranks_by}
use Rattle.names_hosts.specs.Mail.{mail_text}
use Rattle.names_hosts.specs.MailLists.{is_mail_before}
use Rattle.names_hosts.proofs.MailMembers.{mails_total}
use Rattle.names_hosts.proofs.mail_index.sort.Goals as goal

pub returns-clause-sorted : goal.returns-clause-sorted
returns-clause-sorted c = on_ok_weaker c.sort_by.result
    (λ sorted. sorted is_mail_before (ranks_by mails_total mail_text)
    (answers_always _ (λ a r. is_lt r ≡ is_mail_before a.0.now a.1.0.now) _ (λ f a r g k. search rules)))
    c.sort_by.ensures.sorted
