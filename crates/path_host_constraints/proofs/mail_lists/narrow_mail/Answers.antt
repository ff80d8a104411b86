use Rattle.std.proofs.Common.{map}
use Rattle.std.proofs.lemmas.Result.{IfOk-weaker}
use Rattle.names_hosts.specs.Mail.{mail_names}
use Rattle.path_host_constraints.specs.Lists.{changed}
use Rattle.path_host_constraints.proofs.Loops.{not_empty}
use Rattle.path_host_constraints.proofs.MailBases.{narrowed_to}
use Rattle.path_host_constraints.proofs.mail_lists.narrow_mail.Goals as goal

pub returns-clause-narrows : goal.returns-clause-narrows
returns-clause-narrows c =
    IfOk-weaker c.narrowed.result _ _
    (λ change is. narrowed_to c.args.list.now (map mail_names c.args.carried.now) (changed c.args.list.now change) (not_empty mail_names c.args.carried.now c.if-is_empty.ensures) is)
    c.narrowed.ensures.narrows
