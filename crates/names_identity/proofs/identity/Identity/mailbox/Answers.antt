use Rattle.std.proofs.Common.{sym, subst}
use Rattle.names_identity.specs.Host.{IsHost}
use Rattle.names_identity.proofs.MailboxTexts.{one_division}
use Rattle.names_identity.proofs.identity.Identity.mailbox.Goals as goal

pub returns-in-Err-check_host-clause-accepts : goal.returns-in-Err-check_host-clause-accepts
returns-in-Err-check_host-clause-accepts c = λ local host m.
    let parts = c.in-Ok.parts in
    let one = one_division c.args.text.now parts.0.now parts.1.now local host c.in-Ok.ensures.divides m.divided in
    c.in-Err-check_host.ensures.accepts.0 (subst IsHost (sym one.1) m.behind)
