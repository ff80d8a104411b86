use Rattle.std.proofs.Common.{map, refl}
use Rattle.names_hosts.specs.Mail.{mail_names}
use Rattle.path_host_constraints.proofs.Loops.{joined_fewer}
use Rattle.path_host_constraints.proofs.MailBases.{mail_nests, lying_mail, narrowed_mail}
use Rattle.path_host_constraints.proofs.mail_lists.narrow.Goals as goal

pub returns-then-lie_in-clause-narrows : goal.returns-then-lie_in-clause-narrows
returns-then-lie_in-clause-narrows c =
    lying_mail (mail_nests c.mail_laws.ensures.inside c.mail_laws.ensures.nested) c.args.held.now (map mail_names c.args.carried.now)
    c.in_ok-carried_index.carried_index (map mail_names c.bases.result.now) c.in_ok-carried_index.ensures c.bases.ensures (c.if-lie_in.ensures.0 refl)

pub returns-clause-narrows : goal.returns-clause-narrows
returns-clause-narrows c =
    narrowed_mail (mail_nests c.mail_laws.ensures.inside c.mail_laws.ensures.nested) c.args.held.now (map mail_names c.args.carried.now)
    c.in_ok-carried_index.carried_index c.in_ok-none.none (map mail_names c.bases-2.result.now) (map mail_names c.in_ok-kept.kept.items) c.in_ok-kept_index.kept_index
    (map mail_names c.in_ok-entering.entering.items) c.in_ok-list.list c.in_ok-carried_index.ensures c.in_ok-none.ensures c.bases-2.ensures c.in_ok-kept_index.ensures
    c.in_ok-kept.ensures.selects c.in_ok-entering.ensures.selects c.in_ok-list.ensures

pub returns-clause-fewer : goal.returns-clause-fewer
returns-clause-fewer c =
    joined_fewer mail_names c.bases-2.result.now c.args.carried.now c.in_ok-kept.kept.items c.in_ok-entering.entering.items c.args.held.now c.in_ok-kept_index.kept_index
    c.in_ok-list.list c.bases-2.ensures c.in_ok-kept_index.ensures c.in_ok-list.ensures c.in_ok-kept.ensures.fewer c.in_ok-entering.ensures.fewer
