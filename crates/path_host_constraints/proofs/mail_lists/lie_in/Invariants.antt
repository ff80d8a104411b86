use Rattle.std.proofs.Common.{map, take}
use Rattle.names_hosts.specs.Mail.{mail_names}
use Rattle.path_host_constraints.specs.MailLists.{MailLieIn}
use Rattle.path_host_constraints.proofs.mail_lists.lie_in.Given as goal

abbrev pub invariant-loop-base : goal.invariant-loop-base
invariant-loop-base l = MailLieIn l.within (map mail_names (take l.base-index l.bases))
