use Rattle.std.proofs.Common.{map, take}
use Rattle.std.specs.Prelude.{option_map}
use Rattle.names_hosts.specs.Mail.{mail_text}
use Rattle.path_host_constraints.specs.Lists.{HasEach}
use Rattle.path_host_constraints.proofs.mail_lists.are_mailboxes.Given as goal

abbrev pub invariant-loop-found : goal.invariant-loop-found
invariant-loop-found l = HasEach (map (option_map mail_text) (take l.found-index l.names))
