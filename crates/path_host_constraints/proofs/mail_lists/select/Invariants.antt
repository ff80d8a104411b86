use Rattle.std.proofs.Common.{◌≤◌, length, map, take}
use Rattle.names_hosts.specs.Mail.{mail_names}
use Rattle.path_host_constraints.specs.MailLists.{SelectsMail}
use Rattle.path_host_constraints.proofs.mail_lists.select.Given as goal

abbrev pub invariant-loop-base : goal.invariant-loop-base
invariant-loop-base l = record {
  selects : SelectsMail l.within l.except (map mail_names (take l.base-index l.list)) (map mail_names l.selected.items);
  fewer : length l.selected.items ≤ l.base-index;
}
