use Rattle.std.proofs.Common.{map, take}
use Rattle.std.specs.Prelude.{filter_map}
use Rattle.names.specs.GeneralView.{general_name}
use Rattle.cert_hosts.specs.Mailboxes.{AddsMail}
use Rattle.cert_hosts.specs.OwnNames.{mail_named}
use Rattle.cert_hosts.proofs.own_names.take_names.Given as goal

abbrev pub invariant-loop-name : goal.invariant-loop-name
invariant-loop-name l = AddsMail l.fn.mail l.mail (filter_map mail_named (map general_name (take l.name-index l.names)))
