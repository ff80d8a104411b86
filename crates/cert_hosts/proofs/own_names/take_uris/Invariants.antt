use Rattle.std.proofs.Common.{map, take}
use Rattle.std.specs.Prelude.{filter_map}
use Rattle.names.specs.GeneralView.{general_name}
use Rattle.cert_hosts.specs.OwnNames.{AddsHosts, name_text}
use Rattle.cert_hosts.proofs.own_names.take_uris.Given as goal

abbrev pub invariant-loop-name : goal.invariant-loop-name
invariant-loop-name l = AddsHosts l.fn.hosts l.hosts (filter_map (name_text 6) (map general_name (take l.name-index l.names)))
