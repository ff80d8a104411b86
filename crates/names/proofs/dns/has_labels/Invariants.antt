use Rattle.std.proofs.Common.{◌≡◌, ◌≤◌, drop}
use Rattle.std.specs.List.{slice_split, list_all}
use Rattle.names.specs.Dns.{is_dot, is_label}
use Rattle.names.proofs.LabelWalk.{goes_on}
use Rattle.names.proofs.dns.has_labels.Given as goal

abbrev pub invariant-loop-octet : goal.invariant-loop-octet
invariant-loop-octet l = record {
  bounded : l.count ≤ l.octet-index;
  walk : goes_on l.count (slice_split is_dot (drop l.octet-index l.name)) ≡ list_all is_label (slice_split is_dot l.name);
}
