use Rattle.path_host_constraints.proofs.Laws.{none_is_left, narrowed_is_left, permit_exactly, exclude_exactly, find_hosts_exactly, permit_alone, exclude_alone, find_hosts_alone}
use Rattle.path_host_constraints.proofs.left_by.host_constraints_laws.Goals as goal

pub returns : goal.returns
returns c = record {
  first = none_is_left;
  narrowed = narrowed_is_left;
  permit = permit_exactly;
  exclude = exclude_exactly;
  find = find_hosts_exactly;
  alone = λ above c held made. (permit_alone above c held made, exclude_alone above c held made, find_hosts_alone above c held made);
  few = λ says j held left. left.few;
}
