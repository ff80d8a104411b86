use Rattle.std.proofs.Common.{◌≡◌, ◌+◌, ◌≤◌, length}
use Rattle.der.specs.Front.{SpeaksForWhole, octets_behind}
use Rattle.der.proofs.Waiting.{Lacks, steps_left}
use Rattle.der.proofs.values.check_nested.Given as goal

abbrev pub invariant-loop-rest : goal.invariant-loop-rest
invariant-loop-rest l = record {
  room : length l.behind ≡ 31;
  bounded : l.open ≤ 30;
  leads : SpeaksForWhole l.text (l.open + 2) l.rest (octets_behind l.behind l.open) (Lacks l.behind l.open l.text);
}

abbrev pub decreases-loop-rest : goal.decreases-loop-rest
decreases-loop-rest l = length l.rest + steps_left l.behind l.open
