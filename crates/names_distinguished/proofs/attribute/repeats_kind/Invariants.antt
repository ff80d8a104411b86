use Rattle.std.proofs.Common.{◌≡◌, length}
use Rattle.asn.specs.Members.{left}
use Rattle.names_distinguished.specs.NameLayout.{has_kind_before}
use Rattle.names_distinguished.proofs.attribute.repeats_kind.Given as goal

abbrev pub invariant-loop-attribute : goal.invariant-loop-attribute
invariant-loop-attribute l = has_kind_before l.kind l.at (left l.earlier).values ≡ has_kind_before l.kind l.at (left l.fn.all).values

abbrev pub decreases-loop-attribute : goal.decreases-loop-attribute
decreases-loop-attribute l = length (left l.earlier).values
