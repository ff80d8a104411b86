use Rattle.std.proofs.Common.{◌≡◌, [], length}
use Rattle.asn.specs.Members.{left}
use Rattle.asn.specs.Place.{remaining}
use Rattle.asn.specs.Walk.{each}
use Rattle.names_distinguished.specs.NameLayout.{attribute}
use Rattle.names_distinguished.specs.Repetition.{AreNew, IsRest, kinds_left}
use Rattle.names_distinguished.proofs.name.read_several_attributes.Given as goal

abbrev pub invariant-loop-tlv : goal.invariant-loop-tlv
invariant-loop-tlv l = record {
  walk : each (attribute (left l.all).values) l.before (left l.rest).values ≡ each (attribute (left l.all).values) [] (left l.all).values;
  rest : IsRest (kinds_left l.all) (kinds_left l.rest) (remaining l.rest).at;
  new : AreNew (kinds_left l.all) l.clear (kinds_left l.rest);
}

abbrev pub decreases-loop-tlv : goal.decreases-loop-tlv
decreases-loop-tlv l = length (left l.rest).values
