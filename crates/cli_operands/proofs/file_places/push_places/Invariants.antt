use Rattle.std.proofs.Common.{map}
use Rattle.cli_answers.specs.SearchText.{seen_place}
use Rattle.cli_operands.specs.FilePlaces.{GrowsByPlaces}
use Rattle.cli_operands.proofs.file_places.push_places.Given as goal

abbrev pub invariant-loop-index : goal.invariant-loop-index
invariant-loop-index l =
    (goal.iterator-loop-index).can_next l.index-iterator
    × (goal.iterator-loop-index).is_finite l.index-iterator
    × GrowsByPlaces l.files (map (λ index. index.now) l.yielded) (map seen_place l.fn.places.items) (map seen_place l.places.items)
