use Rattle.std.proofs.Common.{◌≡◌, ◌+◌, ◌∷◌, map, take, reverse}
use Rattle.capi_values.proofs.finding.numbers_of.Given as goal

abbrev pub invariant-loop-index : goal.invariant-loop-index
invariant-loop-index l = l.numbers.items ≡ l.path.anchor ∷ map (λ place. l.anchors + 1 + place) (take l.index (reverse l.path.above.items))
