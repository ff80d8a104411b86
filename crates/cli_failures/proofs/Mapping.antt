-- Tests over a list whose elements are seen as others.
use Rattle.std.proofs.Common.{◌≡◌, List, [], ◌∷◌, Bool, map, ap, refl, ◌&&◌}
use Rattle.std.specs.List.{list_all}

pub list_all-map : {X Y : Type 0} (test : Y → Bool) (seen : X → Y) (xs : List X) → list_all test (map seen xs) ≡ list_all (λ x. test (seen x)) xs
list_all-map test seen [] = refl
list_all-map test seen (x ∷ xs) = ap (λ (rest : Bool). test (seen x) && rest) (list_all-map test seen xs)
