-- Lists that are kept in several indexes, of which each certificate may change the last ones.
use Rattle.std.specs.Prelude.{List, [], ◌∷◌, ◌++◌, Option, None, Some, take}
use Rattle.path_host_constraints.specs.declared.indexes.Joined.{Joined}

-- one index in place of all from a place on, where there is one
abbrev pub with_joined : {I : Type 0} → Option (Joined I) → List I → List I
with_joined None indexes = indexes
with_joined (Some joined) indexes = take joined.lasting indexes ++ joined.index ∷ []
