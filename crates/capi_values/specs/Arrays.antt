-- Arrays of the caller.
use Rattle.std.specs.Prelude.{◌≡◌, ◌++◌, ℕ, List, length, take, drop}

-- Of these values as many are written as there is room for, from the first on, and there are so many.
pub record AreWrittenTo {X : Type 0} (these old new : List X) (count : ℕ) : Type 0 where
  pub written : new ≡ take (length old) these ++ drop (length these) old
  pub count_is : count ≡ length these
