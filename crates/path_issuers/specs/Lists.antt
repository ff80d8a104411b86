-- Lists of places, one for each number.
use Rattle.std.specs.Prelude.{◌≡◌, ◌<◌, ℕ, List, [], ◌∷◌, ◌++◌, Contains, length, map, slice_index, slice_index_or}
use Rattle.std.specs.Global.{Vec}
use Rattle.std.specs.List.Sorted.{IsStrictlyIncreasing}

abbrev pub lists_of : List (Vec ℕ) → List (List ℕ)
lists_of lists = map (λ (list : Vec ℕ). list.items) lists

-- the list at a place; an empty one if there is none
abbrev pub list_at : List (List ℕ) → ℕ → List ℕ
list_at lists place = slice_index_or lists place []

-- for each number, the places before a bound where it stands, in order
pub record ArePlacesBefore (bound : ℕ) (numbers : List ℕ) (lists : List (List ℕ)) : Type 0 where
  pub places : (number place : ℕ) → Contains (list_at lists number) place → (place < bound) × (slice_index numbers place ≡ number)
  pub all : (place : ℕ) → place < bound → Contains (list_at lists (slice_index numbers place)) place
  pub ascending : (number : ℕ) → IsStrictlyIncreasing (list_at lists number)

-- for each number, the places where it stands, in order
abbrev pub ArePlacesByNumber : List ℕ → List (List ℕ) → Type 0
ArePlacesByNumber numbers lists = ArePlacesBefore (length numbers) numbers lists

-- the place is added to the lists at some places, and to no other
pub record Adds (place : ℕ) (ats : List ℕ) (old new : List (List ℕ)) : Type 0 where
  pub added : (at : ℕ) → Contains ats at → list_at new at ≡ list_at old at ++ place ∷ []
  pub kept : (at : ℕ) → ¬ Contains ats at → list_at new at ≡ list_at old at

-- for each place, those before a bound in whose lists it is, in order
pub record AreTurnedBefore (bound : ℕ) (lists turned : List (List ℕ)) : Type 0 where
  pub places : (place at : ℕ) → Contains (list_at turned at) place → (place < bound) × Contains (list_at lists place) at
  pub all : (place at : ℕ) → place < bound → Contains (list_at lists place) at → Contains (list_at turned at) place
  pub ascending : (at : ℕ) → IsStrictlyIncreasing (list_at turned at)

-- for each place, those in whose lists it is, in order
abbrev pub AreTurned : List (List ℕ) → List (List ℕ) → Type 0
AreTurned lists turned = AreTurnedBefore (length lists) lists turned
