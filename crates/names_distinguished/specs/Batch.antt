-- Attributes in the order of their types, of no two of one type.
use Rattle.std.specs.Prelude.{◌≡◌, ◌<◌, ℕ, Bool, true, false, ◌&&◌, List, [], ◌∷◌, ◌++◌, None, is_some}
use Rattle.std.specs.List.{AllByRecursion}
use Rattle.names_distinguished.specs.DistinguishedName.{ComparedAttribute, value_at}
use Rattle.names_distinguished.specs.Repetition.{Placed, comes_before}
use Rattle.names_distinguished.specs.Agreement.{IsCount, AllFit}

-- the types ascend, behind this type
unfoldable pub rises_from : List ℕ → List ComparedAttribute → Bool
rises_from last [] = true
rises_from last (e ∷ es) = comes_before last e.0 && rises_from e.0 es

unfoldable pub is_ascending : List ComparedAttribute → Bool
is_ascending [] = true
is_ascending (e ∷ es) = rises_from e.0 es

-- the first of these does not come before the type
abbrev pub StartsUpto : List ℕ → List ComparedAttribute → Type 0
StartsUpto kind [] = Unit {0}
StartsUpto kind (e ∷ es) = comes_before e.0 kind ≡ false

-- where a type has its place: those before it come before the type, and the next doesn't
pub record IsPlaceOf (kind : List ℕ) (front back : List ComparedAttribute) : Type 0 where
  pub before : AllByRecursion (λ e. comes_before e.0 kind ≡ true) front
  pub upto : StartsUpto kind back

-- the first of these does not have the type
abbrev pub StartsApart : List ℕ → List ComparedAttribute → Type 0
StartsApart kind [] = Unit {0}
StartsApart kind (e ∷ es) = e.0 ≡ kind → ⊥

-- an attribute of a new type was added
pub record IsAdded (e : ComparedAttribute) (old new : List ComparedAttribute) : Type 0 where
  pub absent : value_at e.0 old ≡ None
  pub values : (kind : List ℕ) → value_at kind new ≡ value_at kind (e ∷ old)

-- types that stand in a batch, of no two the same
abbrev pub AreHeld : List ComparedAttribute → List Placed → Type 0
AreHeld batch taken = AllByRecursion (λ x. is_some (value_at x.1 batch) ≡ true) taken

abbrev pub HaveOther : List ℕ → List Placed → Type 0
HaveOther kind taken = AllByRecursion (λ x. x.1 ≡ kind → ⊥) taken

abbrev pub AreUnlike : List Placed → Type 0
AreUnlike [] = Unit {0}
AreUnlike (x ∷ xs) = HaveOther x.1 xs × AreUnlike xs

-- what is left stands at the limit or is nothing
abbrev pub BeginsAt : ℕ → List Placed → Type 0
BeginsAt limit [] = Unit {0}
BeginsAt limit (x ∷ xs) = x.0 ≡ limit

-- the types before the limit were taken into a batch
pub record IsBatchOf (kinds : List Placed) (limit : ℕ) (batch : List ComparedAttribute) : Type 0 where
  pub taken : List Placed
  pub rest : List Placed
  pub joined : kinds ≡ taken ++ rest
  pub begins : BeginsAt limit rest
  pub held : AreHeld batch taken
  pub unlike : AreUnlike taken

-- the first attributes of a set were taken into a batch, one at least
pub record IsBatchOfSet (set rest batch : List ComparedAttribute) : Type 0 where
  pub first : ComparedAttribute
  pub others : List ComparedAttribute
  pub joined : set ≡ (first ∷ others) ++ rest
  pub values : (kind : List ℕ) → value_at kind batch ≡ value_at kind (first ∷ others)

-- of these types none that stands before the offset is in the batch
abbrev pub NoneBefore : ℕ → List ComparedAttribute → List Placed → Type 0
NoneBefore start batch [] = Unit {0}
NoneBefore start batch (x ∷ xs) = x.0 < start → (value_at x.1 batch ≡ None) × NoneBefore start batch xs

-- of the set the first attributes, one at least, were looked for in another: so many were found, each with its value
pub record IsFrontCount (set other rest : List ComparedAttribute) (count : ℕ) : Type 0 where
  pub first : ComparedAttribute
  pub others : List ComparedAttribute
  pub joined : set ≡ (first ∷ others) ++ rest
  pub counts : IsCount (first ∷ others) other count

-- one of the first attributes of the set was found with another value
pub record FrontDiffers (set other : List ComparedAttribute) : Type 0 where
  pub front : List ComparedAttribute
  pub rest : List ComparedAttribute
  pub joined : set ≡ front ++ rest
  pub differs : AllFit front other → ⊥
