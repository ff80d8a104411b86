-- Attributes in the order of their types.
use Rattle.std.specs.Prelude.{◌≡◌, ◌<◌, ◌-◌, ℕ, List, Bool, map, take, drop, length}
use Rattle.std.specs.List.{slice_index_or}
use Rattle.std.specs.FinMap.{entries}
use Rattle.std.specs.List.Sorted.{IsSortedBy}
use Rattle.std.specs.Ordering.{nat_cmp, is_lt}
use Rattle.std.specs.Cmp.Lexicographic.{slice_cmp}
use Rattle.names_distinguished.specs.declared.attribute.Attribute.{Attribute}
use Rattle.names_distinguished.specs.DistinguishedName.{value_at, rdn_map}
use Rattle.names_distinguished.specs.NameView.{entry_of}
use Rattle.names_distinguished.specs.Batch.{IsPlaceOf}

abbrev pub has_lesser_kind : Attribute → Attribute → Bool
has_lesser_kind a b = is_lt (slice_cmp nat_cmp a.kind.now b.kind.now)

abbrev pub AscendsByKind : List Attribute → Type 0
AscendsByKind attributes = IsSortedBy has_lesser_kind attributes

-- the first attribute of each type has the same value in both lists
abbrev pub HasSameValues : List Attribute → List Attribute → Type 0
HasSameValues old new = (kind : List ℕ) → value_at kind (map entry_of new) ≡ value_at kind (map entry_of old)

-- the last of the attributes has the type
pub record EndsInKind (attributes : List Attribute) (kind : List ℕ) : Type 0 where
  pub some : 0 < length attributes
  pub same : (d : Attribute) → (slice_index_or attributes (length attributes - 1) d).kind.now ≡ kind

-- of the sorted attributes the first of each type, in their order
abbrev pub AreFirstOfEach : List Attribute → List Attribute → Type 0
AreFirstOfEach sorted list = map entry_of list ≡ entries (rdn_map (map entry_of sorted))

-- the place of a type among attributes
abbrev pub IsPlaceAmong : List Attribute → List ℕ → ℕ → Type 0
IsPlaceAmong sorted kind place = IsPlaceOf kind (map entry_of (take place sorted)) (map entry_of (drop place sorted))
