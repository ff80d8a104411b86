-- Distinguished names as they are compared (RFC 5280, 7.1): lists of sets of attributes, a set being a finite map from
-- types to values.
use Rattle.std.specs.Prelude.{◌≡◌, ◌↔◌, ℕ, List, ◌++◌, Bool, false, ◌&&◌, IsTrue, nat_eq, Any, Option}
use Rattle.std.specs.List.{starts_with}
use Rattle.std.specs.Ordering.{nat_cmp}
use Rattle.std.specs.Cmp.Lexicographic.{slice_cmp, pointwise}
use Rattle.std.specs.FinMap.{FinMap, from_entries, entries, contains_key, find}
use Rattle.names_distinguished.specs.AttributeValue.{ComparedValue, Text, Other}

-- an attribute as it is compared: the contents of its type's object identifier, and its value
abbrev pub ComparedAttribute : Type 0
ComparedAttribute = List ℕ × ComparedValue

-- a relative distinguished name, ascending by type; of attributes of one type the first counts
abbrev pub RdnMap : Type 0
RdnMap = FinMap (slice_cmp nat_cmp) ComparedValue

unfoldable pub rdn_map : List ComparedAttribute → RdnMap
rdn_map attributes = from_entries attributes

-- the names match (RFC 5280, 7.1)
abbrev pub NamesMatch : List RdnMap → List RdnMap → Type 0
NamesMatch left right = left ≡ right

-- the first name lies within the second: it begins with it (RFC 5280, 4.2.1.10 and 7.1)
pub record IsWithin (inner outer : List RdnMap) : Type 0 where
  pub rest : List RdnMap
  pub joined : inner ≡ outer ++ rest

-- some attribute of the name has the type
abbrev pub HasKind : List ℕ → List RdnMap → Type 0
HasKind kind name = Any (λ rdn. IsTrue (contains_key rdn kind)) name

-- the value of the type in a set, as it is compared
unfoldable pub value_at : List ℕ → List ComparedAttribute → Option ComparedValue
value_at kind attributes = find (slice_cmp nat_cmp) kind attributes

-- two sets have the same value of the type, or both none
pub record AgreeAt (left right : List ComparedAttribute) (kind : List ℕ) : Type 0 where
  pub same : value_at kind left ≡ value_at kind right

-- tests of these facts

abbrev pub same_value : ComparedValue → ComparedValue → Bool
same_value (Text a) (Text b) = pointwise nat_eq a b
same_value (Other a) (Other b) = pointwise nat_eq a b
same_value _ _ = false

abbrev pub same_entry : ComparedAttribute → ComparedAttribute → Bool
same_entry d e = pointwise nat_eq d.0 e.0 && same_value d.1 e.1

abbrev pub same_rdn : RdnMap → RdnMap → Bool
same_rdn m n = pointwise same_entry (entries m) (entries n)

unfoldable pub matching : List RdnMap → List RdnMap → Bool
matching left right = pointwise same_rdn left right

unfoldable pub is_within : List RdnMap → List RdnMap → Bool
is_within inner outer = starts_with same_rdn inner outer

-- what the tests decide

abbrev pub MatchingIsExact : Type 0
MatchingIsExact = (left right : List RdnMap) → (IsTrue (matching left right) ↔ NamesMatch left right)

abbrev pub WithinIsExact : Type 0
WithinIsExact = (inner outer : List RdnMap) → (IsTrue (is_within inner outer) ↔ IsWithin inner outer)
