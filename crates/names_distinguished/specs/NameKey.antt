-- The key of a name: octets that two names share exactly where they match.
use Rattle.std.specs.Prelude.{◌≡◌, ◌↔◌, ◌<◌, ◌^◌, ℕ, nat_eq, List, ◌∷◌, ◌++◌, length}
use Rattle.std.specs.List.{flat_map, starts_with, AllByRecursion}
use Rattle.std.specs.Int.{to_be_bytes, w32}
use Rattle.std.specs.FinMap.{entries}
use Rattle.names_distinguished.specs.AttributeValue.{ComparedValue, Text, Other}
use Rattle.names_distinguished.specs.DistinguishedName.{ComparedAttribute, RdnMap, NamesMatch, is_within}

-- a number in four octets, the highest first
abbrev pub four_octets : ℕ → List ℕ
four_octets n = to_be_bytes w32 n

-- octets after their number
abbrev pub counted : List ℕ → List ℕ
counted octets = four_octets (length octets) ++ octets

abbrev pub value_key : ComparedValue → List ℕ
value_key (Text text) = 1 ∷ counted text
value_key (Other octets) = 0 ∷ counted octets

abbrev pub entry_key : ComparedAttribute → List ℕ
entry_key e = counted e.0 ++ value_key e.1

-- the attributes, ascending by type
abbrev pub rdn_key : RdnMap → List ℕ
rdn_key m = four_octets (length (entries m)) ++ flat_map entry_key (entries m)

unfoldable pub name_key : List RdnMap → List ℕ
name_key rdns = four_octets (length rdns) ++ flat_map rdn_key rdns

-- the same without the number of the sets
unfoldable pub rdns_key : List RdnMap → List ℕ
rdns_key rdns = flat_map rdn_key rdns

-- the numbers fit in four octets
abbrev pub ValueFits : ComparedValue → Type 0
ValueFits (Text text) = length text < 2 ^ 32
ValueFits (Other octets) = length octets < 2 ^ 32

pub record EntryFits (e : ComparedAttribute) : Type 0 where
  pub type_fits : length e.0 < 2 ^ 32
  pub value_fits : ValueFits e.1

pub record RdnFits (m : RdnMap) : Type 0 where
  pub count_fits : length (entries m) < 2 ^ 32
  pub each : AllByRecursion EntryFits (entries m)

pub record NameFits (rdns : List RdnMap) : Type 0 where
  pub count_fits : length rdns < 2 ^ 32
  pub each : AllByRecursion RdnFits rdns

-- fewer than 2^32 attributes that fit
pub record SetFits (attributes : List ComparedAttribute) : Type 0 where
  pub count : length attributes < 2 ^ 32
  pub each : AllByRecursion EntryFits attributes

-- two names have one key exactly where they match
abbrev pub KeyIsExact : Type 0
KeyIsExact =
    (left right : List RdnMap) → NameFits left → NameFits right →
    (name_key left ≡ name_key right ↔ NamesMatch left right)

-- a key tells where it ends: of octets that begin with the key of a name, that name and what stands behind its key are one
abbrev pub KeyTellsItsEnd : Type 0
KeyTellsItsEnd =
    (left right : List RdnMap) (behind after : List ℕ) → NameFits left → NameFits right →
    name_key left ++ behind ≡ name_key right ++ after → NamesMatch left right × (behind ≡ after)

-- a name lies within another exactly where the one's key of sets begins with the other's
abbrev pub WithinIsByKeys : Type 0
WithinIsByKeys =
    (inner outer : List RdnMap) → NameFits inner → NameFits outer →
    is_within inner outer ≡ starts_with nat_eq (rdns_key inner) (rdns_key outer)
