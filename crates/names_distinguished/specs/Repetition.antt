-- The types of the attributes of an RDN, and how far an RDN is known to repeat none.
use Rattle.std.specs.Prelude.{◌≡◌, ◌<◌, ◌≤◌, ℕ, Bool, true, false, List, [], ◌∷◌, ◌++◌, length, map, Option, Some, None, if◌then◌else◌}
use Rattle.std.specs.List.{AllByRecursion}
use Rattle.std.specs.Ordering.{nat_cmp, is_lt}
use Rattle.std.specs.Cmp.Lexicographic.{slice_cmp}
use Rattle.asn.specs.Identifier.{is_constructed}
use Rattle.asn.specs.Place.{Place, tag, body}
use Rattle.asn.specs.Members.{members, left}
use Rattle.asn.specs.declared.tlv.Cursor.{Cursor}
use Rattle.names_distinguished.specs.declared.kinds.Kinds.{Kinds}
use Rattle.names_distinguished.specs.declared.repetition.Pointer.{Pointer}
use Rattle.names_distinguished.specs.declared.kinds.PlacedKind.{PlacedKind}

-- the contents of the first member of the attribute at a place, which is its type
abbrev pub first_body : List Place → List ℕ
first_body [] = []
first_body (kind ∷ others) = body kind

unfoldable pub kind_at : Place → List ℕ
kind_at place = if is_constructed (tag place) then first_body (members place).values else []

-- where an attribute stands, and its type
abbrev pub Placed : Type 0
Placed = ℕ × List ℕ

abbrev pub placed_at : Place → Placed
placed_at place = (place.at, kind_at place)

-- the types of the attributes that a cursor has left
unfoldable pub kinds_left : Cursor → List Placed
kinds_left attributes = map placed_at (left attributes).values

abbrev pub kinds_of : Kinds → List Placed
kinds_of kinds = kinds_left kinds.attributes

-- the first of these types, and those behind it
abbrev pub IsFirstKind : Kinds → Kinds → PlacedKind → Type 0
IsFirstKind old new next = kinds_of old ≡ (next.at, next.kind.now) ∷ kinds_of new

abbrev pub with_next : Option PlacedKind → List Placed → List Placed
with_next None others = []
with_next (Some next) others = (next.at, next.kind.now) ∷ others

unfoldable pub pointed : Pointer → List Placed
pointed pointer = with_next pointer.next (kinds_of pointer.others)

-- shorter types come first, and those of one length in the order of their octets
unfoldable pub comes_before : List ℕ → List ℕ → Bool
comes_before kind other = is_lt (slice_cmp nat_cmp (length kind ∷ kind) (length other ∷ other))

-- The words below speak of attributes up to the first that stands at the limit or behind it.

-- the types ascend, behind this type
abbrev pub Rises : ℕ → List ℕ → List Placed → Type 0
Rises limit kind [] = Unit {0}
Rises limit kind (x ∷ xs) = x.0 < limit → (comes_before kind x.1 ≡ true) × Rises limit x.1 xs

abbrev pub Ascends : ℕ → List Placed → Type 0
Ascends limit [] = Unit {0}
Ascends limit (x ∷ xs) = x.0 < limit → Rises limit x.1 xs

-- none of them has the type
abbrev pub LacksType : ℕ → List ℕ → List Placed → Type 0
LacksType limit kind [] = Unit {0}
LacksType limit kind (x ∷ xs) = x.0 < limit → (x.1 ≡ kind → ⊥) × LacksType limit kind xs

-- the first of them doesn't come before the type
abbrev pub EndsBefore : ℕ → List ℕ → List Placed → Type 0
EndsBefore limit kind [] = Unit {0}
EndsBefore limit kind (x ∷ xs) = x.0 < limit → comes_before x.1 kind ≡ false

-- what is left of a run has all of it that does not come before the type
pub record Covers (kind : List ℕ) (run rest : List Placed) : Type 0 where
  pub back : (other : List ℕ) (limit : ℕ) → comes_before other kind ≡ false → LacksType limit other rest → LacksType limit other run

-- the types of a run that come before the type were passed over
pub record IsPast (kind : List ℕ) (limit : ℕ) (run rest : List Placed) : Type 0 where
  pub covers : Covers kind run rest
  pub ascends : Ascends limit run → Ascends limit rest
  pub stops : EndsBefore limit kind rest

-- a search goes on for a type behind another, in what is left of the run or in the run
pub record SearchGoesOn (last kind : List ℕ) (run rest chosen : List Placed) : Type 0 where
  pub covers : Covers last run rest → Covers kind run chosen
  pub ascends : (limit : ℕ) → Ascends limit run → Ascends limit rest → Ascends limit chosen

-- the same of places in a run
abbrev pub GoesOnFrom : List ℕ → List ℕ → Kinds → Pointer → Pointer → Type 0
GoesOnFrom last kind run old new = SearchGoesOn last kind (kinds_of run) (pointed old) (pointed new)

-- the limit before the type, if it is the first
pub record IsLimitBefore (kind : List ℕ) (limit : ℕ) (rest : List Placed) (least : ℕ) : Type 0 where
  pub within : least ≤ limit
  pub apart : Ascends limit rest → EndsBefore limit kind rest → LacksType least kind rest

-- no attribute that stands before the offset has the type
abbrev pub IsNew : ℕ → List ℕ → List Placed → Type 0
IsNew at kind [] = Unit {0}
IsNew at kind (x ∷ xs) = (x.0 ≡ at → ⊥) → (x.1 ≡ kind → ⊥) × IsNew at kind xs

-- of the attributes of an RDN these have types that no earlier one has
abbrev pub AreNew : List Placed → ℕ → List Placed → Type 0
AreNew all limit [] = Unit {0}
AreNew all limit (x ∷ xs) = x.0 < limit → IsNew x.0 x.1 all × AreNew all limit xs

-- what is left of a list, at the offset: all before it stands before the offset
pub record IsRest (all rest : List Placed) (at : ℕ) : Type 0 where
  pub earlier : List Placed
  pub joined : all ≡ earlier ++ rest
  pub below : AllByRecursion (λ x. x.0 < at) earlier
