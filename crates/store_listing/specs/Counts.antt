-- How many entries each list has.
use Rattle.std.specs.Prelude.{◌≡◌, ◌+◌, ◌*◌, ◌≤◌, ◌==◌, ℕ, List, if◌then◌else◌}
use Rattle.std.specs.List.{count_by}
use Rattle.std.specs.Option.{unwrap_or}
use Rattle.std.specs.Ordering.{nat_cmp}
use Rattle.std.specs.BTreeMap.{BTreeMap, get}

-- the number of a list; the places of its entries begin at 2^32 times this
abbrev pub list_number : ℕ → ℕ → ℕ
list_number issuer scope = issuer * 4 + scope

-- how many of these are this number
abbrev pub how_many : ℕ → List ℕ → ℕ
how_many number numbers = count_by (λ other. other == number) numbers

-- ---- as the code counts them

abbrev pub held_count : BTreeMap ℕ ℕ → ℕ → ℕ
held_count counts number = unwrap_or (get nat_cmp counts number) 0

-- of each list so many as there are
abbrev pub AreCounted : BTreeMap ℕ ℕ → List ℕ → Type 0
AreCounted counts numbers = (number : ℕ) → held_count counts number ≡ how_many number numbers

-- one more of this list, and of the others as many
abbrev pub CountsOneMore : BTreeMap ℕ ℕ → BTreeMap ℕ ℕ → ℕ → Type 0
CountsOneMore old new list = (number : ℕ) → held_count new number ≡ held_count old number + (if list == number then 1 else 0)

-- no list has more entries than there are places for it
abbrev pub HaveRoom : List ℕ → Type 0
HaveRoom numbers = (number : ℕ) → how_many number numbers ≤ 4294967296
