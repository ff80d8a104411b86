-- Keys of names, in order.
use Rattle.std.specs.Prelude.{ℕ, List, Bool, Contains, count_by}
use Rattle.std.specs.Global.{Vec}
use Rattle.std.specs.Ordering.{nat_cmp, is_lt}
use Rattle.std.specs.Cmp.Lexicographic.{slice_cmp}
use Rattle.path_issuers.specs.Lists.{lists_of}

abbrev pub is_less : List ℕ → List ℕ → Bool
is_less one other = is_lt (slice_cmp nat_cmp one other)

abbrev pub comes_before : Vec ℕ → Vec ℕ → Bool
comes_before one other = is_less one.items other.items

-- how many of the keys come before another
abbrev pub number_of : List (Vec ℕ) → List ℕ → ℕ
number_of keys key = count_by (λ (other : Vec ℕ). is_less other.items key) keys

abbrev pub HasKey : List (Vec ℕ) → List ℕ → Type 0
HasKey keys key = Contains (lists_of keys) key
