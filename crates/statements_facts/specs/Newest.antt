-- The newest of the facts of a slot (RFC 5280, 5.2.3; RFC 6960, 2.4).
use Rattle.std.specs.Prelude.{◌≡◌, ◌↔◌, Bool, true, false, not, List, [], ◌∷◌, ◌++◌, Option, Some, None, find, if◌then◌else◌}
use Rattle.std.specs.List.{list_all, AllByRecursion}
use Rattle.std.specs.Option.{option_to_list}
use Rattle.std.specs.Ordering.{is_gt, nat_cmp, int_cmp, ordering_then}
use Rattle.statements_facts.specs.Statement.{CrlFact, OcspFact}

-- a list is newer by its number
abbrev pub newer_crl : CrlFact → CrlFact → Bool
newer_crl one other = is_gt (nat_cmp one.number other.number)

-- a response is newer by its times, thisUpdate before producedAt
abbrev pub newer_ocsp : OcspFact → OcspFact → Bool
newer_ocsp one other =
    is_gt (ordering_then (int_cmp one.times.this_update other.times.this_update) (int_cmp one.times.produced_at other.times.produced_at))

module _ {Said : Type 0} (newer : Said → Said → Bool) where
  -- no fact of the list is newer
  abbrev pub is_unexceeded : List Said → Said → Bool
  is_unexceeded facts fact = list_all (λ other. not (newer other fact)) facts

  -- the first that none exceeds; none of an empty list
  abbrev pub newest_in : List Said → Option Said
  newest_in facts = find (is_unexceeded facts) facts

  -- each that stands before it is older, and none behind it is newer
  pub record IsNewest (facts : List Said) (fact : Said) : Type 0 where
    pub before : List Said
    pub after : List Said
    pub is : facts ≡ before ++ fact ∷ after
    pub first : AllByRecursion (λ other. newer fact other ≡ true) before
    pub last : AllByRecursion (λ other. newer other fact ≡ false) after

  -- what is held after one more, and after a list
  abbrev pub newer_of : Option Said → Said → Option Said
  newer_of None fact = Some fact
  newer_of (Some held) fact = if newer fact held then Some fact else Some held

  abbrev pub held_after : Option Said → List Said → Option Said
  held_after held [] = held
  held_after held (fact ∷ facts) = held_after (newer_of held fact) facts

  -- Of what is held at the start and comes since the newest is held, one after the other. It is the first among equals. What
  -- is held after one list and then another is what is held after both.
  pub record KeepsNewest : Type 0 where
    pub held : (start : Option Said) (facts : List Said) → held_after start facts ≡ newest_in (option_to_list start ++ facts)
    pub first : (facts : List Said) (fact : Said) → (newest_in facts ≡ Some fact) ↔ IsNewest facts fact
    pub joined : (one other : List Said) → newest_in (option_to_list (newest_in one) ++ other) ≡ newest_in (one ++ other)

abbrev pub CrlsKeepNewest : Type 0
CrlsKeepNewest = KeepsNewest newer_crl

abbrev pub ResponsesKeepNewest : Type 0
ResponsesKeepNewest = KeepsNewest newer_ocsp
