-- The values inside a constructed value.
use Rattle.std.specs.Prelude.{◌≡◌, ℕ, ◌+◌, ◌==◌, Bool, true, false, List, [], ◌∷◌, length, map, Option, MatchOption}
use Rattle.asn.specs.Place.{Place, seen_tlv, text_at, tag, remaining, body_place, values}
use Rattle.asn.specs.declared.tlv.Tlv.{Tlv}
use Rattle.asn.specs.declared.tlv.Cursor.{Cursor}

-- values in order, and the offset of the end of the value round them
pub record Members : Type 0 where
  pub values : List Place
  pub end : ℕ

unfoldable pub members_at : Place → Members
members_at text = record { values = values text; end = text.at + length text.octets }

-- the values that a cursor has left
abbrev pub left : Cursor → Members
left cursor = members_at (remaining cursor)

-- the values in a constructed value
abbrev pub members : Place → Members
members value = members_at (body_place value)

-- a value, and then these
abbrev pub with_first : Place → Members → Members
with_first value others = record { values = value ∷ others.values; end = others.end }

-- of the values that the old cursor has left, the next is taken, and the new one has the others left; none is taken if none is left
abbrev pub TakesFirst : Cursor → Option Tlv → Cursor → Type 0
TakesFirst old next new =
    MatchOption next ((left old).values ≡ []) (λ tlv. left old ≡ with_first (seen_tlv tlv) (left new))

-- whether the next value is there and has this identifier
abbrev pub begins_in : ℕ → List Place → Bool
begins_in identifier [] = false
begins_in identifier (value ∷ values) = tag value == identifier

unfoldable pub begins : ℕ → Members → Bool
begins identifier left = begins_in identifier left.values

-- where the next value is, or the end where none is left
abbrev pub next_in : ℕ → List Place → ℕ
next_in end [] = end
next_in end (value ∷ values) = value.at

unfoldable pub next_at : Members → ℕ
next_at left = next_in left.end left.values

abbrev pub none_in : List Place → Bool
none_in [] = true
none_in (value ∷ values) = false

unfoldable pub none_left : Members → Bool
none_left left = none_in left.values

-- at most one value
abbrev pub AtMostOne : List Place → Type 0
AtMostOne [] = Unit {0}
AtMostOne (value ∷ []) = Unit {0}
AtMostOne (value ∷ other ∷ values) = ⊥

-- the octets of values in order, wherever they stand
abbrev pub octets_of_each : List Place → List (List ℕ)
octets_of_each values = map (λ value. value.octets) values

-- the values that a cursor has left have the octets of the members of the value with these octets
abbrev pub HasMembersOf : Cursor → List ℕ → Type 0
HasMembersOf cursor octets =
    octets_of_each (left cursor).values ≡ octets_of_each (members (text_at octets 0)).values
