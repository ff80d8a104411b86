-- The values inside a value have the same octets wherever it stands.
use Rattle.std.proofs.Common.{◌≡◌, ℕ, zero, suc, ◌+◌, Bool, true, false, List, [], ◌∷◌, take, drop, length, if◌then◌else◌, refl, ap, ◌∙◌}
use Rattle.der.specs.Length.{header_len, contents_of, end_of}
use Rattle.asn.specs.Place.{Place, is_empty, ends, front, behind, parts, values, body_place}
use Rattle.asn.specs.Members.{members_at, members, octets_of_each}

abbrev parts_at : ℕ → List ℕ → ℕ → List (List ℕ)
parts_at most octets at = octets_of_each (parts most (record { octets = octets; at = at }))

parts_same : (most : ℕ) (octets : List ℕ) (a b : ℕ) → parts_at most octets a ≡ parts_at most octets b
unfolding ends front behind
parts_same zero octets a b = refl
parts_same (suc most) octets a b = by (is_empty octets) (parts_same most (drop (end_of octets) octets) (a + end_of octets) (b + end_of octets))
  where
    next : ℕ → List Place
    next at = front (record { octets = octets; at = at }) ∷ parts most (behind (record { octets = octets; at = at }))

    by : (none : Bool) → parts_at most (drop (end_of octets) octets) (a + end_of octets) ≡ parts_at most (drop (end_of octets) octets) (b + end_of octets)
        → octets_of_each (if none then [] else next a) ≡ octets_of_each (if none then [] else next b)
    by true rest = refl
    by false rest = ap (λ others. take (end_of octets) octets ∷ others) rest

pub values_same : (one other : Place) → one.octets ≡ other.octets → octets_of_each (values one) ≡ octets_of_each (values other)
unfolding values
values_same one other same =
    ap (λ octets. parts_at (length octets) octets one.at) same ∙ parts_same (length other.octets) other.octets one.at other.at

pub members_same : (one other : Place) → one.octets ≡ other.octets → octets_of_each (members one).values ≡ octets_of_each (members other).values
unfolding members_at body_place values
members_same one other same =
    ap (λ octets. parts_at (length (contents_of octets)) (contents_of octets) (one.at + header_len octets)) same
    ∙ parts_same (length (contents_of other.octets)) (contents_of other.octets) (one.at + header_len other.octets) (other.at + header_len other.octets)
