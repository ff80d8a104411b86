-- Names with the same octets are compared alike, wherever they stand.
use Rattle.std.proofs.Common.{◌≡◌, ℕ, ◌==◌, Bool, true, false, List, [], ◌∷◌, map, slice_index, refl, ap, ap₂, sym, ◌∙◌}
use Rattle.std.specs.Prelude.{Result, Ok, Err, if◌then◌else◌}
use Rattle.asn.specs.Place.{Place, tag, body, remaining}
use Rattle.asn.specs.Members.{Members, members_at, members, left, HasMembersOf, none_left, next_at, octets_of_each}
use Rattle.asn.specs.Walk.{◌>>=◌, is_a, required, next_or, ended}
use Rattle.asn.proofs.Laws.{values_same, members_same}
use Rattle.names_distinguished.specs.declared.fault.NameRule.{NameRule}
use Rattle.names_distinguished.specs.declared.fault.NameRule.TheVariants.{NameLayout}
use Rattle.names_distinguished.specs.declared.name.Name.{Name}
use Rattle.names_distinguished.specs.declared.rdn.Rdn.{Rdn}
use Rattle.names_distinguished.specs.AttributeValue.{compared}
use Rattle.names_distinguished.specs.DistinguishedName.{ComparedAttribute, rdn_map}
use Rattle.names_distinguished.specs.NameLayout.{AttributePlaces, attribute_members}
use Rattle.names_distinguished.specs.NameParts.{entry_in, entry_at, map_at}
use Rattle.names_distinguished.specs.NameView.{entries_of, map_of, maps_of}
use Rattle.names_distinguished.specs.NameOctets.{rdns_of}

IsOfOctets : {A : Type 0} → (Place → A) → Type 0
IsOfOctets view = (one other : Place) → one.octets ≡ other.octets → view one ≡ view other

firsts : (x y : Place) (xs ys : List Place) → octets_of_each (x ∷ xs) ≡ octets_of_each (y ∷ ys) → (x.octets ≡ y.octets) × (octets_of_each xs ≡ octets_of_each ys)
firsts x y xs ys e = (cc, cc)

all_same : {A : Type 0} (view : Place → A) → IsOfOctets view → (xs ys : List Place) → octets_of_each xs ≡ octets_of_each ys → map view xs ≡ map view ys
unfolding IsOfOctets
all_same view of_octets [] [] e = refl
all_same view of_octets [] (y ∷ ys) e = absurd cc
all_same view of_octets (x ∷ xs) [] e = absurd cc
all_same view of_octets (x ∷ xs) (y ∷ ys) e = let parts = firsts x y xs ys e in ap₂ ◌∷◌ (of_octets x y parts.0) (all_same view of_octets xs ys parts.1)

-- what follows the type among the members of an attribute
behind_kind : Place × Members → Result AttributePlaces (NameRule × ℕ)
behind_kind kind = next_or NameLayout kind.1 >>= λ value. ended NameLayout value.1 >>= λ done. Ok (record { kind = kind.0; value = value.0 })

walk : Members → Result AttributePlaces (NameRule × ℕ)
walk parts = required 6 NameLayout parts >>= behind_kind

kind_if : Bool → Place → List Place → ℕ → Result (Place × Members) (NameRule × ℕ)
kind_if flag x xs end = if flag then Ok (x, record { values = xs; end = end }) else Err (NameLayout, x.at)

by_flag : (flag : Bool) (x y : Place) (xs ys : List Place) (a b : ℕ) → x.octets ≡ y.octets → octets_of_each xs ≡ octets_of_each ys
    → entry_in (kind_if flag x xs a >>= behind_kind) ≡ entry_in (kind_if flag y ys b >>= behind_kind)
unfolding kind_if behind_kind next_or ended none_left next_at
by_flag false x y xs ys a b same e = refl
by_flag true x y [] [] a b same e = refl
by_flag true x y [] (w ∷ ws) a b same e = absurd cc
by_flag true x y (v ∷ vs) [] a b same e = absurd cc
by_flag true x y (v ∷ []) (w ∷ []) a b same e =
    ap₂ (λ (k t : List ℕ). (body (record { octets = k; at = 0 }), compared (slice_index t 0) (body (record { octets = t; at = 0 })))) same (firsts v w [] [] e).0
by_flag true x y (v ∷ []) (w ∷ u ∷ ws) a b same e = let rest = (firsts v w [] (u ∷ ws) e).1 in absurd cc
by_flag true x y (v ∷ t ∷ vs) (w ∷ []) a b same e = let rest = (firsts v w (t ∷ vs) [] e).1 in absurd cc
by_flag true x y (v ∷ t ∷ vs) (w ∷ u ∷ ws) a b same e = refl

walk_same : (xs ys : List Place) (a b : ℕ) → octets_of_each xs ≡ octets_of_each ys
    → entry_in (walk (record { values = xs; end = a })) ≡ entry_in (walk (record { values = ys; end = b }))
unfolding walk required kind_if
walk_same [] [] a b e = refl
walk_same [] (y ∷ ys) a b e = absurd cc
walk_same (x ∷ xs) [] a b e = absurd cc
walk_same (x ∷ xs) (y ∷ ys) a b e =
    let parts = firsts x y xs ys e in
    by_flag (tag x == 6) x y xs ys a b parts.0 parts.1
    ∙ ap (λ (octets : List ℕ). entry_in (kind_if (slice_index octets 0 == 6) y ys b >>= behind_kind)) parts.0

checked : Bool → Place → Result (Unit {0}) (NameRule × ℕ)
checked flag place = if flag then Ok tt else Err (NameLayout, place.at)

in_sequence : Bool → Place → ComparedAttribute
in_sequence flag place = entry_in (checked flag place >>= λ sequence. walk (members place))

sequence_same : (flag : Bool) → IsOfOctets (in_sequence flag)
unfolding IsOfOctets in_sequence checked
sequence_same false one other same = refl
sequence_same true one other same =
    walk_same (members one).values (members other).values (members one).end (members other).end (members_same one other same)

entry_same : IsOfOctets entry_at
unfolding IsOfOctets entry_at attribute_members is_a in_sequence checked walk behind_kind
entry_same one other same =
    sequence_same (tag one == 0x30) one other same
    ∙ ap (λ (octets : List ℕ). in_sequence (slice_index octets 0 == 0x30) other) same

map_same : IsOfOctets map_at
unfolding IsOfOctets map_at
map_same one other same =
    ap rdn_map (all_same entry_at entry_same (members one).values (members other).values (members_same one other same))

-- so do sets
pub same_sets : (one other : Rdn) → (remaining one.attributes).octets ≡ (remaining other.attributes).octets → map_of one ≡ map_of other
unfolding entries_of members_at
same_sets one other same =
    ap rdn_map (all_same entry_at entry_same (left one.attributes).values (left other.attributes).values (values_same (remaining one.attributes) (remaining other.attributes) same))

-- names with the same octets have the same sets of attributes
pub same_rdns : (one other : Name) → HasMembersOf one.rdns.rdns one.raw.now → HasMembersOf other.rdns.rdns other.raw.now → one.raw.now ≡ other.raw.now → rdns_of one ≡ rdns_of other
unfolding rdns_of maps_of
same_rdns one other own others same =
    all_same map_at map_same (left one.rdns.rdns).values (left other.rdns.rdns).values
    (own ∙ ap (λ octets. octets_of_each (members (record { octets = octets; at = 0 })).values) same ∙ sym others)
