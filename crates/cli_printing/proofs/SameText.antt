-- The text of a name is that of its octets, wherever they stand.
use Rattle.std.proofs.Common.{◌≡◌, ℕ, Bool, true, false, List, [], ◌∷◌, ◌++◌, slice_index, refl, ap, ap₂, ◌∙◌}
use Rattle.std.specs.List.{flat_map}
use Rattle.asn.specs.Identifier.{is_constructed}
use Rattle.asn.specs.Place.{Place, tag, body}
use Rattle.asn.specs.Members.{octets_of_each}
use Rattle.asn.proofs.Laws.{members_same}
use Rattle.cli_printing.specs.OidText.{oid_text}
use Rattle.cli_printing.specs.NameText.{inner_of, inner, value_text, attribute_text_of, attribute_text, next_attribute_text, attributes_text, rdn_text, rdns_text}

IsOfOctets : (Place → List ℕ) → Type 0
IsOfOctets text = (one other : Place) → one.octets ≡ other.octets → text one ≡ text other

firsts : (x y : Place) (xs ys : List Place) → octets_of_each (x ∷ xs) ≡ octets_of_each (y ∷ ys) → (x.octets ≡ y.octets) × (octets_of_each xs ≡ octets_of_each ys)
firsts x y xs ys e = (cc, cc)

inner_same : (one other : Place) → one.octets ≡ other.octets → octets_of_each (inner one) ≡ octets_of_each (inner other)
inner_same one other same = ap (λ octets. octets_of_each (inner_of (is_constructed (slice_index octets 0)) one)) same ∙ by (is_constructed (tag other))
  where
    by : (form : Bool) → octets_of_each (inner_of form one) ≡ octets_of_each (inner_of form other)
    by true = members_same one other same
    by false = refl

value_same : IsOfOctets value_text
unfolding IsOfOctets
value_same one other same = ap (λ octets. value_text (record { octets = octets; at = 0 })) same

attribute_of_same : (xs ys : List Place) → octets_of_each xs ≡ octets_of_each ys → attribute_text_of xs ≡ attribute_text_of ys
unfolding IsOfOctets
attribute_of_same [] [] e = refl
attribute_of_same [] (y ∷ ys) e = absurd cc
attribute_of_same (x ∷ xs) [] e = absurd cc
attribute_of_same (x ∷ []) (y ∷ []) e = refl
attribute_of_same (x ∷ []) (y ∷ w ∷ ys) e = let rest = (firsts x y [] (w ∷ ys) e).1 in absurd cc
attribute_of_same (x ∷ v ∷ xs) (y ∷ []) e = let rest = (firsts x y (v ∷ xs) [] e).1 in absurd cc
attribute_of_same (x ∷ v ∷ xs) (y ∷ w ∷ ys) e =
    let kind = firsts x y (v ∷ xs) (w ∷ ys) e in
    let value = firsts v w xs ys kind.1 in
    ap₂ (λ (k t : List ℕ). k ++ 61 ∷ t) (ap (λ octets. oid_text (body (record { octets = octets; at = 0 }))) kind.0) (value_same v w value.0)

attribute_same : IsOfOctets attribute_text
unfolding IsOfOctets
attribute_same one other same = attribute_of_same (inner one) (inner other) (inner_same one other same)

next_same : IsOfOctets next_attribute_text
unfolding IsOfOctets
next_same one other same = ap (λ (t : List ℕ). 43 ∷ t) (attribute_same one other same)

all_same : (text : Place → List ℕ) → IsOfOctets text → (xs ys : List Place) → octets_of_each xs ≡ octets_of_each ys → flat_map text xs ≡ flat_map text ys
unfolding IsOfOctets
all_same text of_octets [] [] e = refl
all_same text of_octets [] (y ∷ ys) e = absurd cc
all_same text of_octets (x ∷ xs) [] e = absurd cc
all_same text of_octets (x ∷ xs) (y ∷ ys) e = let parts = firsts x y xs ys e in ap₂ ◌++◌ (of_octets x y parts.0) (all_same text of_octets xs ys parts.1)

attributes_same : (xs ys : List Place) → octets_of_each xs ≡ octets_of_each ys → attributes_text xs ≡ attributes_text ys
unfolding IsOfOctets
attributes_same [] [] e = refl
attributes_same [] (y ∷ ys) e = absurd cc
attributes_same (x ∷ xs) [] e = absurd cc
attributes_same (x ∷ xs) (y ∷ ys) e = let parts = firsts x y xs ys e in ap₂ ◌++◌ (attribute_same x y parts.0) (all_same next_attribute_text next_same xs ys parts.1)

rdn_same : IsOfOctets rdn_text
unfolding IsOfOctets
rdn_same one other same = ap (λ (t : List ℕ). 47 ∷ t) (attributes_same (inner one) (inner other) (inner_same one other same))

pub rdns_same : (xs ys : List Place) → octets_of_each xs ≡ octets_of_each ys → rdns_text xs ≡ rdns_text ys
rdns_same [] [] e = refl
rdns_same [] (y ∷ ys) e = absurd cc
rdns_same (x ∷ xs) [] e = absurd cc
rdns_same (x ∷ xs) (y ∷ ys) e = all_same rdn_text rdn_same (x ∷ xs) (y ∷ ys) e
