-- An attribute that has no other beside it.
use Rattle.std.proofs.Common.{◌≡◌, ℕ, List, [], ◌∷◌, Bool, true, false, Result, Ok, Err, refl, ap}
use Rattle.std.specs.Prelude.{◌||◌, if◌then◌else◌}
use Rattle.std.proofs.lemmas.Bool.{eq-eqb}
use Rattle.asn.specs.Place.{Place, body, tag}
use Rattle.asn.specs.Walk.{◌>>=◌, check_that}
use Rattle.names_distinguished.specs.declared.fault.NameRule.{NameRule}
use Rattle.names_distinguished.specs.declared.fault.NameRule.TheVariants.{Text}
use Rattle.names_distinguished.specs.NameLayout.{AttributePlaces, attribute_members, attribute_order, attribute, attributes, only_attribute, has_kind, has_kind_before, is_less, is_string}

-- it repeats no type, and comes before nothing
not_repeated : (kind : List ℕ) (place : Place) → has_kind_before kind place.at (place ∷ []) ≡ false
not_repeated kind place = ap (λ (same : Bool). if same then false else (has_kind kind place || has_kind_before kind place.at [])) (eq-eqb place.at place.at refl)

not_before : (octets : List ℕ) → is_less octets [] ≡ false
not_before [] = refl
not_before (octet ∷ octets) = refl

in_order : (kind : List ℕ) (place : Place) → attribute_order (place ∷ []) [] kind place ≡ Ok tt
unfolding attribute_order check_that
in_order kind place = rw (not_repeated kind place, not_before place.octets) refl

by_text : (is_text : Bool) (at : ℕ) (octets : List ℕ) → (((check_that is_text Text at >>= λ string. Ok octets) >>= λ next. Ok next) >>= λ last. Ok tt) ≡ check_that is_text Text at
unfolding check_that
by_text true at octets = refl
by_text false at octets = refl

by_members : (place : Place) (r : Result AttributePlaces (NameRule × ℕ))
    → (((r >>= λ parts. attribute_order (place ∷ []) [] (body parts.kind) place >>= λ ordered. check_that (is_string (tag parts.value) (body parts.value)) Text parts.value.at >>= λ string. Ok place.octets) >>= λ next. Ok next) >>= λ last. Ok tt)
    ≡ (r >>= λ parts. check_that (is_string (tag parts.value) (body parts.value)) Text parts.value.at)
by_members place (Err fault) = refl
by_members place (Ok parts) = rw (in_order (body parts.kind) place) (by_text (is_string (tag parts.value) (body parts.value)) parts.value.at place.octets)

pub only_is : (values others : List Place) (place : Place) → values ≡ place ∷ others → others ≡ [] → attributes values ≡ only_attribute place
unfolding attributes attribute only_attribute
only_is values others place first none = rw (first, none) (by_members place (attribute_members place))
