-- Delegates among the certificates of a response.
use Rattle.std.proofs.Common.{◌≡◌, Bool, true, false, List, [], ◌∷◌, ◌++◌, map, Option, Some, refl, ap, ◌∙◌, append_assoc}
use Rattle.std.specs.List.{filter_map, list_any}
use Rattle.std.proofs.lemmas.List.{map-append}

-- a test of what is seen is the test of what it is seen by
pub list_any-map : {A B : Type 0} (test : B → Bool) (view : A → B) (xs : List A) → list_any test (map view xs) ≡ list_any (λ x. test (view x)) xs
list_any-map test view [] = refl
list_any-map test view (x ∷ xs) = by (list_any-map test view xs) (test (view x)) refl where
  by : list_any test (map view xs) ≡ list_any (λ x. test (view x)) xs → (b : Bool) → test (view x) ≡ b → list_any test (map view (x ∷ xs)) ≡ list_any (λ x. test (view x)) (x ∷ xs)
  by rest true e = rw e refl
  by rest false e = rw e rest

-- one single response more, of those that speak of the issuer's certificates
pub one_more : {A B C : Type 0} (view : A → C) (said : B → Option C) (all : List A) (one : A) (single : B) (left rest : List B) (whole : List C) → left ≡ single ∷ rest → said single ≡ Some (view one)
    → map view all ++ filter_map said left ≡ whole → map view (all ++ one ∷ []) ++ filter_map said rest ≡ whole
one_more view said all one single left rest whole left_is is sofar =
    let sofar = rw left_is at sofar in
    let sofar = rw is at sofar in
    ap (λ l. l ++ filter_map said rest) (map-append view all (one ∷ [])) ∙ append_assoc (map view all) (view one ∷ []) (filter_map said rest) ∙ sofar
