-- The slots of a certificate, place by place: those of whole lists, and those of each of its points.
use Rattle.std.proofs.Common.{◌≡◌, ℕ, List, [], ◌∷◌, ◌++◌, map, refl, ap, ◌∙◌}
use Rattle.std.specs.List.{flat_map}
use Rattle.std.proofs.lemmas.List.{map-append}
use Rattle.cert.specs.Certificate.{Certificate}
use Rattle.statements_facts.specs.Statement.{IssuerIdentity, CrlSlot, at_point}
use Rattle.relying_agreement.specs.Link.{complete_slots, slots_at, slots_under}

map_flat : {A B C : Type 0} (f : B → C) (g : A → List B) (xs : List A) → map f (flat_map g xs) ≡ flat_map (λ x. map f (g x)) xs
map_flat f g [] = refl
map_flat f g (x ∷ xs) = map-append f (g x) (flat_map g xs) ∙ ap (λ l. map f (g x) ++ l) (map_flat f g xs)

-- what a function says of the slots at points
pub point_by_point : {A : Type 0} (f : CrlSlot → A) (points : List (List ℕ)) (issuer : IssuerIdentity) (certificate : Certificate)
    → map f (slots_at points certificate issuer) ≡ flat_map (λ point. map f (slots_under certificate (at_point point issuer))) points
point_by_point f points issuer certificate = map_flat f (λ point. slots_under certificate (at_point point issuer)) points

-- and of those of whole lists too
pub place_by_place : {A : Type 0} (f : CrlSlot → A) (issuer : IssuerIdentity) (certificate : Certificate)
    → map f (complete_slots issuer certificate)
    ≡ map f (slots_under certificate issuer) ++ flat_map (λ point. map f (slots_under certificate (at_point point issuer))) certificate.points.complete
place_by_place f issuer certificate =
    map-append f (slots_under certificate issuer) (slots_at certificate.points.complete certificate issuer)
    ∙ ap (λ l. map f (slots_under certificate issuer) ++ l) (point_by_point f certificate.points.complete issuer certificate)
