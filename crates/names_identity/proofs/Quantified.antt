-- What `any` over a slice says of the values that its elements stand for.
use Rattle.std.proofs.Common.{◌<◌, ℕ, List, [], ◌∷◌, length, get_or, map, Bool, true, false, refl, sym, ◌∙◌, subst, arith, MatchBool}
use Rattle.std.specs.Prelude.{◌↔◌, Any, IsTrue}
use Rattle.std.specs.List.{HoldsAt, AllWithin}
use Rattle.std.proofs.lemmas.Bool.{false≢true}
use Rattle.std.proofs.lemmas.List.{length-map, get_or-map}

any_from :
    {X Y : Type 0} (P : Y → Type 0) (view : X → Y) (xs : List X) →
    (k : ℕ) × (k < length xs) × HoldsAt (λ x. P (view x)) xs k → Any P (map view xs)
any_from P view [] h = absurd (omega (arith, h.1))
any_from P view (x ∷ xs) h =
    let y = view (get_or (x ∷ xs) h.0 x) in
    (h.0, y, omega (arith, h.1, length-map (x ∷ xs) view), get_or-map view (x ∷ xs) h.0 x y h.1, h.2 x)

any_to :
    {X Y : Type 0} (P : Y → Type 0) (view : X → Y) (xs : List X) →
    AllWithin (λ x. P (view x) → ⊥) xs 0 (length xs) → Any P (map view xs) → ⊥
any_to P view [] none a = omega (arith, a.2)
any_to P view (x ∷ xs) none a =
    let within : a.0 < length (x ∷ xs) = omega (arith, a.2, length-map (x ∷ xs) view) in
    none a.0 x (omega arith) within (subst P (sym a.3 ∙ get_or-map view (x ∷ xs) a.0 x a.1 within) a.4)

pub any_decides :
    {X Y : Type 0} (P : Y → Type 0) (view : X → Y) (xs : List X) (r : Bool) →
    MatchBool r ((k : ℕ) × (k < length xs) × HoldsAt (λ x. P (view x)) xs k) (AllWithin (λ x. P (view x) → ⊥) xs 0 (length xs)) →
    (IsTrue r ↔ Any P (map view xs))
any_decides P view xs true h = (λ _. any_from P view xs h, λ _. refl)
any_decides P view xs false h = (λ e. absurd (false≢true e), λ a. absurd (any_to P view xs h a))
