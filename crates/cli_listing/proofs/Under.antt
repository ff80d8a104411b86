-- Issuers whose ids rise, found by halving.
use Rattle.std.proofs.Common.{◌≡◌, ◌≢◌, ◌==◌, ◌<◌, ℕ, zero, suc, true, false, List, [], ◌∷◌, length, map, slice_index_or, Option, Some, None, IsSome, true≢false, refl, sym, arith, inl, inr}
use Rattle.std.proofs.lemmas.Bool.Decides.{eqb_tells, nat_tests}
use Rattle.std.specs.List.{AllByRecursion}
use Rattle.std.specs.List.Sorted.{IsNonDecreasingBy}
use Rattle.store_listing.specs.declared.held.HeldIssuer.{HeldIssuer}
use Rattle.store_listing.specs.Listing.{seen_held_issuer}
use Rattle.cli_listing.specs.ListingText.{issuer_under, IdsRise}

later : (id : ℕ) (xs : List HeldIssuer) (j : ℕ) (d : HeldIssuer) → AllByRecursion (λ r. id < r.id) (map seen_held_issuer xs) → j < length xs → id < (slice_index_or xs j d).id
later id [] j d h low = absurd (omega arith)
later id (x ∷ xs) zero d h low = h.0
later id (x ∷ xs) (suc j) d h low = later id xs j d h.1 (omega arith)

pub rises : (xs : List HeldIssuer) → IdsRise (map seen_held_issuer xs) → IsNonDecreasingBy (λ (x : HeldIssuer). x.id) xs
rises [] h i j d order low = absurd (omega arith)
rises (x ∷ xs) h zero zero d order low = omega arith
rises (x ∷ xs) h zero (suc j) d order low = let more = later x.id xs j d h.0 (omega arith) in omega (arith, more)
rises (x ∷ xs) h (suc i) zero d order low = absurd (omega arith)
rises (x ∷ xs) h (suc i) (suc j) d order low = rises xs h.1 i j d (omega arith) (omega arith)

pub missing : (xs : List HeldIssuer) (id : ℕ) → ((k : ℕ) (d : HeldIssuer) → k < length xs → (slice_index_or xs k d).id ≢ id) → issuer_under (map seen_held_issuer xs) id ≡ None
missing [] id none = refl
missing (x ∷ xs) id none = elim (eqb_tells x.id id) [
  | inl same ↦ absurd (none 0 x (omega arith) same.1)
  | inr other ↦ rw other.0 (missing xs id (λ k d low. none (suc k) d (omega (arith, low))))
]

pub standing : (xs : List HeldIssuer) (id k : ℕ) (d : HeldIssuer) → IdsRise (map seen_held_issuer xs) → k < length xs → (slice_index_or xs k d).id ≡ id → issuer_under (map seen_held_issuer xs) id ≡ Some (seen_held_issuer (slice_index_or xs k d))
standing [] id k d rise low is = absurd (omega arith)
standing (x ∷ xs) id zero d rise low is = let same : (x.id == id) ≡ true = grind (arith, nat_tests) in rw same refl
standing (x ∷ xs) id (suc k) d rise low is =
    let above = later x.id xs k d rise.0 (omega arith) in
    let other : (x.id == id) ≡ false = grind (arith, nat_tests) in
    rw other (standing xs id k d rise.1 (omega arith) is)

pub nothing_there : {X : Type 0} (found : Option X) → IsSome found → ((x : X) → found ≡ Some x → ⊥) → ⊥
nothing_there None some other = absurd (true≢false (sym some))
nothing_there (Some x) some other = other x refl
