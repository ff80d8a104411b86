-- The policies with which words begin.
use Rattle.std.proofs.Common.{◌≡◌, ◌≤◌, ◌<◌, ◌+◌, ◌∙◌, ℕ, List, [], ◌∷◌, Bor, Option, Some, None, length, drop, map, ap, arith, refl, sym, subst}
use Rattle.std.proofs.lemmas.List.{drop-map, length-map}
use Rattle.cli_requests.specs.Requests.{Request, asked_in, first_policies, octets_of_words, path_under, path_with_policies_in, policy_in, policy_then}

then_fewer : (found : Option (List ℕ)) (others words : List (List ℕ)) → length others ≤ length words → length (policy_then found others) ≤ length words + 1
then_fewer None others words few = omega arith
then_fewer (Some policy) others words few = omega (arith, few)

few_policies : (words : List (List ℕ)) → length (first_policies words) ≤ length words
few_policies [] = omega arith
few_policies (word ∷ words) =
    let few = then_fewer (policy_in word) (first_policies words) words (few_policies words) in omega (arith, few)

-- there are no more than words
pub few : (words policies : List (Bor (List ℕ))) → octets_of_words policies ≡ first_policies (octets_of_words words) → length policies ≤ length words
few words policies are =
    omega (arith, few_policies (octets_of_words words), ap length are, length-map policies (λ (word : Bor (List ℕ)). word.now), length-map words (λ (word : Bor (List ℕ)). word.now))

under_some : (moment : List ℕ) (purpose : Option (List ℕ)) (policies words : List (List ℕ)) → 0 < length policies → path_under moment purpose policies words ≡ path_with_policies_in moment purpose policies (drop (length policies) words)
under_some moment purpose [] words some = absurd (omega (arith, some))
under_some moment purpose (policy ∷ policies) words some = refl

-- what stands behind them
pub behind_policies : (moment : List ℕ) (purpose : Option (List ℕ)) (words policies back : List (Bor (List ℕ))) → octets_of_words policies ≡ first_policies (octets_of_words words) → 0 < length policies → back ≡ drop (length policies) words
    → asked_in moment purpose (octets_of_words words) ≡ path_with_policies_in moment purpose (octets_of_words policies) (octets_of_words back)
behind_policies moment purpose words policies back are some is =
    let now = λ (word : Bor (List ℕ)). word.now in
    let count = length-map policies now in
    ap (λ (first : List (List ℕ)). path_under moment purpose first (octets_of_words words)) (sym are)
    ∙ under_some moment purpose (octets_of_words policies) (octets_of_words words) (omega (arith, some, count))
    ∙ ap (λ (behind : List (List ℕ)). path_with_policies_in moment purpose (octets_of_words policies) behind)
    (ap (λ (k : ℕ). drop k (octets_of_words words)) count ∙ drop-map now (length policies) words ∙ ap octets_of_words (sym is))
