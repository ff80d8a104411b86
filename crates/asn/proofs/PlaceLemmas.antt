-- The values of a text, one after the other.
use Rattle.std.proofs.Common.{◌≡◌, ℕ, zero, suc, ◌+◌, ◌<◌, ◌≤◌, ◌==◌, Bool, List, [], ◌∷◌, length, get_or, take, drop, add-zero, true, false, refl, ap, sym, ◌∙◌, arith}
use Rattle.der.specs.Length.{header_len, end_of}
use Rattle.der.proofs.Laws.{two_octets, shorter}
use Rattle.asn.specs.Place.{Place, tag, is_empty, ends, front, behind, parts, values}
use Rattle.asn.specs.Members.{members_at, begins, begins_in, next_at, next_in, none_left, none_in}

below : (a b n : ℕ) → a < b → b ≤ suc n → a ≤ n
below a b n lt le = omega arith

enough : (n m : ℕ) (octets : List ℕ) (at : ℕ) → length octets ≤ n → length octets ≤ m → parts n (record { octets = octets; at = at }) ≡ parts m (record { octets = octets; at = at })
unfolding ends behind
enough zero zero octets at p q = refl
enough zero (suc m) [] at p q = refl
enough (suc n) zero [] at p q = refl
enough (suc n) (suc m) [] at p q = refl
enough zero (suc m) (o ∷ octets) at p q = absurd (omega arith)
enough (suc n) zero (o ∷ octets) at p q = absurd (omega arith)
enough (suc n) (suc m) (o ∷ octets) at p q =
    let text : Place = record { octets = o ∷ octets; at = at } in
    let s = shorter (o ∷ octets) (omega arith) in
    let rest : List ℕ = drop (end_of (o ∷ octets)) (o ∷ octets) in
    ap (λ (xs : List Place). front text ∷ xs) (enough n m rest (at + end_of (o ∷ octets)) (below _ _ n s p) (below _ _ m s q))

pub values_none : (octets : List ℕ) (at : ℕ) → ends (record { octets = octets; at = at }) ≡ true → values (record { octets = octets; at = at }) ≡ []
unfolding ends values
values_none [] at e = refl
values_none (o ∷ octets) at e = absurd cc

pub values_more : (octets : List ℕ) (at : ℕ) → ends (record { octets = octets; at = at }) ≡ false → let text : Place = record { octets = octets; at = at } in values text ≡ front text ∷ values (behind text)
unfolding ends values behind
values_more [] at e = absurd cc
values_more (o ∷ octets) at e =
    let text : Place = record { octets = o ∷ octets; at = at } in
    let s = shorter (o ∷ octets) (omega arith) in
    let rest : List ℕ = drop (end_of (o ∷ octets)) (o ∷ octets) in
    ap (λ (xs : List Place). front text ∷ xs) (enough (length octets) (length rest) rest (at + end_of (o ∷ octets)) (below _ _ (length octets) s (omega arith)) (omega arith))

two_or_more : (h c : ℕ) → 2 ≤ h → 2 ≤ h + c
two_or_more h c two = omega arith

first_of_take : (n o : ℕ) (os : List ℕ) → 2 ≤ n → get_or (take n (o ∷ os)) 0 0 ≡ o
first_of_take zero o os two = absurd (omega arith)
first_of_take (suc n) o os two = refl

front_tag : (o : ℕ) (os : List ℕ) (at : ℕ) → tag (front (record { octets = o ∷ os; at = at })) ≡ o
unfolding front
front_tag o os at = first_of_take (end_of (o ∷ os)) o os (two_or_more (header_len (o ∷ os)) _ (two_octets (o ∷ os)))

front_at : (octets : List ℕ) (at : ℕ) → (front (record { octets = octets; at = at })).at ≡ at
unfolding front
front_at octets at = refl

empty_ends : (at : ℕ) → ends (record { octets = []; at = at }) ≡ true
unfolding ends
empty_ends at = refl

more_follow : (o : ℕ) (os : List ℕ) (at : ℕ) → ends (record { octets = o ∷ os; at = at }) ≡ false
unfolding ends
more_follow o os at = refl

pub none_is : (octets : List ℕ) (at : ℕ) → is_empty octets ≡ none_left (members_at (record { octets = octets; at = at }))
unfolding members_at none_left
none_is [] at = sym (ap none_in (values_none [] at (empty_ends at)))
none_is (o ∷ os) at = sym (ap none_in (values_more (o ∷ os) at (more_follow o os at)))

pub next_is : (octets : List ℕ) (at : ℕ) → next_at (members_at (record { octets = octets; at = at })) ≡ at
unfolding members_at next_at
next_is [] at = ap (next_in (at + 0)) (values_none [] at (empty_ends at)) ∙ add-zero at
next_is (o ∷ os) at = ap (next_in (at + suc (length os))) (values_more (o ∷ os) at (more_follow o os at)) ∙ front_at (o ∷ os) at

-- whether the first octet of a text is this
abbrev pub has_first : ℕ → List ℕ → Bool
has_first tag [] = false
has_first tag (octet ∷ octets) = octet == tag

pub begins_is : (identifier : ℕ) (octets : List ℕ) (at : ℕ) → has_first identifier octets ≡ begins identifier (members_at (record { octets = octets; at = at }))
unfolding members_at begins
begins_is identifier [] at = sym (ap (begins_in identifier) (values_none [] at (empty_ends at)))
begins_is identifier (o ∷ os) at = sym (ap (begins_in identifier) (values_more (o ∷ os) at (more_follow o os at)) ∙ ap (λ (t : ℕ). t == identifier) (front_tag o os at))

pub some_of : (xs : List ℕ) → 1 ≤ length xs → is_empty xs ≡ false
some_of [] h = absurd (omega arith)
some_of (x ∷ xs) h = refl

pub none_first : (identifier : ℕ) (xs : List ℕ) → length xs < 1 → has_first identifier xs ≡ false
none_first identifier [] h = refl
none_first identifier (x ∷ xs) h = absurd (omega arith)

pub is_first : (identifier : ℕ) (xs : List ℕ) → 1 ≤ length xs → has_first identifier xs ≡ (get_or xs 0 0 == identifier)
is_first identifier [] h = absurd (omega arith)
is_first identifier (x ∷ xs) h = refl
