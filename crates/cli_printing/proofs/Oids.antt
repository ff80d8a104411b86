-- The numbers in the contents of an OBJECT IDENTIFIER.
use Rattle.std.proofs.Common.{◌≡◌, ◌<◌, ◌≤◌, ◌+◌, ◌*◌, ◌%◌, ◌^◌, ℕ, suc, Bool, true, false, List, [], ◌∷◌, length, take, drop, get_or, nat_lt, arith, refl, sym, ap, ◌∙◌, add-one, if◌then◌else◌}
use Rattle.std.proofs.Math.Nat.{pow-suc, pow-le-pow_right}
use Rattle.std.proofs.lemmas.Bool.Decides.{nat_tests}
use Rattle.std.proofs.lemmas.List.{drop_all, drop_more, length-drop}
use Rattle.cli_printing.specs.OidText.{number_from, number_size, numbers_in, with_arc_octet}

-- one octet more
pub number_more : (octets : List ℕ) (i number next : ℕ) → i < length octets → next ≡ number * 128 + get_or octets i 0 % 128
    → number_from 0 octets ≡ number_from number (drop i octets) → number_from 0 octets ≡ number_from next (drop (i + 1) octets)
number_more octets i number next less is so_far =
    so_far ∙ ap (number_from number) (drop_more octets i 0 less) ∙ ap (λ (n : ℕ). number_from n (drop (i + 1) octets)) (sym is)

pub number_all : (octets : List ℕ) (i number : ℕ) → length octets ≤ i → number_from 0 octets ≡ number_from number (drop i octets) → number ≡ number_from 0 octets
number_all octets i number all so_far = sym (so_far ∙ ap (number_from number) (drop_all i octets all))

-- a number of nine octets has 63 bits
pub number_bound : (number octet next i : ℕ) → next ≡ number * 128 + octet % 128 → number < 128 ^ i → next < 128 ^ (i + 1)
number_bound number octet next i is less =
    let long : 128 ^ (i + 1) ≡ 128 ^ i * 128 = rw (add-one i) (pow-suc 128 i) in
    rw long (omega (arith, is, less))

pub number_fits : (number i count : ℕ) → i < count → count ≤ 9 → number < 128 ^ i → number < 72057594037927936
number_fits number i count less most bound =
    let few : i ≤ 8 = omega arith in
    let long : 128 ^ i ≤ 128 ^ 8 = pow-le-pow_right (omega arith) few in
    omega (arith, bound, long)

below : (octet : ℕ) → octet < 128 → nat_lt octet 128 ≡ true
below octet less = grind (arith, nat_tests)

above : (octet : ℕ) → 128 ≤ octet → nat_lt octet 128 ≡ false
above octet more = grind (arith, nat_tests)

-- the first number ends with the octet, or goes on behind it
pub size_ends : (octets : List ℕ) (i : ℕ) → i < length octets → get_or octets i 0 < 128 → number_size octets ≡ i + number_size (drop i octets) → number_size octets ≡ i + 1
size_ends octets i less last so_far =
    so_far ∙ ap (λ (xs : List ℕ). i + number_size xs) (drop_more octets i 0 less) ∙ rw (below (get_or octets i 0) last) refl

pub size_more : (octets : List ℕ) (i : ℕ) → i < length octets → 128 ≤ get_or octets i 0 → number_size octets ≡ i + number_size (drop i octets) → number_size octets ≡ i + 1 + number_size (drop (i + 1) octets)
size_more octets i less high so_far =
    let one : i + suc (number_size (drop (i + 1) octets)) ≡ i + 1 + number_size (drop (i + 1) octets) = omega arith in
    so_far ∙ ap (λ (xs : List ℕ). i + number_size xs) (drop_more octets i 0 less) ∙ rw (above (get_or octets i 0) high) one

pub size_all : (octets : List ℕ) (i : ℕ) → length octets ≤ i → number_size octets ≡ i + number_size (drop i octets) → number_size octets ≡ i
size_all octets i all so_far =
    let nothing : i + 0 ≡ i = omega arith in
    so_far ∙ ap (λ (xs : List ℕ). i + number_size xs) (drop_all i octets all) ∙ nothing

size_by : (ends : Bool) (octet : ℕ) (octets : List ℕ) → number_size octets ≤ length octets → (if ends then 1 else suc (number_size octets)) ≤ length (octet ∷ octets)
size_by true octet octets fits = omega arith
size_by false octet octets fits = omega (arith, fits)

pub size_fits : (octets : List ℕ) → number_size octets ≤ length octets
size_fits [] = omega arith
size_fits (octet ∷ octets) = size_by (nat_lt octet 128) octet octets (size_fits octets)

some_by : (ends : Bool) (size : ℕ) → 0 < (if ends then 1 else suc size)
some_by true size = omega arith
some_by false size = omega arith

-- what is behind the first number is shorter
pub rest_is_shorter : (octets rest : List ℕ) → 0 < length octets → rest ≡ drop (number_size octets) octets → length rest < length octets
rest_is_shorter [] rest some is = absurd (omega arith)
rest_is_shorter (octet ∷ octets) rest some is =
    let taken = some_by (nat_lt octet 128) (number_size octets) in
    let long = ap length is ∙ length-drop (number_size (octet ∷ octets)) (octet ∷ octets) in
    omega (arith, taken, long)

split_by : (ends : Bool) (octet : ℕ) (octets : List ℕ) → (0 < length octets → numbers_in octets ≡ take (number_size octets) octets ∷ numbers_in (drop (number_size octets) octets))
    → (if ends then (octet ∷ []) ∷ numbers_in octets else with_arc_octet octet (numbers_in octets))
    ≡ take (if ends then 1 else suc (number_size octets)) (octet ∷ octets) ∷ numbers_in (drop (if ends then 1 else suc (number_size octets)) (octet ∷ octets))
split_by true octet octets more = refl
split_by false octet [] more = refl
split_by false octet (next ∷ octets) more = ap (with_arc_octet octet) (more (omega arith))

-- the first number, and those behind it
pub numbers_split : (octets : List ℕ) → 0 < length octets → numbers_in octets ≡ take (number_size octets) octets ∷ numbers_in (drop (number_size octets) octets)
numbers_split [] some = absurd (omega arith)
numbers_split (octet ∷ octets) some = split_by (nat_lt octet 128) octet octets (numbers_split octets)
