-- Numbers that octets spell.
use Rattle.std.proofs.Common.{◌≡◌, ◌⊎◌, ℕ, zero, suc, ◌+◌, ◌*◌, ◌^◌, ◌<◌, ◌≤◌, List, [], ◌∷◌, length, get_or, take, drop, inl, inr, arith}
use Rattle.std.proofs.Math.Nat.{pow-suc}
use Rattle.der.specs.Length.{number, contents_limit}

pub pow_positive : (n : ℕ) → 0 < 256 ^ n
pow_positive zero = omega arith
pow_positive (suc n) = rw pow-suc (let ih = pow_positive n in omega arith)

-- four octets, of which the first is 16 or more
number-four : (a b c d : ℕ) → 16 ≤ a → contents_limit ≤ number (a ∷ b ∷ c ∷ d ∷ [])
number-four a b c d high = omega arith

-- five octets or more, of which the first isn't 0
number-five : (a b c d e : ℕ) (octets : List ℕ) → 0 < a → contents_limit ≤ number (a ∷ b ∷ c ∷ d ∷ e ∷ octets)
number-five a b c d e octets positive =
    let n = length octets in
    let p = pow_positive n in
    let e1 = pow-suc 256 n in
    let e2 = pow-suc 256 (suc n) in
    let e3 = pow-suc 256 (suc (suc n)) in
    let e4 = pow-suc 256 (suc (suc (suc n))) in
    let big : 4294967296 ≤ 256 ^ (suc (suc (suc (suc n)))) = omega arith in
    let bigger : 256 ^ (suc (suc (suc (suc n)))) ≤ a * 256 ^ (suc (suc (suc (suc n)))) = grind arith in
    omega arith

-- more octets than the longest contents need for their length, or four of which the first is too great
abbrev pub IsPastLimit : ℕ → ℕ → Type 0
IsPastLimit count high = (5 ≤ count) ⊎ ((count ≡ 4) × (16 ≤ high))

pub number-long : (text : List ℕ) (k : ℕ) → 2 + k ≤ length text → IsPastLimit k (get_or text 2 0) → 0 < get_or text 2 0 → contents_limit ≤ number (take k (drop 2 text))
number-long (i ∷ l ∷ a ∷ b ∷ c ∷ d ∷ e ∷ octets) (suc (suc (suc (suc (suc k))))) whole past positive = number-five a b c d e (take k octets) positive
number-long (i ∷ l ∷ a ∷ b ∷ c ∷ d ∷ octets) (suc (suc (suc (suc zero)))) whole (inr (is, high)) positive = number-four a b c d high
number-long text k whole (inl long) positive = absurd (omega arith)
number-long text k whole (inr (is, high)) positive = absurd (omega arith)
