-- A text cut where its header says.
use Rattle.std.proofs.Common.{arith, ◌≡◌, ◌+◌, ◌<◌, ℕ, length, false, true, List, [], ◌∷◌, refl, Bool, ◌==◌}
use Rattle.std.proofs.Math.Dec.{eqb-suc-zero}
use Rattle.der.specs.Length.{end_of}
use Rattle.der.specs.Header.{SaysHeader}
use Rattle.der.specs.declared.header.Header.{Header}
use Rattle.asn.specs.Place.{ends, is_empty}

pub end_is : (text : List ℕ) (header : Header) → SaysHeader text header → end_of text ≡ header.len + header.contents
end_is text header h = rw (h.len, h.contents) refl

-- the test for an empty text
pub empty_is : (xs : List ℕ) (b : Bool) → b ≡ is_empty xs → b ≡ true → xs ≡ []
empty_is [] b e f = refl
empty_is (x ∷ xs) b e f = absurd cc

pub some_left : (xs : List ℕ) (b : Bool) → b ≡ is_empty xs → b ≡ false → 0 < length xs
some_left [] b e f = absurd cc
some_left (x ∷ xs) b e f = omega arith

pub ends_is : (octets : List ℕ) (at : ℕ) → ends (record { octets = octets; at = at }) ≡ is_empty octets
unfolding ends
ends_is octets at = refl

pub is_empty_len : (xs : List ℕ) → (length xs == 0) ≡ is_empty xs
is_empty_len [] = refl
is_empty_len (x ∷ xs) = eqb-suc-zero (length xs)
