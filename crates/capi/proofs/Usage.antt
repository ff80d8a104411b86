-- The bits of a key usage as a number.
use Rattle.std.proofs.Common.{◌≡◌, ℕ, zero, suc, ◌+◌, ◌*◌, ◌^◌, ◌<◌, ◌≤◌, Bool, true, false, List, arith, if◌then◌else◌}
use Rattle.std.proofs.Math.Nat.{pow-succ'}
use Rattle.std.proofs.Math.Pow.{pow_mono}
use Rattle.cert.specs.KeyUsage.{has_bit}
use Rattle.capi.specs.Fields.{bits_below}

weighed : (b : Bool) (below weight : ℕ) → below < weight → below + (if b then weight else 0) < 2 * weight
weighed true below weight lt = omega arith
weighed false below weight lt = omega arith

pub bits_fit : (n : ℕ) (bits : List ℕ) → bits_below n bits < 2 ^ n
bits_fit zero bits = omega arith
bits_fit (suc n) bits =
    let e : 2 ^ suc n ≡ 2 * 2 ^ n = pow-succ' 2 n in
    rw e (weighed (has_bit bits n) (bits_below n bits) (2 ^ n) (bits_fit n bits))

pub fits_nine : (n number weight : ℕ) (bits : List ℕ) → n < 9 → weight ≡ 2 ^ n → number ≡ bits_below n bits → number + weight < 2 ^ 32
fits_nine n number weight bits few w b =
    let below : number < 2 ^ n = rw b (bits_fit n bits) in
    let most : 2 ^ n ≤ 2 ^ 9 = pow_mono {i = n} {j = 9} (omega arith) in
    omega (arith, w)
