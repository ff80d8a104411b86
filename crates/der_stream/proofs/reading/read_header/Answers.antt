use Rattle.std.proofs.Common.{◌≡◌, ℕ, ◌<◌, [], ◌∷◌, ◌++◌, Bool, false, zero, suc, ◌==◌, arith, refl, subst, append-nil, vec_len, eq-eqb}
use Rattle.std.proofs.KnownBytes.{Consumes-trans}
use Rattle.std.specs.Io.KnownBytes.{Consumes}
use Rattle.der.specs.Header.{IsBrokenAhead}
use Rattle.der_stream.proofs.Streams.{cut_header, refused_header, header_read}
use Rattle.der_stream.proofs.reading.read_header.Goals as goal

some_there : (n : ℕ) (b : Bool) → b ≡ (n == 0) → b ≡ false → 0 < n
some_there zero b e f = let t = eq-eqb 0 0 refl in absurd cc
some_there (suc n) b e f = omega arith

pub returns-else-is_empty-clause-err : goal.returns-else-is_empty-clause-err
returns-else-is_empty-clause-err g c = λ limit.
    let left = rw c.in_default.is at c.in_ok-octet.ensures.read in
    let some = some_there (vec_len c.octets.octets) c.is_empty.result c.is_empty.ensures c.if-is_empty.false in
    let read = Consumes-trans _ _ _ _ _ c.octets.invariant.read left.0 in
    rw c.refused.ensures (cut_header limit _ _ c.octets.octets.items c.octets.invariant.goes_on (omega (arith, some, c.octets.octets.ok)) (subst (Consumes _ _) (append-nil _) read) left.1)

pub returns-in-Ok-Some-clause-header : goal.returns-in-Ok-Some-clause-header
returns-in-Ok-Some-clause-header g c =
    let has = rw (c.in-Ok-Some.field-0-is, c.deref.ensures.value) at c.in-Ok-Some.ensures.whole in
    let joined : c.push.new.self.items ≡ c.octets.octets.items ++ c.in-Some.octet ∷ [] = rw c.if-is_err.ensures.negation at c.push.ensures.items in
    header_read c.octets.octets.items c.in-Some.octet c.push.new.self.items joined c.octets.invariant.goes_on c.in-Ok-Some.header has

pub returns-in-Ok-Some-clause-read : goal.returns-in-Ok-Some-clause-read
returns-in-Ok-Some-clause-read g c =
    let one = rw c.in-Some.is at c.in_ok-octet.ensures.read in
    let joined : c.push.new.self.items ≡ c.octets.octets.items ++ c.in-Some.octet ∷ [] = rw c.if-is_err.ensures.negation at c.push.ensures.items in
    rw joined (Consumes-trans _ _ _ _ _ c.octets.invariant.read one)

pub returns-in-Err-clause-err : goal.returns-in-Err-clause-err
returns-in-Err-clause-err g c = λ limit.
    let one = rw c.in-Some.is at c.in_ok-octet.ensures.read in
    let joined : c.push.new.self.items ≡ c.octets.octets.items ++ c.in-Some.octet ∷ [] = rw c.if-is_err.ensures.negation at c.push.ensures.items in
    let read = Consumes-trans _ _ _ _ _ c.octets.invariant.read one in
    let broken : IsBrokenAhead c.push.new.self.items c.in-Err.rule = rw (← c.deref.ensures.value) c.in-Err.ensures.err in
    rw c.refused-in-Err.ensures (refused_header c.octets.octets.items c.in-Some.octet c.push.new.self.items joined c.octets.invariant.goes_on limit _ _ c.in-Err.rule broken (rw joined read))
