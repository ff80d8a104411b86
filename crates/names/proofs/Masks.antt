-- A mask of ones and then zeros has no one after a zero.
use Rattle.std.proofs.Common.{◌≡◌, ◌+◌, ◌/◌, ℕ, List, length, drop, ◌∙◌, ap, inl, inr, subst, arith, length-append}
use Rattle.std.proofs.lemmas.Bool.{cases_lt}
use Rattle.std.proofs.lemmas.List.{drop_at}
use Rattle.names.specs.declared.ip.IpRange.{IpRange}
use Rattle.names.specs.Ip.{bit, IsMaskOf, HasHole, IsRangeOf}

apart : (b : ℕ) → b ≡ 1 → b ≡ 0 → ⊥
apart b p q = omega arith

pub no_hole : (mask : List ℕ) (prefix : ℕ) → IsMaskOf mask prefix → HasHole mask → ⊥
no_hole mask prefix m h =
    elim (cases_lt h.hole prefix) [
      | inl lt ↦ apart (bit mask h.hole) (m.ones h.hole lt) h.zero_bit
      | inr le ↦
          let after = h.after in
          apart (bit mask h.later) h.one_bit (m.zeros h.later (omega arith) h.within)
    ]

-- the second half of a base is its mask
half : (base : List ℕ) (range : IpRange) (r : IsRangeOf base range) → drop (length base / 2) base ≡ r.mask
half base range r =
    let n : length base ≡ length range.address.now + length r.mask = ap length r.joined ∙ length-append range.address.now r.mask in
    let same = r.same_length in
    let k : length range.address.now ≡ length base / 2 = omega arith in
    ap (λ (l : List ℕ). drop (length base / 2) l) r.joined ∙ drop_at range.address.now r.mask (length base / 2) k

pub no_range : (base mask : List ℕ) (range : IpRange) → mask ≡ drop (length base / 2) base → HasHole mask → IsRangeOf base range → ⊥
no_range base mask range e h r = no_hole r.mask range.prefix r.ones_then_zeros (subst HasHole (e ∙ half base range r) h)
