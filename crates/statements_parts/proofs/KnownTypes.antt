-- A type that is in a set of types already leaves the set as it was.
use Rattle.std.proofs.Common.{◌≡◌, ℕ, Bool, true, false, not, ◌||◌, List, refl, sym, ◌∙◌}
use Rattle.std.specs.Ordering.{nat_cmp, eq_by_cmp}
use Rattle.std.specs.Cmp.{Equal-is}
use Rattle.std.specs.Cmp.Lexicographic.{slice_cmp}
use Rattle.std.specs.FinSet.{contains, insert, contains_tied, contains-insert, same_set}
use Rattle.std.specs.FinMap.{nat_cmp-IsAntisymmetric, slice_cmp-IsAntisymmetric}
use Rattle.std.proofs.lemmas.Cmp.{nat_list_cmp_total}
use Rattle.cert.specs.OidSet.{Oids}

with_known : (types : Oids) (octets : List ℕ) → contains types octets ≡ true → insert types octets ≡ types
with_known types octets is =
    same_set nat_list_cmp_total (slice_cmp-IsAntisymmetric nat_cmp-IsAntisymmetric) _ _
    (λ other. contains-insert nat_list_cmp_total types octets other ∙ by other (eq_by_cmp (slice_cmp nat_cmp) other octets) refl)
  where
    by : (other : List ℕ) (b : Bool) → eq_by_cmp (slice_cmp nat_cmp) other octets ≡ b → (b || contains types other) ≡ contains types other
    by other true same = sym is ∙ contains_tied nat_list_cmp_total types other octets ((Equal-is (slice_cmp nat_cmp other octets)).0 same)
    by other false same = refl

known : (b : Bool) → not b ≡ false → b ≡ true
known true e = refl
known false e = absurd cc

-- the set after one that is not new
pub types_kept : (old new : Oids) (octets : List ℕ) (is_new : Bool) → new ≡ insert old octets → is_new ≡ not (contains old octets) → is_new ≡ false → new ≡ old
types_kept old new octets is_new added test repeated = added ∙ with_known old octets (known (contains old octets) (sym test ∙ repeated))
