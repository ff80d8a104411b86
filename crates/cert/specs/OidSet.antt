-- Sets of OBJECT IDENTIFIERs by their contents.
use Rattle.std.specs.Prelude.{ℕ, List, ◌++◌, map}
use Rattle.std.specs.Ordering.{nat_cmp}
use Rattle.std.specs.Borrow.{Bor}
use Rattle.std.specs.Cmp.Lexicographic.{slice_cmp}
use Rattle.std.specs.FinSet.{FinSet, from_list}
use Rattle.cert.specs.declared.oid_set.OidSet.{OidSet}

abbrev pub Oids : Type 0
Oids = FinSet {K = List ℕ} (slice_cmp nat_cmp)

abbrev pub oids_from : List (Bor (List ℕ)) → Oids
oids_from oids = from_list (map (λ oid. oid.now) oids)

unfoldable pub oids_in : OidSet → Oids
oids_in set = oids_from (set.few.items ++ set.many.keys)
