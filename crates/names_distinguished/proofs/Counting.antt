-- Two sets with no type twice: as many of one are found in the other as of the other in the one. So it is enough to look at one
-- side where they are of one size.
use Rattle.std.proofs.Common.{◌≡◌, ℕ, List, [], ◌∷◌, length, true, None, refl, sym, ap, ◌∙◌, inl, inr, arith, IsTrue, nat_eq}
use Rattle.std.specs.Prelude.{is_some, if◌then◌else◌}
use Rattle.std.specs.List.{AllByRecursion}
use Rattle.std.specs.Cmp.Lexicographic.{pointwise}
use Rattle.std.proofs.lemmas.Bool.{both_ways, cases_Bool}
use Rattle.std.proofs.lemmas.Slice.Eq.{bytes_eq-Decides}
use Rattle.names_distinguished.specs.DistinguishedName.{ComparedAttribute, rdn_map, value_at, AgreeAt}
use Rattle.names_distinguished.specs.NameParts.{are_distinct}
use Rattle.names_distinguished.specs.Agreement.{found_in}
use Rattle.names_distinguished.proofs.Matching.{AgreeOn, value_first, value_later, value_none, at_or_none, same_sets, sets_agree}
use Rattle.names_distinguished.proofs.Distinct.{distinct_parts}
use Rattle.names_distinguished.proofs.Agreement.{own_values, all_found, count_both, count_bound, none_in_nothing, one_is}

-- a type stands once in a set or not at all
one_kind : (e : ComparedAttribute) (es : List ComparedAttribute) → IsTrue (are_distinct es) → found_in (e ∷ []) es ≡ (if is_some (value_at e.0 es) then 1 else 0)
unfolding found_in
one_kind e [] distinct = rw (value_none e.0) refl
one_kind e (d ∷ ds) distinct =
    let p = distinct_parts d ds distinct in
    let h = one_kind e ds p.1 in
    elim (cases_Bool (pointwise nat_eq e.0 d.0)) [
      | inl t ↦
          let same = (bytes_eq-Decides e.0 d.0).0 t in
          let none : value_at e.0 ds ≡ None = ap (λ (k : List ℕ). value_at k ds) same ∙ p.0 in
          let z : found_in (e ∷ []) ds ≡ 0 = h ∙ rw none refl in
          rw (value_first d.0 e [] (sym same), value_first e.0 d ds same) (omega arith)
      | inr f ↦
          let other = λ (same : e.0 ≡ d.0). both_ways (pointwise nat_eq e.0 d.0) f ((bytes_eq-Decides e.0 d.0).1 same) in
          rw (value_later d.0 e [] (λ same. other (sym same)), value_none d.0, value_later e.0 d ds other) (omega arith)
    ]

both_counts : (es ds : List ComparedAttribute) → IsTrue (are_distinct es) → IsTrue (are_distinct ds) → found_in ds es ≡ found_in es ds
unfolding found_in
both_counts [] ds first second = sym (none_in_nothing ds)
both_counts (e ∷ es) ds first second =
    let h = both_counts es ds (distinct_parts e es first).1 second in
    let one = one_kind e ds second in
    let both = count_both (e ∷ []) es ds first in
    omega arith

each_there : (run es : List ComparedAttribute) → found_in run es ≡ length es → AllByRecursion (λ (e : ComparedAttribute). is_some (value_at e.0 run) ≡ true) es
unfolding found_in
each_there run [] e = tt
each_there run (d ∷ ds) e =
    let one = one_is (is_some (value_at d.0 run)) (found_in run ds) (length ds) e (count_bound run ds) in
    (one.0, each_there run ds one.1)

other_side : (l r es : List ComparedAttribute) → AgreeOn l r l → AllByRecursion (λ (e : ComparedAttribute). is_some (value_at e.0 l) ≡ true) es → AgreeOn r l es
other_side l r [] agree there = tt
other_side l r (e ∷ es) agree there = (
  elim (at_or_none (AgreeAt l r) l agree e.0) [
    | inl n ↦ absurd (both_ways (is_some (value_at e.0 l)) (ap is_some n) there.0)
    | inr g ↦ record { same = sym g.same }
  ],
  other_side l r es agree there.1,
)

pub same_by_one_side : (l r : List ComparedAttribute) → IsTrue (are_distinct l) → IsTrue (are_distinct r) → length l ≡ length r → AgreeOn l r l → rdn_map l ≡ rdn_map r
same_by_one_side l r first second size agree =
    let all = all_found l r l (own_values l first) agree in
    let n : found_in l r ≡ length r = sym (both_counts l r first second) ∙ (all ∙ size) in
    same_sets l r agree (other_side l r r agree (each_there l r n))

pub same_size : (l r : List ComparedAttribute) → IsTrue (are_distinct l) → IsTrue (are_distinct r) → rdn_map l ≡ rdn_map r → length l ≡ length r
same_size l r first second same =
    sym (all_found l r l (own_values l first) (sets_agree l r same)) ∙ (both_counts l r first second ∙ all_found r l r (own_values r second) (sets_agree r l (sym same)))
