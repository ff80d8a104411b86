-- Of things in order by their keys, none of which has a key that begins with that of the one before it, the last that does not stand
-- behind a list is the one with whose key the list may begin.
use Rattle.std.proofs.Common.{◌≡◌, ◌+◌, ◌-◌, ◌<◌, ◌≤◌, ℕ, List, length, Bool, true, false, not, refl, ap, sym, ◌∙◌, inl, inr, arith, get_or}
use Rattle.std.specs.List.{list_any}
use Rattle.std.specs.List.Sorted.{IsSortedBy, IsPartitionedBy, IsPartitionPoint}
use Rattle.std.specs.Cmp.{IsStrictWeakOrder}
use Rattle.std.proofs.lemmas.Bool.{false≢true, false_from_ne_true, cases_lt, cases_Bool}
use Rattle.std.proofs.lemmas.Cmp.{nat_list_cmp_total}
use Rattle.std.proofs.lemmas.List.{get_or_default}
use Rattle.std.proofs.lemmas.List.Folds.{Any-from_list_any, list_any_at}
use Rattle.std.proofs.lemmas.List.Sorted.{ranks_by, sorted_far}
use Rattle.names_order.specs.Order.{begins_with}
use Rattle.names_order.proofs.KeyLists.{comes_before, begins_behind, begins_between}

lists_rank : IsStrictWeakOrder comes_before
lists_rank = ranks_by nat_list_cmp_total (λ (l : List ℕ). l)

not_so : (b : Bool) → not b ≡ true → b ≡ false
not_so true h = absurd (false≢true h)
not_so false h = refl

so_not : (b : Bool) → b ≡ false → not b ≡ true
so_not true h = absurd (false≢true (sym h))
so_not false h = refl

module _ {X : Type 0} (key : X → List ℕ) (q : List ℕ) (tops : List X) (sorted : IsSortedBy (λ s t. comes_before (key s) (key t)) tops) where
  -- the list does not stand before it
  abbrev is_upto : X → Bool
  is_upto s = not (comes_before q (key s))

  abbrev begins : X → Bool
  begins s = begins_with q (key s)

  pub upto_first_key : IsPartitionedBy (λ s. not (comes_before q (key s))) tops
  upto_first_key i j d le within h =
      so_not _ (lists_rank.chain q (key (get_or tops j d)) (key (get_or tops i d)) (not_so _ h)
      (sorted_far (λ s t. comes_before (key s) (key t)) (ranks_by nat_list_cmp_total key) tops sorted i j d le within))

  module _ (apart : (k : ℕ) (d : X) → k + 1 < length tops → begins_with q (key (get_or tops k d)) ≡ true → begins_with (key (get_or tops (k + 1) d)) (key (get_or tops k d)) ≡ false) where
    -- the next one would begin with it
    none_next : (k : ℕ) (d : X) → k + 1 < length tops → begins (get_or tops k d) ≡ true → is_upto (get_or tops (k + 1) d) ≡ true → ⊥
    none_next k d within h low =
        let s = key (get_or tops k d) in
        let t = key (get_or tops (k + 1) d) in
        false≢true (sym (apart k d within h) ∙ begins_between s t q h (sorted k d (omega arith) within) (not_so _ low))

    module _ (place : ℕ) (bound : place ≤ length tops) (point : IsPartitionPoint (λ s. not (comes_before q (key s)) ≡ true) (λ s. not (comes_before q (key s)) ≡ false) tops place) where
      -- the one with which it begins stands right before the place
      at_place : (k : ℕ) (d : X) → k < length tops → begins (get_or tops k d) ≡ true → k + 1 ≡ place
      at_place k d within h =
          elim (cases_lt k place) [
            | inl lt ↦ elim (cases_lt (k + 1) place) [
              | inl more ↦ absurd (none_next k d (omega arith) h (point.0 (k + 1) d (omega arith) more))
              | inr less ↦ omega arith
            ]
            | inr ge ↦ absurd (false≢true (sym (point.1 k d ge within) ∙ so_not _ (begins_behind q (key (get_or tops k d)) h)))
          ]

      pub begins_with_none : place ≡ 0 → false ≡ list_any (λ s. begins_with q (key s)) tops
      begins_with_none zero_is =
          sym (false_from_ne_true (list_any begins tops)
          (λ t. let a = Any-from_list_any begins tops t in
          let e : a.0 + 1 ≡ place = at_place a.0 a.1 a.2 (ap begins a.3 ∙ a.4) in
          absurd (omega arith)))

      pub last_key_decides : (top : X) → 0 < place → get_or tops (place - 1) top ≡ top → begins_with q (key top) ≡ list_any (λ s. begins_with q (key s)) tops
      last_key_decides top some is =
          elim (cases_Bool (begins top)) [
            | inl t ↦ t ∙ sym (list_any_at begins tops (place - 1) top (omega arith) (ap begins is ∙ t))
            | inr f ↦ f ∙ sym (false_from_ne_true (list_any begins tops)
                (λ t. let a = Any-from_list_any begins tops t in
                let e : a.0 + 1 ≡ place = at_place a.0 a.1 a.2 (ap begins a.3 ∙ a.4) in
                let k : a.0 ≡ place - 1 = omega arith in
                let same : a.1 ≡ top = sym a.3 ∙ (ap (λ (n : ℕ). get_or tops n a.1) k ∙ (get_or_default tops (place - 1) a.1 top (omega arith) ∙ is)) in
                false≢true (sym f ∙ (ap begins (sym same) ∙ a.4))))
          ]
