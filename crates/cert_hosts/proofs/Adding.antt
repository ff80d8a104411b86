-- Mailboxes are added for one value after the other.
use Rattle.std.proofs.Common.{◌≡◌, ◌<◌, ◌+◌, ℕ, List, [], ◌∷◌, ◌++◌, append_assoc, append-nil, length, map, take, get_or, Option, refl, sym, ap, ◌∙◌}
use Rattle.std.specs.Prelude.{flat_map, filter_map}
use Rattle.std.specs.List.{cons_option}
use Rattle.std.proofs.lemmas.List.{map_more, map-append}
use Rattle.std.proofs.lemmas.List.Elements.{filter_map-append}

module _ {V W X : Type 0} (find : W → X) where
  -- those of one more value, and of the values behind it
  pub one_added : (of : V → List W) (old new : List X) (value : V) (values behind : List V) → values ≡ value ∷ behind → new ≡ old ++ map find (of value)
      → new ++ map find (flat_map of behind) ≡ old ++ map find (flat_map of values)
  one_added of old new value values behind first added =
      ap (λ l. l ++ map find (flat_map of behind)) added
      ∙ (append_assoc old (map find (of value)) (map find (flat_map of behind))
      ∙ ap (λ l. old ++ l) (sym (map-append find (of value) (flat_map of behind)) ∙ ap (λ (l : List V). map find (flat_map of l)) (sym first)))

  pub none_left : (of : V → List W) (new : List X) (behind : List V) → behind ≡ [] → new ++ map find (flat_map of behind) ≡ new
  none_left of new behind none = ap (λ (l : List V). new ++ map find (flat_map of l)) none ∙ append-nil new

  -- those of one more item of a list that code goes over
  pub one_more : {C : Type 0} (view : C → V) (of : V → Option W) (items : List C) (i : ℕ) (d : C) (first old new : List X) → i < length items
      → old ≡ first ++ map find (filter_map of (map view (take i items))) → new ≡ old ++ map find (cons_option (of (view (get_or items i d))) [])
      → new ≡ first ++ map find (filter_map of (map view (take (i + 1) items)))
  one_more view of items i d first old new low before added =
      added
      ∙ (ap (λ l. l ++ map find (filter_map of (view (get_or items i d) ∷ []))) before
      ∙ (append_assoc first (map find (filter_map of (map view (take i items)))) (map find (filter_map of (view (get_or items i d) ∷ [])))
      ∙ ap (λ l. first ++ l)
      (sym (map-append find (filter_map of (map view (take i items))) (filter_map of (view (get_or items i d) ∷ [])))
      ∙ (ap (map find) (sym (filter_map-append of (map view (take i items)) (view (get_or items i d) ∷ [])))
      ∙ ap (λ (l : List V). map find (filter_map of l)) (sym (map_more view items i d low))))))
