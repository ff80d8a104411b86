-- The first attributes of a set, as a run or a batch.
use Rattle.std.proofs.Common.{◌≡◌, ◌+◌, ℕ, List, [], ◌∷◌, ◌++◌, refl, sym, ap, ◌∙◌, subst}
use Rattle.std.specs.Prelude.{is_some, if◌then◌else◌}
use Rattle.names_distinguished.specs.DistinguishedName.{ComparedAttribute, value_at}
use Rattle.names_distinguished.specs.Agreement.{run_of, rising, AllFit, found_in, IsCount}
use Rattle.names_distinguished.specs.Batch.{IsBatchOfSet, IsFrontCount, FrontDiffers}

-- lists with the same values are found alike
SameValues : List ComparedAttribute → List ComparedAttribute → Type 0
SameValues one two = (kind : List ℕ) → value_at kind one ≡ value_at kind two

fit_alike : (one two es : List ComparedAttribute) → SameValues one two → AllFit one es → AllFit two es
unfolding SameValues
fit_alike one two [] same h = tt
fit_alike one two (e ∷ es) same h = (record { only = λ v found. h.0.only v (same e.0 ∙ found) }, fit_alike one two es same h.1)

found_alike : (one two es : List ComparedAttribute) → SameValues one two → found_in one es ≡ found_in two es
unfolding found_in SameValues
found_alike one two [] same = refl
found_alike one two (e ∷ es) same =
    λ i. (if is_some (same e.0 i) then 1 else 0) + found_alike one two es same i

pub run_counted : (set other rest run : List ComparedAttribute) (count : ℕ) → (set ≡ [] → ⊥) → set ≡ run_of set ++ rest → run ≡ run_of set → IsCount run other count → IsFrontCount set other rest count
run_counted [] other rest run count some joined is h = absurd (some refl)
run_counted (e ∷ es) other rest run count some joined is h = record {
  first = e;
  others = rising e.0 es;
  joined = joined;
  counts = subst (λ (ds : List ComparedAttribute). IsCount ds other count) is h;
}

pub run_differs : (set other rest run : List ComparedAttribute) → set ≡ run_of set ++ rest → run ≡ run_of set → (AllFit run other → ⊥) → FrontDiffers set other
run_differs set other rest run joined is wrong = record {
  front = run_of set;
  rest = rest;
  joined = joined;
  differs = λ fits. wrong (subst (λ (ds : List ComparedAttribute). AllFit ds other) (sym is) fits);
}

pub batch_counted : (set other rest batch run : List ComparedAttribute) (count : ℕ) → IsBatchOfSet set rest batch → run ≡ batch → IsCount run other count → IsFrontCount set other rest count
unfolding SameValues
batch_counted set other rest batch run count h is counts =
    let same = λ (kind : List ℕ). ap (value_at kind) is ∙ h.values kind in
    record {
      first = h.first;
      others = h.others;
      joined = h.joined;
      counts = record { fits = fit_alike run (h.first ∷ h.others) other same counts.fits; number = counts.number ∙ found_alike run (h.first ∷ h.others) other same };
    }

pub batch_differs : (set other rest batch run : List ComparedAttribute) → IsBatchOfSet set rest batch → run ≡ batch → (AllFit run other → ⊥) → FrontDiffers set other
unfolding SameValues
batch_differs set other rest batch run h is wrong =
    let same = λ (kind : List ℕ). sym (ap (value_at kind) is ∙ h.values kind) in
    record {
      front = h.first ∷ h.others;
      rest = rest;
      joined = h.joined;
      differs = λ fits. wrong (fit_alike (h.first ∷ h.others) run other same fits);
    }
