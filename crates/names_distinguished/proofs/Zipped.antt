-- Lists side by side: what holds of the elements of one holds of those of the other.
use Rattle.std.proofs.Common.{◌≡◌, ℕ, zero, suc, ◌+◌, ◌<◌, List, [], ◌∷◌, length, get_or, Bool, refl, sym, ap, ◌∙◌, arith, All, AllPairs, IsSortedBy}
use Rattle.std.specs.List.{AllByRecursion, AllZip}
use Rattle.std.proofs.lemmas.List.Elements.{All-from_recursion}

pub zip_flip : {A B : Type 0} (R : A → B → Type 0) (xs : List A) (ys : List B) → AllZip R xs ys → AllZip (λ y x. R x y) ys xs
zip_flip R [] [] zip = tt
zip_flip R [] (y ∷ ys) zip = absurd zip
zip_flip R (x ∷ xs) [] zip = absurd zip
zip_flip R (x ∷ xs) (y ∷ ys) zip = (zip.0, zip_flip R xs ys zip.1)

zip_length : {A B : Type 0} (R : A → B → Type 0) (xs : List A) (ys : List B) → AllZip R xs ys → length xs ≡ length ys
zip_length R [] [] zip = refl
zip_length R [] (y ∷ ys) zip = absurd zip
zip_length R (x ∷ xs) [] zip = absurd zip
zip_length R (x ∷ xs) (y ∷ ys) zip = ap suc (zip_length R xs ys zip.1)

zip_at : {A B : Type 0} (R : A → B → Type 0) (xs : List A) (ys : List B) → AllZip R xs ys → (k : ℕ) (d : A) (e : B) → k < length xs → R (get_or xs k d) (get_or ys k e)
zip_at R [] [] zip k d e within = absurd (omega arith)
zip_at R [] (y ∷ ys) zip k d e within = absurd zip
zip_at R (x ∷ xs) [] zip k d e within = absurd zip
zip_at R (x ∷ xs) (y ∷ ys) zip zero d e within = zip.0
zip_at R (x ∷ xs) (y ∷ ys) zip (suc k) d e within = zip_at R xs ys zip.1 k d e (omega arith)

pub zip_some : {A B : Type 0} (R : A → B → Type 0) (xs : List A) (ys : List B) → AllZip R xs ys → (xs ≡ [] → ⊥) → ys ≡ [] → ⊥
zip_some R [] [] zip some none = some refl
zip_some R [] (y ∷ ys) zip some none = absurd zip
zip_some R (x ∷ xs) [] zip some none = absurd zip
zip_some R (x ∷ xs) (y ∷ ys) zip some none = absurd cc

pub zip_all : {A B : Type 0} (R : A → B → Type 0) (P : B → Type 0) → ((x : A) (y : B) → R x y → P y) → (xs : List A) (ys : List B) → AllZip R xs ys → All P ys
zip_all {A = A} {B = B} R P one xs ys zip = All-from_recursion P ys (by xs ys zip) where
  by : (us : List A) (vs : List B) → AllZip R us vs → AllByRecursion P vs
  by [] [] zip = tt
  by [] (y ∷ vs) zip = absurd zip
  by (x ∷ us) [] zip = absurd zip
  by (x ∷ us) (y ∷ vs) zip = (one x y zip.0, by us vs zip.1)

pub zip_pairs : {A B : Type 0} (R : A → B → Type 0) (P : A → A → Type 0) (Q : B → B → Type 0) → ((x : A) (y : B) (u : A) (v : B) → R x y → R u v → P x u → Q y v) → (xs : List A) (ys : List B) → AllZip R xs ys → AllPairs P xs → AllPairs Q ys
zip_pairs R P Q one [] [] zip pairs i j d lt within = absurd (omega arith)
zip_pairs R P Q one [] (y ∷ ys) zip pairs i j d lt within = absurd zip
zip_pairs R P Q one (x ∷ xs) [] zip pairs i j d lt within = absurd zip
zip_pairs R P Q one (x ∷ xs) (y ∷ ys) zip pairs i j d lt within =
    let same = zip_length R xs ys zip.1 in
    let early = zip_at R (x ∷ xs) (y ∷ ys) zip i x d (omega arith) in
    let late = zip_at R (x ∷ xs) (y ∷ ys) zip j x d (omega arith) in
    one (get_or (x ∷ xs) i x) (get_or (y ∷ ys) i d) (get_or (x ∷ xs) j x) (get_or (y ∷ ys) j d) early late (pairs i j x lt (omega arith))

pub zip_sorted : {A B : Type 0} (R : A → B → Type 0) (lt : A → A → Bool) (less : B → B → Bool) → ((x : A) (y : B) (u : A) (v : B) → R x y → R u v → lt x u ≡ less y v) → (xs : List A) (ys : List B) → AllZip R xs ys → IsSortedBy lt xs → IsSortedBy less ys
zip_sorted R lt less one [] [] zip sorted k d low within = absurd (omega arith)
zip_sorted R lt less one [] (y ∷ ys) zip sorted k d low within = absurd zip
zip_sorted R lt less one (x ∷ xs) [] zip sorted k d low within = absurd zip
zip_sorted R lt less one (x ∷ xs) (y ∷ ys) zip sorted k d low within =
    let same = zip_length R xs ys zip.1 in
    let late = zip_at R (x ∷ xs) (y ∷ ys) zip (k + 1) x d (omega arith) in
    let early = zip_at R (x ∷ xs) (y ∷ ys) zip k x d (omega arith) in
    sym (one (get_or (x ∷ xs) (k + 1) x) (get_or (y ∷ ys) (k + 1) d) (get_or (x ∷ xs) k x) (get_or (y ∷ ys) k d) late early) ∙ sorted k x low (omega arith)
