-- What is found first in a list, where others are left out, or are put elsewhere by a stable sort.
use Rattle.std.proofs.Common.{◌≡◌, Bool, true, false, List, [], ◌∷◌, Option, Some, None, IfSome, map, option_map, ℕ, refl, sym, ap, ◌∙◌, subst}
use Rattle.std.specs.List.{find, filter}
use Rattle.std.specs.Str.{bytes_eq}
use Rattle.statements_facts.specs.Listed.{ListedSerial, first_reason}

module _ {X : Type 0} (p : X → Bool) where
  -- those that are left out are not those that are looked for
  found_within : (q : X → Bool) → ((x : X) → p x ≡ true → q x ≡ true) → (xs : List X) → find p (filter q xs) ≡ find p xs
  found_within q stays [] = refl
  found_within q stays (x ∷ xs) = by (found_within q stays xs) (p x) refl (q x) refl where
    by : find p (filter q xs) ≡ find p xs → (a : Bool) → p x ≡ a → (b : Bool) → q x ≡ b → find p (filter q (x ∷ xs)) ≡ find p (x ∷ xs)
    by rest true e b f = rw (stays x e, e) refl
    by rest false e true f = rw (f, e) rest
    by rest false e false f = rw (f, e) rest

  found_passes : (xs : List X) → IfSome (find p xs) (λ x. p x ≡ true)
  found_passes [] = tt
  found_passes (x ∷ xs) = by (found_passes xs) (p x) refl where
    by : IfSome (find p xs) (λ y. p y ≡ true) → (b : Bool) → p x ≡ b → IfSome (find p (x ∷ xs)) (λ y. p y ≡ true)
    by rest true e = rw e e
    by rest false e = rw e rest

  -- a sort that leaves those that tie in their order finds the same first, where all that are looked for tie
  module _ (tie : X → X → Bool) (all_tie : (x y : X) → p x ≡ true → p y ≡ true → tie x y ≡ true) (xs ys : List X) (stable : (x : X) → filter (tie x) ys ≡ filter (tie x) xs) where
    alike_at : (x : X) → p x ≡ true → find p ys ≡ find p xs
    alike_at x e = sym (found_within (tie x) (λ y. all_tie x y e) ys) ∙ ap (find p) (stable x) ∙ found_within (tie x) (λ y. all_tie x y e) xs

    pub found_kept : find p ys ≡ find p xs
    found_kept = by (find p xs) refl (find p ys) refl where
      by : (o : Option X) → find p xs ≡ o → (q : Option X) → find p ys ≡ q → find p ys ≡ find p xs
      by (Some x) e q f = alike_at x (subst (λ found. IfSome found (λ y. p y ≡ true)) e (found_passes xs))
      by None e (Some y) f = alike_at y (subst (λ found. IfSome found (λ z. p z ≡ true)) f (found_passes ys))
      by None e None f = f ∙ sym e

-- the reason of a serial number is that of the first that has it
pub reason_seen : {X : Type 0} (seen : X → ListedSerial) (serial : List ℕ) (xs : List X) → first_reason (map seen xs) serial ≡ option_map (λ x. (seen x).reason) (find (λ x. bytes_eq (seen x).serial serial) xs)
reason_seen seen serial [] = refl
reason_seen seen serial (x ∷ xs) = by (reason_seen seen serial xs) (bytes_eq (seen x).serial serial) refl where
  by : first_reason (map seen xs) serial ≡ option_map (λ y. (seen y).reason) (find (λ y. bytes_eq (seen y).serial serial) xs) → (b : Bool) → bytes_eq (seen x).serial serial ≡ b
      → first_reason (map seen (x ∷ xs)) serial ≡ option_map (λ y. (seen y).reason) (find (λ y. bytes_eq (seen y).serial serial) (x ∷ xs))
  by rest true e = rw e refl
  by rest false e = rw e rest
