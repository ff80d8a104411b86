-- Tests that agree.
use Rattle.std.proofs.Common.{◌≡◌, ℕ, Bool, true, false, ◌||◌, List, refl, sym, ◌∙◌}
use Rattle.std.specs.Str.{bytes_eq}
use Rattle.std.proofs.lemmas.Bool.{false≢true}
use Rattle.std.proofs.lemmas.Slice.Eq.{bytes_eq-Decides}

pub or_false : (b : Bool) → (b || false) ≡ b
or_false true = refl
or_false false = refl

-- the order of the two does not matter
pub is_same_back : (one other : List ℕ) → bytes_eq one other ≡ bytes_eq other one
is_same_back one other = by (bytes_eq one other) (bytes_eq other one) refl refl where
  by : (a b : Bool) → bytes_eq one other ≡ a → bytes_eq other one ≡ b → a ≡ b
  by true true _ _ = refl
  by false false _ _ = refl
  by true false is not_is = absurd (false≢true (sym not_is ∙ (bytes_eq-Decides other one).1 (sym ((bytes_eq-Decides one other).0 is))))
  by false true not_is is = absurd (false≢true (sym not_is ∙ (bytes_eq-Decides one other).1 (sym ((bytes_eq-Decides other one).0 is))))
