-- Fingerprints that come to those that are believed.
use Rattle.std.proofs.Common.{◌≡◌, ◌∙◌, ◌↔◌, ◌||◌, ◌⊎◌, ℕ, zero, suc, Bool, true, false, List, ◌∷◌, Contains, IsTrue, arith, refl, sym, ap, inl, inr, if◌then◌else◌}
use Rattle.std.specs.Ordering.{is_eq, nat_cmp}
use Rattle.std.specs.Cmp.Lexicographic.{slice_cmp}
use Rattle.std.proofs.lemmas.Map.Text.{is_eq-slice_cmp}
use Rattle.std.proofs.lemmas.Slice.Eq.{bytes_eq-Decides}

-- listed, or told now or before
told : (listed before now same : Bool) → now ≡ (if same then true else before) → IsTrue (listed || now) → (same ≡ true) ⊎ IsTrue (listed || before)
told true before now same is believed = inr refl
told false before now true is believed = inl refl
told false before now false is believed = inr (sym is ∙ believed)

told_now : (listed before now same : Bool) → now ≡ (if same then true else before) → same ≡ true → IsTrue (listed || now)
told_now true before now same is it = refl
told_now false before now true is it = is
told_now false before now false is it = absurd cc

told_before : (listed before now same : Bool) → now ≡ (if same then true else before) → IsTrue (listed || before) → IsTrue (listed || now)
told_before true before now same is believed = refl
told_before false before now true is believed = is
told_before false before now false is believed = is ∙ believed

at_head : (prints : List (List ℕ)) (print other : List ℕ) → print ≡ other → Contains (print ∷ prints) other
at_head prints print other same = (0, omega arith, same)

behind : (prints : List (List ℕ)) (print other : List ℕ) → Contains prints other → Contains (print ∷ prints) other
behind prints print other (k, within, is) = (suc k, omega (arith, within), is)

among : (prints : List (List ℕ)) (print other : List ℕ) → Contains (print ∷ prints) other → (print ≡ other) ⊎ Contains prints other
among prints print other (zero, within, is) = inl is
among prints print other (suc k, within, is) = inr (k, omega (arith, within), is)

-- one more is believed
pub one_more : (prints : List (List ℕ)) (print : List ℕ) (listed before now : List ℕ → Bool)
    → ((other : List ℕ) → now other ≡ (if is_eq (slice_cmp nat_cmp print other) then true else before other))
    → ((other : List ℕ) → (IsTrue (listed other || before other) ↔ Contains prints other))
    → (other : List ℕ) → (IsTrue (listed other || now other) ↔ Contains (print ∷ prints) other)
one_more prints print listed before now updates believes other =
    let same = is_eq (slice_cmp nat_cmp print other) in
    let decides = bytes_eq-Decides print other in
    let equal = is_eq-slice_cmp print other in (
      λ believed. elim (told (listed other) (before other) (now other) same (updates other) believed) [
        | inl it ↦ at_head prints print other (decides.0 (sym equal ∙ it))
        | inr old ↦ behind prints print other ((believes other).0 old)
      ],
      λ contained. elim (among prints print other contained) [
        | inl it ↦ told_now (listed other) (before other) (now other) same (updates other) (equal ∙ decides.1 it)
        | inr old ↦ told_before (listed other) (before other) (now other) same (updates other) ((believes other).1 old)
      ],
    )

or_false : (b : Bool) → (b || false) ≡ b
or_false true = refl
or_false false = refl

-- nothing but the list is believed
pub none_told : (prints : List (List ℕ)) (listed now : List ℕ → Bool) → ((other : List ℕ) → now other ≡ false)
    → ((other : List ℕ) → (IsTrue (listed other) ↔ Contains prints other)) → (other : List ℕ) → (IsTrue (listed other || now other) ↔ Contains prints other)
none_told prints listed now none believes other =
    let same : (listed other || now other) ≡ listed other = ap (λ (b : Bool). listed other || b) (none other) ∙ or_false (listed other) in
    (λ believed. (believes other).0 (sym same ∙ believed), λ contained. same ∙ (believes other).1 contained)
