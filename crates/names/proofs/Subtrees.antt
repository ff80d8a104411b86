-- The laws of subtrees, by the laws of each form.
use Rattle.std.proofs.Common.{◌≡◌, ◌⊎◌, ℕ, List, [], ◌∷◌, ◌++◌, refl, sym, ◌∙◌, ap, inl, inr, append_assoc, IsTrue, eq-eqb}
use Rattle.std.proofs.lemmas.Bool.{eqb-true}
use Rattle.names.specs.declared.general.General.{General}
use Rattle.names.specs.declared.subtree.Subtree.{Subtree}
use Rattle.names.specs.declared.general.General.TheVariants as G
use Rattle.names.specs.declared.general.Form.TheVariants as F
use Rattle.names.specs.declared.subtree.Subtree.TheVariants as S
use Rattle.names_distinguished.specs.DistinguishedName.{RdnMap, IsWithin, is_within}
use Rattle.names_distinguished.specs.NameOctets.{rdns_of}
use Rattle.names.specs.GeneralSubtree.{is_in_subtree, is_subtree_inside, has_form, SubtreeTestIsExact, InsideIsSound, SharedIsNested, FormIsKept, FormIsProcessed, FormTestIsExact}
use Rattle.names_distinguished.proofs.Laws.{within_is_exact}
use Rattle.names.proofs.DomainLaws.{domain_test_is_exact, domain_inside_is_sound, shared_domains_are_nested}
use Rattle.names.proofs.Ranges.{range_test_is_exact, range_inside_is_sound, shared_ranges_are_nested}

within_through : (x s t : List RdnMap) → IsWithin s t → IsWithin x s → IsWithin x t
within_through x s t a b = record {
  rest = a.rest ++ b.rest;
  joined = b.joined ∙ (ap (λ (l : List RdnMap). l ++ b.rest) a.joined ∙ append_assoc t a.rest b.rest);
}

pub test_within : (x s t : List RdnMap) → IsTrue (is_within s t) → IsTrue (is_within x s) → IsTrue (is_within x t)
test_within x s t p q = (within_is_exact x t).1 (within_through x s t ((within_is_exact s t).0 p) ((within_is_exact x s).0 q))

-- of two beginnings of one list one begins with the other
module _ {X : Type 0} where
  begins_one : (xs s t u v : List X) → xs ≡ s ++ u → xs ≡ t ++ v → ((r : List X) × (s ≡ t ++ r)) ⊎ ((r : List X) × (t ≡ s ++ r))
  begins_one xs s [] u v a b = inl (s, refl)
  begins_one xs [] (y ∷ t) u v a b = inr (y ∷ t, refl)
  begins_one [] (x ∷ s) (y ∷ t) u v a b = cc
  begins_one (z ∷ xs) (x ∷ s) (y ∷ t) u v a b =
      let p : xs ≡ s ++ u = cc in
      let q : xs ≡ t ++ v = cc in
      let e : x ≡ y = cc in
      elim (begins_one xs s t u v p q) [
        | inl h ↦ inl (h.0, λ i. e i ∷ h.1 i)
        | inr h ↦ inr (h.0, λ i. sym e i ∷ h.1 i)
      ]

pub within_nested : (x s t : List RdnMap) → IsWithin x s → IsWithin x t → IsTrue (is_within s t) ⊎ IsTrue (is_within t s)
within_nested x s t a b =
    elim (begins_one x s t a.rest b.rest a.joined b.joined) [
      | inl h ↦ inl ((within_is_exact s t).1 (record { rest = h.0; joined = h.1 }))
      | inr h ↦ inr ((within_is_exact t s).1 (record { rest = h.0; joined = h.1 }))
    ]

pub subtree_test_is_exact : SubtreeTestIsExact
unfolding is_in_subtree
subtree_test_is_exact (G.Directory x) (S.Directory s) = within_is_exact (rdns_of x) (rdns_of s)
subtree_test_is_exact (G.Dns x) (S.Dns s) = domain_test_is_exact x.now s
subtree_test_is_exact (G.Ip x) (S.Ip s) = range_test_is_exact x.now s
subtree_test_is_exact x s = (λ h. cc, λ h. absurd h)

-- both laws for the tests
test_inside : (x : General) (s t : Subtree) → IsTrue (is_subtree_inside s t) → IsTrue (is_in_subtree x s) → IsTrue (is_in_subtree x t)
unfolding is_in_subtree is_subtree_inside
test_inside (G.Directory x) (S.Directory s) (S.Directory t) p q = test_within (rdns_of x) (rdns_of s) (rdns_of t) p q
test_inside (G.Dns x) (S.Dns s) (S.Dns t) p q = domain_inside_is_sound x.now s t p q
test_inside (G.Ip x) (S.Ip s) (S.Ip t) p q = range_inside_is_sound x.now s t p q
test_inside x s t p q = cc

test_nested : (x : General) (s t : Subtree) → IsTrue (is_in_subtree x s) → IsTrue (is_in_subtree x t) → IsTrue (is_subtree_inside s t) ⊎ IsTrue (is_subtree_inside t s)
unfolding is_in_subtree is_subtree_inside
test_nested (G.Directory x) (S.Directory s) (S.Directory t) p q =
    within_nested (rdns_of x) (rdns_of s) (rdns_of t) ((within_is_exact (rdns_of x) (rdns_of s)).0 p) ((within_is_exact (rdns_of x) (rdns_of t)).0 q)
test_nested (G.Dns x) (S.Dns s) (S.Dns t) p q = shared_domains_are_nested x.now s t p q
test_nested (G.Ip x) (S.Ip s) (S.Ip t) p q = shared_ranges_are_nested x.now s t p q
test_nested x s t p q = cc

pub inside_is_sound : InsideIsSound
inside_is_sound x s t p q = (subtree_test_is_exact x t).0 (test_inside x s t p ((subtree_test_is_exact x s).1 q))

pub shared_is_nested : SharedIsNested
shared_is_nested x s t p q = test_nested x s t ((subtree_test_is_exact x s).1 p) ((subtree_test_is_exact x t).1 q)

pub form_is_kept : FormIsKept
form_is_kept (G.Directory x) (S.Directory s) p = refl
form_is_kept (G.Dns x) (S.Dns s) p = refl
form_is_kept (G.Ip x) (S.Ip s) p = refl
form_is_kept x s p = absurd p

pub form_is_processed : FormIsProcessed
form_is_processed (G.Directory x) (S.Directory s) p = tt
form_is_processed (G.Dns x) (S.Dns s) p = tt
form_is_processed (G.Ip x) (S.Ip s) p = tt
form_is_processed x s p = absurd p

pub other_same : (m n : ℕ) → F.Other m ≡ F.Other n → m ≡ n
other_same m n h = cc

pub form_test_is_exact : FormTestIsExact
unfolding has_form
form_test_is_exact (S.Directory s) F.Directory = (λ _. refl, λ _. refl)
form_test_is_exact (S.Dns s) F.Dns = (λ _. refl, λ _. refl)
form_test_is_exact (S.Ip s) F.Ip = (λ _. refl, λ _. refl)
form_test_is_exact (S.Other m s) (F.Other n) = (λ h. ap (λ k. F.Other k) (eqb-true m n h), λ h. eq-eqb m n (other_same m n h))
form_test_is_exact s f = (λ h. cc, λ h. cc)
