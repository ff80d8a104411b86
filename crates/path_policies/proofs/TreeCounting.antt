-- The counters are 0 exactly if some certificate says so.
use Rattle.std.proofs.Common.{◌≡◌, ◌↔◌, ◌⊎◌, ◌<◌, ◌≤◌, ◌+◌, ◌-◌, ℕ, zero, suc, List, [], ◌∷◌, ◌++◌, Bool, true, false, not, cond, count_by, length, get_or, take, drop, Option, Some, None, arith, refl, ap, sym, ◌∙◌, subst, inl, inr}
use Rattle.std.specs.Prelude.{nat_lt}
use Rattle.std.proofs.lemmas.Bool.{cases_Bool, cases_lt, ltb-true, ltb-false}
use Rattle.std.proofs.lemmas.List.{take_more, length-take-le}
use Rattle.std.proofs.lemmas.List.Sums.{sum_by-append}
use Rattle.cert_policies.specs.PolicyExtensions.{PolicyExtensions}
use Rattle.path_policies.specs.Query.{PolicyQuery, PolicyCertificate, says_nothing, count, certificate_numbered}
use Rattle.path_policies.specs.Counters.{others_between, RunsOut}
use Rattle.path_policies.specs.Tree.{counted_down, lowered, counter_after, explicit_policy, set_at_end}
use Rattle.path_policies.specs.TreeLaws.{ExplicitPolicyIsExact, PolicyMappingIsExact, InhibitAnyPolicyIsExact, ExplicitPolicyIsExactAtEnd}

abbrev is_other : PolicyCertificate → Bool
is_other c = not c.self_issued

-- how many are not self-issued, one certificate further

drop_append : {X : Type 0} (i : ℕ) (xs ys : List X) → i ≤ length xs → drop i (xs ++ ys) ≡ drop i xs ++ ys
drop_append zero xs ys h = refl
drop_append (suc i) [] ys h = absurd (omega arith)
drop_append (suc i) (x ∷ xs) ys h = drop_append i xs ys (omega arith)

drop_all : {X : Type 0} (xs : List X) (i : ℕ) → length xs ≤ i → drop i xs ≡ []
drop_all [] zero h = refl
drop_all [] (suc i) h = refl
drop_all (x ∷ xs) zero h = absurd (omega arith)
drop_all (x ∷ xs) (suc i) h = drop_all xs i (omega arith)

certificate_next : (q : PolicyQuery) (k : ℕ) → certificate_numbered q (suc k) ≡ get_or q.certificates k says_nothing
certificate_next q k = refl

one_other : (b : Bool) → 0 + cond (not b) 1 0 ≡ cond b 0 1
one_other true = refl
one_other false = refl

between_more : (q : PolicyQuery) (i k : ℕ) → i ≤ k → k < count q
    → others_between q i (suc (suc k)) ≡ others_between q i (suc k) + cond (certificate_numbered q (suc k)).self_issued 0 1
between_more q i k h there =
    let c = certificate_numbered q (suc k) in
    let front = take k q.certificates in
    let size : length front ≡ k = length-take-le k q.certificates (omega arith) in
    let one : suc (suc k) - 1 ≡ k + 1 = omega arith in
    let other : suc k - 1 ≡ k = omega arith in
    let split = ap (λ (l : List PolicyCertificate). drop i l) (take_more q.certificates k says_nothing there) ∙ drop_append i front (c ∷ []) (omega arith) in
    let counted = sum_by-append (λ x. cond (is_other x) 1 0) (drop i front) (c ∷ []) in
    ap (λ n. count_by is_other (drop i (take n q.certificates))) one
    ∙ (ap (λ l. count_by is_other l) split
    ∙ (counted
    ∙ (ap (λ n. count_by is_other (drop i front) + n) (one_other c.self_issued)
    ∙ ap (λ n. count_by is_other (drop i (take n q.certificates)) + cond c.self_issued 0 1) (sym other))))

between_none : (q : PolicyQuery) (k : ℕ) → k < count q → others_between q (suc k) (suc (suc k)) ≡ 0
between_none q k there =
    let one : suc (suc k) - 1 ≡ suc k = omega arith in
    let size : length (take (suc k) q.certificates) ≡ suc k = length-take-le (suc k) q.certificates (omega arith) in
    ap (λ n. count_by is_other (drop (suc k) (take n q.certificates))) one
    ∙ ap (λ l. count_by is_other l) (drop_all (take (suc k) q.certificates) (suc k) (omega arith))

-- counters

module _ (says : PolicyExtensions → Option ℕ) (indicator : Bool) (q : PolicyQuery) where
  -- the counter is at most this at certificate j
  abbrev Reaches : ℕ → ℕ → Type 0
  Reaches j others = (indicator ≡ true) ⊎ RunsOut says q j others

  initially : (b : Bool) (n others : ℕ) → others ≤ n → cond b 0 (n + 1) ≤ others → b ≡ true
  initially true n others h le = refl
  initially false n others h le = absurd (omega arith)

  initially_set : (b : Bool) (n others : ℕ) → b ≡ true → cond b 0 (n + 1) ≤ others
  initially_set true n others e = omega arith
  initially_set false n others e = cc

  -- after a certificate it is so if the certificate says so few, or if it was so before, one more if that is counted
  lowered_to : (number : Option ℕ) (counter others : ℕ) → lowered number counter ≤ others
      → ((n : ℕ) × (number ≡ Some n) × (n ≤ others)) ⊎ (counter ≤ others)
  lowered_to None counter others h = inr h
  lowered_to (Some n) counter others h = elim (cases_Bool (nat_lt n counter)) [
    | inl less ↦ inl (n, refl, subst (λ b. cond b n counter ≤ others) less h)
    | inr not_less ↦ inr (subst (λ b. cond b n counter ≤ others) not_less h)
  ]

  lowered_by : (number : Option ℕ) (counter others n : ℕ) → number ≡ Some n → n ≤ others → lowered number counter ≤ others
  lowered_by None counter others n e h = cc
  lowered_by (Some m) counter others n e h =
      let same : m ≡ n = cc in
      elim (cases_Bool (nat_lt m counter)) [
        | inl less ↦ subst (λ b. cond b m counter ≤ others) (sym less) (omega arith)
        | inr not_less ↦ subst (λ b. cond b m counter ≤ others) (sym not_less) (let no = ltb-false m counter not_less in omega arith)
      ]

  lowered_kept : (number : Option ℕ) (counter others : ℕ) → counter ≤ others → lowered number counter ≤ others
  lowered_kept None counter others h = h
  lowered_kept (Some m) counter others h = elim (cases_Bool (nat_lt m counter)) [
    | inl less ↦ subst (λ b. cond b m counter ≤ others) (sym less) (let is = ltb-true m counter less in omega arith)
    | inr not_less ↦ subst (λ b. cond b m counter ≤ others) (sym not_less) h
  ]

  down_from : (self_issued : Bool) (counter others : ℕ) → counted_down self_issued counter ≤ others → counter ≤ others + cond self_issued 0 1
  down_from true counter others h = omega arith
  down_from false counter others h = omega arith

  down_to : (self_issued : Bool) (counter others : ℕ) → counter ≤ others + cond self_issued 0 1 → counted_down self_issued counter ≤ others
  down_to true counter others h = omega arith
  down_to false counter others h = omega arith

  room : (self_issued : Bool) (others k n : ℕ) → others + suc k ≤ n → (others + cond self_issued 0 1) + k ≤ n
  room true others k n h = omega arith
  room false others k n h = omega arith

  reaches : (k others : ℕ) → others + k ≤ count q → counter_after says indicator q k ≤ others → Reaches (suc k) others
  reaches zero others h le = inl (initially indicator (count q) others (omega arith) le)
  reaches (suc k) others h le =
      let c = certificate_numbered q (suc k) in
      elim (lowered_to (says c.extensions) (counted_down c.self_issued (counter_after says indicator q k)) others le) [
        | inl said ↦
            let none = between_none q k (omega arith) in
            inr (record { i = suc k; number = said.0; from = omega arith; before = omega arith; says_is = said.1; reached = let few = said.2 in omega arith })
        | inr before ↦
            elim (reaches k (others + cond c.self_issued 0 1) (room c.self_issued others k (count q) h)
            (down_from c.self_issued (counter_after says indicator q k) others before)) [
              | inl set ↦ inl set
              | inr r ↦
                  let more = between_more q r.i k (let b = r.before in omega arith) (omega arith) in
                  inr (record {
                    i = r.i;
                    number = r.number;
                    from = r.from;
                    before = let b = r.before in omega arith;
                    says_is = r.says_is;
                    reached = let d = r.reached in omega arith;
                  })
            ]
      ]

  reached_by : (k others : ℕ) → others + k ≤ count q → Reaches (suc k) others → counter_after says indicator q k ≤ others
  reached_by zero others h (inl set) = initially_set indicator (count q) others set
  reached_by zero others h (inr r) = absurd (let a = r.from in let b = r.before in omega arith)
  reached_by (suc k) others h (inl set) =
      let c = certificate_numbered q (suc k) in
      lowered_kept (says c.extensions) (counted_down c.self_issued (counter_after says indicator q k)) others
      (down_to c.self_issued (counter_after says indicator q k) others
      (reached_by k (others + cond c.self_issued 0 1) (room c.self_issued others k (count q) h) (inl set)))
  reached_by (suc k) others h (inr r) =
      let c = certificate_numbered q (suc k) in
      let counter = counter_after says indicator q k in
      elim (cases_lt r.i (suc k)) [
        | inl earlier ↦
            let more = between_more q r.i k (omega arith) (omega arith) in
            lowered_kept (says c.extensions) (counted_down c.self_issued counter) others
            (down_to c.self_issued counter others
            (reached_by k (others + cond c.self_issued 0 1) (room c.self_issued others k (count q) h)
            (inr (record {
              i = r.i;
              number = r.number;
              from = r.from;
              before = earlier;
              says_is = r.says_is;
              reached = let d = r.reached in omega arith;
            }))))
        | inr last ↦
            let b = r.before in
            let same : r.i ≡ suc k = omega arith in
            let none = between_none q k (omega arith) in
            let number = subst (λ i. r.number ≤ others_between q i (suc (suc k)) + others) same r.reached in
            lowered_by (says c.extensions) (counted_down c.self_issued counter) others r.number
            (subst (λ i. says (certificate_numbered q i).extensions ≡ Some r.number) same r.says_is) (omega arith)
      ]

  pub counter_exact : (j : ℕ) → 1 ≤ j → j ≤ count q → (counter_after says indicator q (j - 1) ≡ 0) ↔ Reaches j 0
  counter_exact zero from h = absurd (omega arith)
  counter_exact (suc k) from h =
      let same : suc k - 1 ≡ k = omega arith in (
        λ e. reaches k 0 (omega arith) (let here = subst (λ n. counter_after says indicator q n ≡ 0) same e in omega arith),
        λ r. let few = reached_by k 0 (omega arith) r in subst (λ n. counter_after says indicator q n ≡ 0) (sym same) (omega arith),
      )

  -- and once more
  pub counter_exact_once_more : (j : ℕ) → 1 ≤ j → j ≤ count q → (counter_after says indicator q (j - 1) - 1 ≡ 0) ↔ Reaches j 1
  counter_exact_once_more zero from h = absurd (omega arith)
  counter_exact_once_more (suc k) from h =
      let same : suc k - 1 ≡ k = omega arith in (
        λ e. reaches k 1 (omega arith) (let here = subst (λ n. counter_after says indicator q n - 1 ≡ 0) same e in omega arith),
        λ r. let few = reached_by k 1 (omega arith) r in subst (λ n. counter_after says indicator q n - 1 ≡ 0) (sym same) (omega arith),
      )

pub explicit_policy_is_exact : ExplicitPolicyIsExact
explicit_policy_is_exact q j from h = counter_exact (λ e. e.require_explicit_policy) q.require_explicit_policy q j from h

pub policy_mapping_is_exact : PolicyMappingIsExact
policy_mapping_is_exact q j from h = counter_exact (λ e. e.inhibit_policy_mapping) q.inhibit_policy_mapping q j from h

pub inhibit_any_policy_is_exact : InhibitAnyPolicyIsExact
inhibit_any_policy_is_exact q j from h = counter_exact (λ e. e.inhibit_any_policy) q.inhibit_any_policy q j from h

-- the last certificate

set_to_0 : (number : Option ℕ) (counter : ℕ) → set_at_end number counter ≡ 0 → (counter ≡ 0) ⊎ (number ≡ Some 0)
set_to_0 None counter e = inl e
set_to_0 (Some zero) counter e = inr refl
set_to_0 (Some (suc n)) counter e = inl e

set_by_0 : (number : Option ℕ) (counter : ℕ) → number ≡ Some 0 → set_at_end number counter ≡ 0
set_by_0 None counter e = cc
set_by_0 (Some zero) counter e = refl
set_by_0 (Some (suc n)) counter e = let no : suc n ≡ 0 = cc in absurd (omega arith)

set_kept : (number : Option ℕ) (counter : ℕ) → counter ≡ 0 → set_at_end number counter ≡ 0
set_kept None counter e = e
set_kept (Some zero) counter e = refl
set_kept (Some (suc n)) counter e = e

pub explicit_policy_is_exact_at_end : ExplicitPolicyIsExactAtEnd
explicit_policy_is_exact_at_end q some =
    let number = (certificate_numbered q (count q)).extensions.require_explicit_policy in
    let counter = explicit_policy q (count q) - 1 in
    let exact = counter_exact_once_more (λ e. e.require_explicit_policy) q.require_explicit_policy q (count q) some (omega arith) in (
      λ e. elim (set_to_0 number counter e) [
        | inl ran_out ↦ elim (exact.0 ran_out) [ inl set ↦ inl set | inr r ↦ inr (inl r) ]
        | inr said ↦ inr (inr said)
      ],
      λ h. elim h [
        | inl set ↦ set_kept number counter (exact.1 (inl set))
        | inr (inl r) ↦ set_kept number counter (exact.1 (inr r))
        | inr (inr said) ↦ set_by_0 number counter said
      ],
    )
