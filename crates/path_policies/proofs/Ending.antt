-- What the processing answers, in the words of the standard.
use Rattle.std.proofs.Common.{◌≡◌, ℕ, ◌+◌, ◌-◌, ◌<◌, ◌≤◌, ◌==◌, Bool, true, false, not, ◌||◌, ◌&&◌, List, map, arith, ap, subst, ◌∙◌, sym, inl, inr, ◌⊎◌, ⊎_elim, if◌then◌else◌, Option, Some, None}
use Rattle.std.specs.Bool.{Decides}
use Rattle.std.specs.List.{Contains, list_any}
use Rattle.std.specs.Str.{bytes_eq}
use Rattle.std.proofs.lemmas.Bool.{false≢true, cases_Bool}
use Rattle.std.proofs.lemmas.Bool.Decides.{Decides-and, Decides-or, Decides-like, Decides-at, Decides-eqb, not_from_Decides}
use Rattle.std.proofs.lemmas.Slice.Eq.{bytes_eq-Decides}
use Rattle.asn.specs.Oid.{oid_contents}
use Rattle.asn.specs.declared.oid.Oid.{Oid}
use Rattle.path_policies.specs.declared.policy_set.PolicySet.{PolicySet}
use Rattle.path_policies.specs.declared.reason.PolicyReason.{PolicyReason}
use Rattle.path_policies.specs.declared.reason.PolicyReason.TheVariants as R
use Rattle.path_policies.specs.declared.reason.PolicyOutcome.TheVariants.{Bad}
use Rattle.path_policies.specs.Query.{PolicyQuery, any_policy, certificate_numbered, count}
use Rattle.path_policies.specs.Counters.{IsPolicyRequiredAtEnd, RunsOut}
use Rattle.path_policies.specs.Policies.{IsValidPolicy, IsValidPolicyAt, IsFollowing}
use Rattle.path_policies.specs.Acceptance.{HasRequiredPolicy, MapsNoAny, IsAuthorityPolicy, TakesAny, IsUserPolicy}
use Rattle.path_policies.specs.Lists.{is_among, is_picked}
use Rattle.path_policies.specs.Sets.{has}
use Rattle.path_policies.specs.Steps.{inhibitions_behind, expected_behind, valid_behind, named_above, required_at_end}
use Rattle.path_policies.specs.Walk.{PassesBehind, PassUpTo, HasPolicy, LacksPolicy, FailsBehind, FailsFirst}
use Rattle.path_policies.specs.Outcome.{IsAcceptable, ArePolicies, IsFirstUnacceptable, IsPolicyOutcome}
use Rattle.path_policies.proofs.Picks.{picked, mapped_any}
use Rattle.path_policies.proofs.Flags.{listed_decides, maps_any_decides, maps_no_any, required_decides, required_behind_decides, last_decides}
use Rattle.path_policies.proofs.Validity.{Knows, MapNoAny, known, following_decides}
use Rattle.path_policies.proofs.Naming.{named_decides}

-- certificates that pass are acceptable

less_one : (k : ℕ) → k + 1 - 1 ≡ k
less_one k = omega arith

maps_none : (q : PolicyQuery) (k : ℕ) → PassesBehind q k → MapsNoAny q (k + 1)
maps_none q k passes = maps_no_any q (k + 1) (λ less. passes.maps_none (differs less)) where
  differs : k + 1 < count q → (k + 1 == count q) ≡ false
  differs less = elim (cases_Bool (k + 1 == count q)) [ inl is ↦ (let e = (Decides-eqb (k + 1) (count q)).0 is in absurd (omega arith)) | inr is ↦ is ]

pub map_none : (q : PolicyQuery) (i : ℕ) → PassUpTo q i → MapNoAny q i
map_none q i pass k less = maps_none q k (pass k less)

knows : (q : PolicyQuery) (i k : ℕ) → i ≤ count q → PassUpTo q i → k ≤ i → Knows q k
knows q i k le pass at = known q k (omega arith) (λ j less. map_none q i pass j (omega arith))

following_at : (q : PolicyQuery) (k : ℕ) (policy : List ℕ) → IsFollowing q k (IsValidPolicy q k) policy → IsValidPolicyAt q (k + 1) policy
following_at q k policy f = subst (λ (n : ℕ). IsFollowing q n (IsValidPolicy q n) policy) (sym (less_one k)) f

at_following : (q : PolicyQuery) (k : ℕ) (policy : List ℕ) → IsValidPolicyAt q (k + 1) policy → IsFollowing q k (IsValidPolicy q k) policy
at_following q k policy f = subst (λ (n : ℕ). IsFollowing q n (IsValidPolicy q n) policy) (less_one k) f

has_required : (q : PolicyQuery) (k : ℕ) → k < count q → Knows q k → HasPolicy (inhibitions_behind q k).policy_required (valid_behind q k) → HasRequiredPolicy q (k + 1)
has_required q k below known_here has_policy required =
    let p = has_policy ((required_decides q k below).1 required) in
    (p.0, following_at q k p.0 ((following_decides q k below known_here p.0).0 p.1))

lacks_required : (q : PolicyQuery) (k : ℕ) → k < count q → Knows q k → LacksPolicy (inhibitions_behind q k).policy_required (valid_behind q k) → ¬ HasRequiredPolicy q (k + 1)
lacks_required q k below known_here lacks has_one =
    let p = has_one ((required_decides q k below).0 lacks.0) in
    false≢true (sym (lacks.1 p.0) ∙ (following_decides q k below known_here p.0).1 (at_following q k p.0 p.1))

acceptable_behind : (q : PolicyQuery) (i k : ℕ) → i ≤ count q → PassUpTo q i → k < i → IsAcceptable q (k + 1)
acceptable_behind q i k le pass below = record {
  required = has_required q k (omega arith) (knows q i k le pass (omega arith)) (pass k below).has_policy;
  mapped = maps_none q k (pass k below);
}

pub acceptable : (q : PolicyQuery) (i : ℕ) → i ≤ count q → PassUpTo q i → (j : ℕ) → 1 ≤ j → j ≤ i → IsAcceptable q j
acceptable q i le pass j from to =
    let same : j - 1 + 1 ≡ j = omega arith in
    subst (IsAcceptable q) same (acceptable_behind q i (j - 1) le pass (omega arith))

-- the first that does not pass

pub fails_first : (q : PolicyQuery) (number : ℕ) (reason : PolicyReason) → FailsFirst q number reason → IsPolicyOutcome q (Bad number reason)
fails_first q number reason fails = subst (λ (n : ℕ). IsPolicyOutcome q (Bad n reason)) (sym fails.number_is) (by reason fails.fails) where
  first : IsFirstUnacceptable q (fails.i + 1)
  first = record {
    from = omega arith;
    to = (let below = fails.below in omega arith);
    before = λ j from before. acceptable q fails.i (let below = fails.below in omega arith) fails.pass j from (omega arith);
  }

  here : Knows q fails.i
  here = knows q fails.i fails.i (let below = fails.below in omega arith) fails.pass (omega arith)

  by : (reason : PolicyReason) → FailsBehind q fails.i reason → IsPolicyOutcome q (Bad (fails.i + 1) reason)
  by R.NoValidPolicy lacks = (first, lacks_required q fails.i fails.below here lacks)
  by R.AnyPolicyMapped maps = (
    first,
    (
      has_required q fails.i fails.below here maps.0,
      maps_any_decides q (fails.i + 1) ((last_decides q fails.i fails.below).0 (ap not maps.1)) maps.2,
    ),
  )
  by R.NoUserPolicy none = absurd none

-- the sets

pub are_policies : (list : List Oid) (set : PolicySet) (IsOne : List ℕ → Type 0) → ((policy : List ℕ) → is_among list policy ≡ has set policy)
    → ((policy : List ℕ) → Decides (has set policy) (IsOne policy)) → ArePolicies list IsOne
are_policies list set IsOne members decides policy = (
  (λ among. (decides policy).0 (sym (members policy) ∙ sym (mapped_any oid_contents policy list) ∙ (listed_decides (map oid_contents list) policy).1 among)),
  (λ one. (listed_decides (map oid_contents list) policy).0 (mapped_any oid_contents policy list ∙ members policy ∙ (decides policy).1 one)),
)

pub authority_decides : (q : PolicyQuery) (n : ℕ) (policies valid : PolicySet) → count q ≡ n → PassUpTo q (count q)
    → ((policy : List ℕ) → has policies policy ≡ ((bytes_eq any_policy policy && has valid any_policy) || named_above q n policy))
    → ((policy : List ℕ) → has valid policy ≡ expected_behind q (count q) policy)
    → (policy : List ℕ) → Decides (has policies policy) (IsAuthorityPolicy q policy)
authority_decides q n policies valid n_is pass has_is valid_is policy =
    Decides-at (has policies policy) ((bytes_eq any_policy policy && has valid any_policy) || named_above q (count q) policy)
    (has_is policy ∙ ap (λ (m : ℕ). (bytes_eq any_policy policy && has valid any_policy) || named_above q m policy) (sym n_is))
    (Decides-like ((bytes_eq any_policy policy && has valid any_policy) || named_above q (count q) policy)
    (λ either. ⊎_elim (λ any. inr (sym any.0, any.1)) (λ named. inl named) either)
    (λ either. ⊎_elim (λ named. inr named) (λ any. inl (sym any.0, any.1)) either)
    (Decides-or (bytes_eq any_policy policy && has valid any_policy) (named_above q (count q) policy)
    (Decides-and (bytes_eq any_policy policy) (has valid any_policy) (bytes_eq-Decides any_policy policy)
    (Decides-at (has valid any_policy) (expected_behind q (count q) any_policy) (valid_is any_policy) (knows q (count q) (count q) (omega arith) pass (omega arith)).any))
    (named_decides q (map_none q (count q) pass) policy)))

among_decides : (asked : List Oid) (policy : List ℕ) → Decides (is_among asked policy) (Contains (map oid_contents asked) policy)
among_decides asked policy = Decides-at (is_among asked policy) (list_any (λ stated. bytes_eq stated policy) (map oid_contents asked)) (sym (mapped_any oid_contents policy asked)) (listed_decides (map oid_contents asked) policy)

pub user_decides : (q : PolicyQuery) (asked : List Oid) (user authority : PolicySet) → q.initial_policies ≡ map oid_contents asked
    → ((policy : List ℕ) → Decides (has authority policy) (IsAuthorityPolicy q policy))
    → ((policy : List ℕ) → has user policy ≡ (if is_among asked any_policy then has authority policy else is_picked asked (λ one. has authority one || has authority any_policy) policy))
    → (policy : List ℕ) → Decides (has user policy) (IsUserPolicy q policy)
user_decides q asked user authority asked_is decides user_is policy = elim (cases_Bool (is_among asked any_policy)) [
  | inl is ↦
      let takes : TakesAny q = subst (λ list. Contains list any_policy) (sym asked_is) ((among_decides asked any_policy).0 is) in
      Decides-at (has user policy) (has authority policy) (user_is policy ∙ ap (λ b. if b then has authority policy else picks) is)
      (Decides-like (has authority policy) (λ one. inl (takes, one)) (λ either. ⊎_elim (λ x. x.1) (λ x. absurd (x.0.0 takes)) either) (decides policy))
  | inr is ↦
      let takes_none : ¬ TakesAny q = (λ takes. not_from_Decides (is_among asked any_policy) (among_decides asked any_policy) is (subst (λ list. Contains list any_policy) asked_is takes)) in
      Decides-at (has user policy) (is_among asked policy && (has authority policy || has authority any_policy))
      (user_is policy ∙ ap (λ b. if b then has authority policy else picks) is ∙ picked oid_contents (λ one. has authority one || has authority any_policy) policy asked)
      (Decides-like (is_among asked policy && (has authority policy || has authority any_policy))
      (λ both. inr ((takes_none, subst (λ list. Contains list policy) (sym asked_is) both.0), both.1))
      (λ either. ⊎_elim (λ x. absurd (takes_none x.0)) (λ x. (subst (λ list. Contains list policy) asked_is x.0.1, x.1)) either)
      (Decides-and (is_among asked policy) (has authority policy || has authority any_policy) (among_decides asked policy)
      (Decides-or (has authority policy) (has authority any_policy) (decides policy) (decides any_policy))))
] where
  picks : Bool
  picks = is_picked asked (λ one. has authority one || has authority any_policy) policy

-- at the end

pub required_end_decides : (q : PolicyQuery) → Decides (required_at_end q) (IsPolicyRequiredAtEnd q)
required_end_decides q = elim (cases_Bool (count q == 0)) [
  | inl is ↦ subst (λ b. Decides (if b then q.require_explicit_policy else (inhibitions_behind q (count q - 1)).required_behind) (IsPolicyRequiredAtEnd q)) (sym is) (at_none ((Decides-eqb (count q) 0).0 is))
  | inr is ↦ subst (λ b. Decides (if b then q.require_explicit_policy else (inhibitions_behind q (count q - 1)).required_behind) (IsPolicyRequiredAtEnd q)) (sym is)
      (at_some (not_from_Decides (count q == 0) (Decides-eqb (count q) 0) is))
] where
  at_none : count q ≡ 0 → Decides q.require_explicit_policy (IsPolicyRequiredAtEnd q)
  at_none none = ((λ is. inl is), (λ either. ⊎_elim (λ is. is) (λ others. ⊎_elim (λ runs. absurd (impossible runs)) (λ says. absurd (silent says)) others) either)) where
    impossible : RunsOut (λ e. e.require_explicit_policy) q (count q) 1 → ⊥
    impossible runs = let from = runs.from in let before = runs.before in absurd (omega arith)

    silent : (certificate_numbered q (count q)).extensions.require_explicit_policy ≡ Some 0 → ⊥
    silent says = nothing (ap (λ (n : ℕ). (certificate_numbered q n).extensions.require_explicit_policy) (sym none) ∙ says) where
      nothing : ◌≡◌ {A = Option ℕ} None (Some 0) → ⊥
      nothing e = cc

  at_some : ¬ (count q ≡ 0) → Decides (inhibitions_behind q (count q - 1)).required_behind (IsPolicyRequiredAtEnd q)
  at_some some =
      let below : count q - 1 < count q = positive some in
      let last : count q - 1 + 1 ≡ count q = again some in
      subst (λ (n : ℕ). Decides (inhibitions_behind q (count q - 1)).required_behind
      ((q.require_explicit_policy ≡ true) ⊎ (RunsOut (λ e. e.require_explicit_policy) q n 1 ⊎ ((certificate_numbered q n).extensions.require_explicit_policy ≡ Some 0))))
      last (required_behind_decides q (count q - 1) below)
    where
      positive : ¬ (count q ≡ 0) → count q - 1 < count q
      positive some = grind (arith, some)

      again : ¬ (count q ≡ 0) → count q - 1 + 1 ≡ count q
      again some = grind (arith, some)
