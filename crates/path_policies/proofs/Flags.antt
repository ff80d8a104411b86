-- What the tests of a certificate and of the counters decide.
use Rattle.std.proofs.Common.{◌≡◌, ◌≢◌, ℕ, ◌+◌, ◌<◌, ◌==◌, Bool, true, false, not, ◌||◌, ◌&&◌, List, arith, refl, ap, subst, ◌∙◌, sym, inl, inr, ◌⊎◌, ⊎_elim, Option, None, Some}
use Rattle.std.specs.Prelude.{MatchOption}
use Rattle.std.specs.Bool.{Decides}
use Rattle.std.specs.List.{Contains, list_any}
use Rattle.std.specs.Str.{bytes_eq}
use Rattle.std.proofs.lemmas.Bool.{false≢true}
use Rattle.std.proofs.lemmas.Bool.Decides.{Decides-and, Decides-or, Decides-not, Decides-eqb}
use Rattle.std.proofs.lemmas.List.Folds.{Any-from_list_any, list_any-from_Any}
use Rattle.std.proofs.lemmas.Slice.Eq.{bytes_eq-Decides}
use Rattle.cert_policies.specs.PolicyExtensions.{PolicyMapping}
use Rattle.path_policies.specs.Query.{PolicyQuery, any_policy, certificate_numbered, count}
use Rattle.path_policies.specs.Counters.{RunsOut, IsMappingInhibited, IsAnyInhibited, IsPolicyRequired}
use Rattle.path_policies.specs.Policies.{States, Names, AllowsAny, IsMapped}
use Rattle.path_policies.specs.Acceptance.{MapsNoAny}
use Rattle.path_policies.specs.Steps.{is_stated, states, names, maps, maps_any, is_within, left_behind, inhibitions_behind}
use Rattle.path_policies.proofs.Reaching.{left_decides, within_number, number_within}

-- an element passes a test
pub any_is : {X : Type 0} (test : X → Bool) (xs : List X) → list_any test xs ≡ true → (x : X) × Contains xs x × (test x ≡ true)
any_is test xs is = let a = Any-from_list_any test xs is in (a.1, (a.0, a.2, a.3), a.4)

pub is_any : {X : Type 0} (test : X → Bool) (xs : List X) (x : X) → Contains xs x → test x ≡ true → list_any test xs ≡ true
is_any test xs x among is = list_any-from_Any test xs (among.0, x, among.1, among.2, is)

pub listed_decides : (policies : List (List ℕ)) (policy : List ℕ) → Decides (list_any (λ stated. bytes_eq stated policy) policies) (Contains policies policy)
listed_decides policies policy = (
  (λ is. let a = any_is (λ stated. bytes_eq stated policy) policies is in subst (Contains policies) ((bytes_eq-Decides a.0 policy).0 a.2) a.1),
  (λ among. is_any (λ stated. bytes_eq stated policy) policies policy among ((bytes_eq-Decides policy policy).1 refl)),
)

stated_decides : (policies : Option (List (List ℕ))) (policy : List ℕ) → Decides (is_stated policies policy) (MatchOption policies ⊥ (λ list. Contains list policy))
stated_decides None policy = ((λ is. absurd (false≢true is)), (λ none. absurd none))
stated_decides (Some policies) policy = listed_decides policies policy

pub states_decides : (q : PolicyQuery) (i : ℕ) (policy : List ℕ) → Decides (states (certificate_numbered q i) policy) (States q i policy)
states_decides q i policy = stated_decides (certificate_numbered q i).extensions.policies policy

pub names_decides : (q : PolicyQuery) (i : ℕ) (policy : List ℕ) → Decides (names (certificate_numbered q i) policy) (Names q i policy)
names_decides q i policy =
    Decides-and (states (certificate_numbered q i) policy) (not (bytes_eq policy any_policy)) (states_decides q i policy)
    (Decides-not (bytes_eq policy any_policy) (bytes_eq-Decides policy any_policy))

-- mappings

abbrev pub mapping_of : (issuer subject : List ℕ) → PolicyMapping
mapping_of issuer subject = record { issuer_domain_policy = issuer; subject_domain_policy = subject }

pub maps_is_mapped : (q : PolicyQuery) (i : ℕ) (policy : List ℕ) → i < count q → Decides (maps (certificate_numbered q i) policy) (IsMapped q i policy)
maps_is_mapped q i policy below = (
  (λ is. let a = any_is (λ m. bytes_eq m.issuer_domain_policy policy) (certificate_numbered q i).extensions.mappings is in (
    a.0.subject_domain_policy,
    (
      below,
      subst (λ issuer. Contains (certificate_numbered q i).extensions.mappings (mapping_of issuer a.0.subject_domain_policy)) ((bytes_eq-Decides a.0.issuer_domain_policy policy).0 a.2) a.1,
    ),
  )),
  (λ mapped. is_any (λ m. bytes_eq m.issuer_domain_policy policy) (certificate_numbered q i).extensions.mappings (mapping_of policy mapped.0) mapped.1.1 ((bytes_eq-Decides policy policy).1 refl)),
)

pub maps_any_decides : (q : PolicyQuery) (i : ℕ) → i < count q → maps_any (certificate_numbered q i) ≡ true → ¬ MapsNoAny q i
maps_any_decides q i below is none =
    let a = any_is (λ m. bytes_eq m.issuer_domain_policy any_policy || bytes_eq m.subject_domain_policy any_policy) (certificate_numbered q i).extensions.mappings is in
    let n = none a.0.issuer_domain_policy a.0.subject_domain_policy (below, a.1) in
    let either = Decides-or (bytes_eq a.0.issuer_domain_policy any_policy) (bytes_eq a.0.subject_domain_policy any_policy)
    (bytes_eq-Decides a.0.issuer_domain_policy any_policy) (bytes_eq-Decides a.0.subject_domain_policy any_policy) in
    ⊎_elim n.0 n.1 (either.0 a.2)

pub maps_no_any : (q : PolicyQuery) (i : ℕ) → (i < count q → maps_any (certificate_numbered q i) ≡ false) → MapsNoAny q i
maps_no_any q i none issuer subject m =
    let test = (λ (m : PolicyMapping). bytes_eq m.issuer_domain_policy any_policy || bytes_eq m.subject_domain_policy any_policy) in
    let either = Decides-or (bytes_eq issuer any_policy) (bytes_eq subject any_policy) (bytes_eq-Decides issuer any_policy) (bytes_eq-Decides subject any_policy) in (
      (λ is. false≢true (sym (none m.0) ∙ is_any test (certificate_numbered q i).extensions.mappings (mapping_of issuer subject) m.1 (either.1 (inl is)))),
      (λ is. false≢true (sym (none m.0) ∙ is_any test (certificate_numbered q i).extensions.mappings (mapping_of issuer subject) m.1 (either.1 (inr is)))),
    )

-- counters

flag_decides : (b : Bool) → Decides b (b ≡ true)
flag_decides b = ((λ is. is), (λ is. is))

pub inhibited_decides : (q : PolicyQuery) (k : ℕ) → k < count q → Decides (inhibitions_behind q k).mapping_inhibited (IsMappingInhibited q (k + 1))
inhibited_decides q k below =
    Decides-or q.inhibit_policy_mapping (is_within (left_behind (λ e. e.inhibit_policy_mapping) q k) 0) (flag_decides q.inhibit_policy_mapping) (left_decides (λ e. e.inhibit_policy_mapping) q k 0 (omega arith))

pub required_decides : (q : PolicyQuery) (k : ℕ) → k < count q → Decides (inhibitions_behind q k).policy_required (IsPolicyRequired q (k + 1))
required_decides q k below =
    Decides-or q.require_explicit_policy (is_within (left_behind (λ e. e.require_explicit_policy) q k) 0) (flag_decides q.require_explicit_policy) (left_decides (λ e. e.require_explicit_policy) q k 0 (omega arith))

any_inhibited_decides : (q : PolicyQuery) (k : ℕ) → k < count q → Decides (q.inhibit_any_policy || is_within (left_behind (λ e. e.inhibit_any_policy) q k) 0) (IsAnyInhibited q (k + 1))
any_inhibited_decides q k below =
    Decides-or q.inhibit_any_policy (is_within (left_behind (λ e. e.inhibit_any_policy) q k) 0) (flag_decides q.inhibit_any_policy) (left_decides (λ e. e.inhibit_any_policy) q k 0 (omega arith))

-- a certificate is not the last
pub last_decides : (q : PolicyQuery) (k : ℕ) → k < count q → Decides (not (k + 1 == count q)) (k + 1 < count q)
last_decides q k below =
    let is = Decides-not (k + 1 == count q) (Decides-eqb (k + 1) (count q)) in
    ((λ other. let differ = is.0 other in less differ), (λ less. is.1 (λ same. absurd (omega arith))))
  where
    less : (k + 1) ≢ count q → k + 1 < count q
    less differ = grind (arith, differ)

pub allows_decides : (q : PolicyQuery) (k : ℕ) → k < count q → Decides (inhibitions_behind q k).allows_any (AllowsAny q (k + 1))
allows_decides q k below =
    Decides-and (states (certificate_numbered q (k + 1)) any_policy)
    (not (q.inhibit_any_policy || is_within (left_behind (λ e. e.inhibit_any_policy) q k) 0) || (not (k + 1 == count q) && (certificate_numbered q (k + 1)).self_issued))
    (states_decides q (k + 1) any_policy)
    (Decides-or (not (q.inhibit_any_policy || is_within (left_behind (λ e. e.inhibit_any_policy) q k) 0)) (not (k + 1 == count q) && (certificate_numbered q (k + 1)).self_issued)
    (Decides-not (q.inhibit_any_policy || is_within (left_behind (λ e. e.inhibit_any_policy) q k) 0) (any_inhibited_decides q k below))
    (Decides-and (not (k + 1 == count q)) (certificate_numbered q (k + 1)).self_issued (last_decides q k below) (flag_decides (certificate_numbered q (k + 1)).self_issued)))

-- at the end

number_is_zero : (number : Option ℕ) → Decides (is_within number 0) (number ≡ Some 0)
number_is_zero number = (
  (λ is. let n = within_number number 0 is in n.1 ∙ ap Some (let le = n.2 in omega arith)),
  (λ is. number_within number 0 0 is (omega arith)),
)

pub required_behind_decides : (q : PolicyQuery) (k : ℕ) → k < count q → Decides (inhibitions_behind q k).required_behind
    ((q.require_explicit_policy ≡ true) ⊎ (RunsOut (λ e. e.require_explicit_policy) q (k + 1) 1 ⊎ ((certificate_numbered q (k + 1)).extensions.require_explicit_policy ≡ Some 0)))
required_behind_decides q k below =
    Decides-or q.require_explicit_policy (is_within (left_behind (λ e. e.require_explicit_policy) q k) 1 || is_within (certificate_numbered q (k + 1)).extensions.require_explicit_policy 0)
    (flag_decides q.require_explicit_policy)
    (Decides-or (is_within (left_behind (λ e. e.require_explicit_policy) q k) 1) (is_within (certificate_numbered q (k + 1)).extensions.require_explicit_policy 0)
    (left_decides (λ e. e.require_explicit_policy) q k 1 (omega arith)) (number_is_zero (certificate_numbered q (k + 1)).extensions.require_explicit_policy))
