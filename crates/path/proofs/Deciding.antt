-- What the tests of the code say of the conditions.
use Rattle.std.proofs.Common.{◌≡◌, ℕ, zero, suc, ◌+◌, ◌-◌, ◌<◌, ◌≤◌, List, [], ◌∷◌, Bool, true, false, not, map, length, take, get_or, arith, refl, ap, subst, ◌∙◌, sym, inl, inr, length-take, ◌↔◌, Option, None, Some}
use Rattle.std.specs.List.{list_any, list_all}
use Rattle.std.specs.Str.{bytes_eq}
use Rattle.std.proofs.lemmas.Slice.Eq.{bytes_eq-Decides}
use Rattle.std.proofs.lemmas.List.{get_or-map, get_or-take, get_or_default, length-map}
use Rattle.std.proofs.lemmas.List.Folds.{Any-from_list_any, list_any-from_Any, list_any_at}
use Rattle.std.proofs.lemmas.List.Sums.{AllPass-from_list_all, list_all-from_AllPass}
use Rattle.std.proofs.lemmas.Bool.{false≢true, false_from_ne_true, cases_order}
use Rattle.std.proofs.lemmas.List.Elements.{Contains-get_or, All-contains}
use Rattle.names.specs.GeneralName.{IsProcessed}
use Rattle.names.specs.GeneralLayout.{NameContents, GeneralName, SubtreeBase, directory_name, dns_name, ip_address, other_name}
use Rattle.names.specs.GeneralCoverage.{form_of_general_name}
use Rattle.cert.specs.Certificate.{Certificate, is_self_issued, seen_certificate}
use Rattle.cert.specs.declared.certificate.Certificate as code
use Rattle.path_conditions.specs.declared.form_set.FormSet.{FormSet}
use Rattle.path.specs.declared.reason.Reason.{Reason}
use Rattle.path.specs.declared.reason.Reason.TheVariants.{Repeated, Signature, NotYet, Expired, Issuer, NotPermitted, Excluded, ConstraintForm, NotCa, PathLength, KeyCertSign, Policy, CriticalUnknown, Purpose, Empty, TooLong, NoValidPolicy, AnyPolicyMapped, NoUserPolicy}
use Rattle.path.specs.Query.{Query, Accepts, count, certificate_numbered}
use Rattle.path_conditions.specs.NamesOf.{names_of, BearsForm, PermitsNamesOf, ExcludesNoNameOf, ConstrainsNoFormOf}
use Rattle.cert.specs.CertificateHosts.{CertificateHosts}
use Rattle.path_host_constraints.specs.HostConditions.{HostsArePermitted, HostsAreNotExcluded, UrisHaveHosts}
use Rattle.path_host_constraints.specs.HostConstraints.{Permit, DoNotExclude, FindHosts}
use Rattle.path_host_constraints.proofs.Laws.{permit_exactly, exclude_exactly, find_hosts_exactly}
use Rattle.path.specs.Reason.{reason_rank}
use Rattle.path.specs.Conditions.{IsNotRepeated, NamesArePermitted, NamesAreNotExcluded, ConstraintsAreProcessed, constraints_at, hosts_at, IsWithinPathLength, MeetsCondition, MeetsConditions}
use Rattle.path_conditions.specs.Narrowing.{is_in_one_of}
use Rattle.path_conditions.specs.Constraints.{Constraints, PermitsIn, permits_in, permits_name, has_number, BearsOneOf, PermitsEach, ExcludesNone}
use Rattle.path.specs.State.{Progress, IsPermitted}
use Rattle.path.specs.Keeping.{Represents}
use Rattle.path_conditions.proofs.Laws.{Laws, laws_of_names, in_one, list_any-map}
use Rattle.path.proofs.Rooms.{at_more, room_left, room_allows}

-- truth values and facts

pub not_true : (b : Bool) {P : Type 0} → ((b ≡ true) ↔ P) → ((not b ≡ true) ↔ (P → ⊥))
not_true true f = (λ e. absurd (false≢true e), λ n. absurd (n (f.0 refl)))
not_true false f = (λ e p. false≢true (f.1 p), λ n. refl)

not_false : (b : Bool) → not b ≡ false → b ≡ true
not_false true e = refl
not_false false e = absurd (false≢true (sym e))

-- a condition that is asked for in some cases, where the test of these is true or false
pub asked : {P Q : Type 0} (b : Bool) → Q → ((b ≡ true) ↔ P) → ((b ≡ true) ↔ (Q → P))
asked b q f = (λ e _. f.0 e, λ g. f.1 (g q))

pub unasked : {P Q : Type 0} → (Q → ⊥) → ((true ≡ true) ↔ (Q → P))
unasked n = (λ _ q. absurd (n q), λ _. refl)

-- the same, where the condition is looked at first
pub met : {P Q : Type 0} (b : Bool) → ((b ≡ true) ↔ P) → b ≡ true → ((b ≡ true) ↔ (Q → P))
met b f e = (λ _ _. f.0 e, λ _. e)

pub unmet : {P Q : Type 0} (b asks : Bool) → ((b ≡ true) ↔ P) → b ≡ false → ((asks ≡ true) ↔ Q) → ((not asks ≡ true) ↔ (Q → P))
unmet b true f e h = (λ n _. absurd (false≢true n), λ g. absurd (false≢true (sym e ∙ f.1 (g (h.0 refl)))))
unmet b false f e h = (λ _ q. absurd (false≢true (h.1 q)), λ _. refl)

pub decided : {P Q : Type 0} {b : Bool} → (b ≡ true) ↔ P → (P → Q) → (Q → P) → ((b ≡ true) ↔ Q)
decided f to from = (λ e. to (f.0 e), λ q. f.1 (from q))

-- earlier certificates

pub same_texts : (xs ys : List ℕ) → (bytes_eq xs ys ≡ true) ↔ (xs ≡ ys)
same_texts xs ys = bytes_eq-Decides xs ys

module _ (q : Query) where
  earlier_is : (k m : ℕ) (c : Certificate) → k ≤ count q → m < k → get_or (take k q.certificates) m c ≡ certificate_numbered q (m + 1)
  earlier_is k m c le h =
      get_or-take k q.certificates m c h ∙ (get_or_default q.certificates m c q.anchor (omega arith) ∙ sym (at_more q m))

  earlier_to : (k : ℕ) (p : Certificate → Bool) → k ≤ count q → list_any p (take k q.certificates) ≡ true → (i : ℕ) × (1 ≤ i) × (i < k + 1) × (p (certificate_numbered q i) ≡ true)
  earlier_to k p le h =
      let a = Any-from_list_any p (take k q.certificates) h in
      let len = length-take k q.certificates in
      let low : a.0 < k = omega (arith, a.2) in
      (a.0 + 1, omega arith, omega arith, subst (λ c. p c ≡ true) (sym a.3 ∙ earlier_is k a.0 a.1 le low) a.4)

  earlier_from : (k : ℕ) (p : Certificate → Bool) → k ≤ count q → (i : ℕ) → 1 ≤ i → i < k + 1 → p (certificate_numbered q i) ≡ true → list_any p (take k q.certificates) ≡ true
  earlier_from k p le i l h t =
      let len = length-take k q.certificates in
      let low : i - 1 < length (take k q.certificates) = omega arith in
      let back : (i - 1) + 1 ≡ i = omega arith in
      list_any_at p (take k q.certificates) (i - 1) q.anchor low
      (subst (λ c. p c ≡ true) (sym (earlier_is k (i - 1) q.anchor le (omega arith) ∙ ap (λ j. certificate_numbered q j) back)) t)

  -- the octets of certificate k + 1 are not those of an earlier one
  pub repeated_says : (k : ℕ) (octets : List ℕ) → k < count q → octets ≡ (certificate_numbered q (k + 1)).octets
      → (list_any (λ e. bytes_eq e.octets octets) (take k q.certificates) ≡ true → ⊥) ↔ IsNotRepeated q (k + 1)
  repeated_says k octets below here =
      let test : Certificate → Bool = λ e. bytes_eq e.octets octets in (
        λ none i l h same. none (earlier_from k test (omega arith) i l h ((same_texts _ _).1 (same ∙ sym here))),
        λ ok t. let a = earlier_to k test (omega arith) t in ok a.0 a.1 a.2 ((same_texts _ _).0 a.3 ∙ here),
      )

-- names: those of the forms that certificates themselves carry, and mail addresses and hosts

abbrev pub PermitsNames : Query → ℕ → Type 0
PermitsNames q j = (i : ℕ) → 1 ≤ i → i < j → PermitsNamesOf (constraints_at q i) (certificate_numbered q j)

abbrev pub ExcludesNoName : Query → ℕ → Type 0
ExcludesNoName q j = (i : ℕ) → 1 ≤ i → i < j → ExcludesNoNameOf (constraints_at q i) (certificate_numbered q j)

abbrev pub ConstrainsNone : Query → ℕ → Type 0
ConstrainsNone q j = (i : ℕ) → 1 ≤ i → i < j → ConstrainsNoFormOf (constraints_at q i) (certificate_numbered q j)

pub permitted_both : (q : Query) (j : ℕ) → (PermitsNames q j × HostsArePermitted (hosts_at q) j) ↔ NamesArePermitted q j
permitted_both q j = (
  λ both i low high. record { names = both.0 i low high; hosts = both.1 i low high },
  λ all. (λ i low high. (all i low high).names, λ i low high. (all i low high).hosts),
)

pub not_excluded_both : (q : Query) (j : ℕ) → (ExcludesNoName q j × HostsAreNotExcluded (hosts_at q) j) ↔ NamesAreNotExcluded q j
not_excluded_both q j = (
  λ both i low high. record { names = both.0 i low high; hosts = both.1 i low high },
  λ all. (λ i low high. (all i low high).names, λ i low high. (all i low high).hosts),
)

pub processed_both : (q : Query) (j : ℕ) → (ConstrainsNone q j × UrisHaveHosts (hosts_at q) j) ↔ ConstraintsAreProcessed q j
processed_both q j = (
  λ both i low high. record { names = both.0 i low high; hosts = both.1 i low high },
  λ all. (λ i low high. (all i low high).names, λ i low high. (all i low high).hosts),
)

permits_in_says : Laws → (list : Option (List SubtreeBase)) (x : GeneralName) → (permits_in list x ≡ true) ↔ PermitsIn list x
permits_in_says laws None x = (λ _. tt, λ _. refl)
permits_in_says laws (Some list) x = in_one laws list x

through : {A B C : Type 0} → A ↔ B → B ↔ C → A ↔ C
through f g = (λ a. g.0 (f.0 a), λ c. f.1 (g.1 c))

-- two conditions, of which either is met where the other one is
both_met : {A B C D : Type 0} → A ↔ C → B ↔ D → (A × B) ↔ (C × D)
both_met f g = (λ p. (f.0 p.0, g.0 p.1), λ p. (f.1 p.0, g.1 p.1))

module _ (laws : Laws) (q : Query) (k : ℕ) (issuer : NameContents) (key : List ℕ) (room : Option ℕ) (held : Constraints) (forms : FormSet) (is : Represents q k issuer key room held forms) where
  permits_says : (x : GeneralName) → IsProcessed (form_of_general_name x) → (permits_name held x ≡ true) ↔ IsPermitted q k x
  permits_says (directory_name n) p = through (permits_in_says laws held.directory (directory_name n)) (is.directory_is (directory_name n) refl)
  permits_says (dns_name n) p = through (permits_in_says laws held.dns (dns_name n)) (is.dns_is (dns_name n) refl)
  permits_says (ip_address n) p = through (permits_in_says laws held.ip (ip_address n)) (is.ip_is (ip_address n) refl)
  permits_says (other_name m n) p = absurd p

  permits_unless : (x : GeneralName) → (IsProcessed (form_of_general_name x) → IsPermitted q k x) → permits_name held x ≡ true
  permits_unless (directory_name n) f = (permits_says (directory_name n) tt).1 (f tt)
  permits_unless (dns_name n) f = (permits_says (dns_name n) tt).1 (f tt)
  permits_unless (ip_address n) f = (permits_says (ip_address n) tt).1 (f tt)
  permits_unless (other_name m n) f = refl

  pub names_permitted : (c : Certificate) → c ≡ certificate_numbered q (k + 1)
      → (list_all (λ x. permits_name held x) (names_of c) ≡ true) ↔ PermitsNames q (k + 1)
  names_permitted c here =
      let names = names_of (certificate_numbered q (k + 1)) in
      let all : (list_all (λ x. permits_name held x) names ≡ true) ↔ PermitsNames q (k + 1) = (
        λ t i low high x among p speaks.
            let pass = AllPass-from_list_all (λ y. permits_name held y) names t in
            (permits_says x p).0 (All-contains (λ y. permits_name held y ≡ true) names x pass among) i low (omega arith) speaks,
        λ ok. list_all-from_AllPass (λ x. permits_name held x) names
            (λ m d l. permits_unless _ (λ p i low high speaks. ok i low (omega arith) _ (Contains-get_or names m d l) p speaks)),
      ) in
      subst (λ e. (list_all (λ x. permits_name held x) (names_of e) ≡ true) ↔ PermitsNames q (k + 1)) (sym here) all

  pub names_not_excluded : (c : Certificate) → c ≡ certificate_numbered q (k + 1)
      → (list_any (λ x. is_in_one_of held.excluded x) (names_of c) ≡ true → ⊥) ↔ ExcludesNoName q (k + 1)
  names_not_excluded c here =
      let names = names_of (certificate_numbered q (k + 1)) in
      let none : (list_any (λ x. is_in_one_of held.excluded x) names ≡ true → ⊥) ↔ ExcludesNoName q (k + 1) = (
        λ no i low high x among ex.
            no (list_any-from_Any (λ y. is_in_one_of held.excluded y) names
            (among.0, x, among.1, among.2, (in_one laws held.excluded x).1 ((is.excluded_is x).1 (i, low, omega arith, ex)))),
        λ ok t.
            let a = Any-from_list_any (λ x. is_in_one_of held.excluded x) names t in
            let ex = (is.excluded_is a.1).0 ((in_one laws held.excluded a.1).0 a.4) in
            ok ex.0 ex.1 (omega (arith, ex.2)) a.1 (a.0, a.2, a.3) ex.3,
      ) in
      subst (λ e. (list_any (λ x. is_in_one_of held.excluded x) (names_of e) ≡ true → ⊥) ↔ ExcludesNoName q (k + 1)) (sym here) none

  pub constraints_processed : (c : Certificate) → c ≡ certificate_numbered q (k + 1)
      → (((number : ℕ) × (has_number forms number ≡ true) × BearsForm c number) → ⊥) ↔ ConstrainsNone q (k + 1)
  constraints_processed c here = (
    λ none i low high number bears constrains.
        none (number, (is.forms_are number).1 (i, low, omega arith, constrains), subst (λ e. BearsForm e number) (sym here) bears),
    λ ok found.
        let e = (is.forms_are found.0).0 found.1 in
        ok e.0 e.1 (omega (arith, e.2)) found.0 (subst (λ e. BearsForm e found.0) here found.2) e.3,
  )

  module _ (c : Certificate) (here : c ≡ certificate_numbered q (k + 1)) where
    -- a test of its mail addresses and hosts says of the certificate what it says of number k + 1
    of_here : (P : CertificateHosts → Type 0) {Q : Type 0} → P (hosts_at q (k + 1)) ↔ Q → P c.hosts ↔ Q
    of_here P {Q} says = subst (λ (d : Certificate). P d.hosts ↔ Q) (sym here) says

    pub each_permitted : PermitsEach held c ↔ NamesArePermitted q (k + 1)
    each_permitted =
        through (λ each. (each.names, each.hosts), λ two. record { names = two.0; hosts = two.1 })
        (through (both_met (names_permitted c here) (of_here (λ d. Permit held.hosts d) (permit_exactly (hosts_at q) (k + 1) held.hosts is.hosts_are)))
        (permitted_both q (k + 1)))

    pub none_excluded : ExcludesNone held c ↔ NamesAreNotExcluded q (k + 1)
    none_excluded =
        through (λ none. (λ t. false≢true (sym none.names ∙ t), none.hosts), λ two. record { names = false_from_ne_true _ two.0; hosts = two.1 })
        (through (both_met (names_not_excluded c here) (of_here (λ d. DoNotExclude held.hosts d) (exclude_exactly (hosts_at q) (k + 1) held.hosts is.hosts_are)))
        (not_excluded_both q (k + 1)))

    pub each_processed : ((BearsOneOf forms c → ⊥) × FindHosts held.hosts c.hosts) ↔ ConstraintsAreProcessed q (k + 1)
    each_processed =
        through (both_met (constraints_processed c here) (of_here (λ d. FindHosts held.hosts d) (find_hosts_exactly (hosts_at q) (k + 1) held.hosts is.hosts_are)))
        (processed_both q (k + 1))

  pub path_length_says : k < count q → (c : Certificate) → c ≡ certificate_numbered q (k + 1) → (is_self_issued c ≡ false → room ≡ Some 0 → ⊥) ↔ IsWithinPathLength q (k + 1)
  path_length_says below c here = (
    λ more. room_allows q k room below (is.room_is below) (λ o. more (subst (λ d. is_self_issued d ≡ false) (sym here) o)),
    λ ok o. room_left q k room below (is.room_is below) ok (subst (λ d. is_self_issued d ≡ false) here o),
  )

-- reasons by rank

reasons : List Reason
reasons = Empty ∷ Repeated ∷ Signature ∷ NotYet ∷ Expired ∷ Issuer ∷ NotPermitted ∷ Excluded ∷ ConstraintForm ∷ NotCa ∷ PathLength ∷ KeyCertSign ∷ Policy ∷ CriticalUnknown ∷ Purpose ∷ Empty ∷ TooLong ∷ NoValidPolicy ∷ AnyPolicyMapped ∷ NoUserPolicy ∷ []

of_rank_is : (s : Reason) → get_or reasons (reason_rank s) Empty ≡ s
unfolding reasons
of_rank_is Repeated = refl
of_rank_is Signature = refl
of_rank_is NotYet = refl
of_rank_is Expired = refl
of_rank_is Issuer = refl
of_rank_is NotPermitted = refl
of_rank_is Excluded = refl
of_rank_is ConstraintForm = refl
of_rank_is NotCa = refl
of_rank_is PathLength = refl
of_rank_is KeyCertSign = refl
of_rank_is Policy = refl
of_rank_is CriticalUnknown = refl
of_rank_is Purpose = refl
of_rank_is Empty = refl
of_rank_is TooLong = refl
of_rank_is NoValidPolicy = refl
of_rank_is AnyPolicyMapped = refl
of_rank_is NoUserPolicy = refl

pub same_rank : (s t : Reason) → reason_rank s ≡ reason_rank t → s ≡ t
same_rank s t e = sym (of_rank_is s) ∙ (ap (λ n. get_or reasons n Empty) e ∙ of_rank_is t)

-- the conditions of the ranks below n are met
abbrev pub MeetsBelow : Accepts → Query → ℕ → ℕ → Type 0
MeetsBelow accepts q j n = (s : Reason) → reason_rank s < n → MeetsCondition accepts q j s

pub meets_more : (accepts : Accepts) (q : Query) (j n : ℕ) (r : Reason) → reason_rank r ≡ n → MeetsBelow accepts q j n → MeetsCondition accepts q j r → MeetsBelow accepts q j (n + 1)
meets_more accepts q j n r e before here s h =
    elim (cases_order (reason_rank s) n) [
      | inl same ↦ subst (λ t. MeetsCondition accepts q j t) (sym (same_rank s r (same ∙ sym e))) here
      | inr o ↦ elim o [ inl below ↦ before s below | inr above ↦ absurd (omega arith) ]
    ]

pub meets_all : (accepts : Accepts) (q : Query) (j : ℕ) → MeetsBelow accepts q j 15 → MeetsConditions accepts q j
meets_all accepts q j h Repeated = h Repeated (omega arith)
meets_all accepts q j h Signature = h Signature (omega arith)
meets_all accepts q j h NotYet = h NotYet (omega arith)
meets_all accepts q j h Expired = h Expired (omega arith)
meets_all accepts q j h Issuer = h Issuer (omega arith)
meets_all accepts q j h NotPermitted = h NotPermitted (omega arith)
meets_all accepts q j h Excluded = h Excluded (omega arith)
meets_all accepts q j h ConstraintForm = h ConstraintForm (omega arith)
meets_all accepts q j h NotCa = h NotCa (omega arith)
meets_all accepts q j h PathLength = h PathLength (omega arith)
meets_all accepts q j h KeyCertSign = h KeyCertSign (omega arith)
meets_all accepts q j h Policy = h Policy (omega arith)
meets_all accepts q j h CriticalUnknown = h CriticalUnknown (omega arith)
meets_all accepts q j h Purpose = h Purpose (omega arith)
meets_all accepts q j h Empty = tt
meets_all accepts q j h TooLong = tt
meets_all accepts q j h NoValidPolicy = tt
meets_all accepts q j h AnyPolicyMapped = tt
meets_all accepts q j h NoUserPolicy = tt

low_rank : (s : Reason) → 1 ≤ reason_rank s
low_rank Repeated = omega arith
low_rank Signature = omega arith
low_rank NotYet = omega arith
low_rank Expired = omega arith
low_rank Issuer = omega arith
low_rank NotPermitted = omega arith
low_rank Excluded = omega arith
low_rank ConstraintForm = omega arith
low_rank NotCa = omega arith
low_rank PathLength = omega arith
low_rank KeyCertSign = omega arith
low_rank Policy = omega arith
low_rank CriticalUnknown = omega arith
low_rank Purpose = omega arith
low_rank Empty = omega arith
low_rank TooLong = omega arith
low_rank NoValidPolicy = omega arith
low_rank AnyPolicyMapped = omega arith
low_rank NoUserPolicy = omega arith

pub meets_none : (accepts : Accepts) (q : Query) (j : ℕ) → MeetsBelow accepts q j 1
meets_none accepts q j s h = let low = low_rank s in absurd (omega arith)

-- reasons in the order of their ranks
abbrev pub Ascend : ℕ → List Reason → Type 0
Ascend n [] = Unit {0}
Ascend n (r ∷ rs) = (reason_rank r ≡ n) × Ascend (n + 1) rs

pub rank_at : (n : ℕ) (rs : List Reason) (i : ℕ) (d : Reason) → Ascend n rs → i < length rs → reason_rank (get_or rs i d) ≡ n + i
rank_at n [] i d up h = absurd (omega arith)
rank_at n (r ∷ rs) zero d up h = omega (arith, up.0)
rank_at n (r ∷ rs) (suc i) d up h = omega (arith, rank_at (n + 1) rs i d up.1 (omega arith))

pub take-map : (n : ℕ) (xs : List code.Certificate) → take n (map seen_certificate xs) ≡ map seen_certificate (take n xs)
take-map zero xs = refl
take-map (suc n) [] = refl
take-map (suc n) (x ∷ xs) = ap (λ l. seen_certificate x ∷ l) (take-map n xs)

abbrev pub by_rank : List Reason
by_rank = Repeated ∷ Signature ∷ NotYet ∷ Expired ∷ Issuer ∷ NotPermitted ∷ Excluded ∷ ConstraintForm ∷ NotCa ∷ PathLength ∷ KeyCertSign ∷ Policy ∷ CriticalUnknown ∷ Purpose ∷ []

pub rank_by_rank : (i : ℕ) → i < 14 → reason_rank (get_or by_rank i Repeated) ≡ i + 1
rank_by_rank i h =
    let up : Ascend 1 by_rank = (refl, (refl, (refl, (refl, (refl, (refl, (refl, (refl, (refl, (refl, (refl, (refl, (refl, (refl, tt)))))))))))))) in
    omega (arith, rank_at 1 by_rank i Repeated up h)

pub not_last : (k n : ℕ) → k < n → (k + 1 ≡ n → ⊥) → k + 1 < n
not_last k n h ne = elim (cases_order (k + 1) n) [ inl e ↦ absurd (ne e) | inr o ↦ elim o [ inl b ↦ b | inr a ↦ absurd (omega arith) ] ]

-- the same at a state, whose fields give the view v

-- a certificate of the path, as it was read
numbered_is : (q : Query) (path : List code.Certificate) → q.certificates ≡ map seen_certificate path → (k : ℕ) → k < count q → (c : code.Certificate) → c ≡ get_or path k c
    → seen_certificate c ≡ certificate_numbered q (k + 1)
numbered_is q path all k below c is =
    ap seen_certificate is ∙ (sym (get_or-map seen_certificate path k c q.anchor long) ∙ (ap (λ l. get_or l k q.anchor) (sym all) ∙ sym (at_more q k)))
  where
    long : k < length path
    long = let same = ap (λ (l : List Certificate). length l) all in let len = length-map path seen_certificate in omega (arith, below)

module _ {V : Type 0} {v w : Progress V} (e : v ≡ w) where
  pub below_of : w.done < count w.query → v.done < count v.query
  below_of h = subst (λ u. u.done < count u.query) (sym e) h

  pub here_of : (c : Certificate) → c ≡ certificate_numbered w.query (w.done + 1) → c ≡ certificate_numbered v.query (v.done + 1)
  here_of c h = subst (λ u. c ≡ certificate_numbered u.query (u.done + 1)) (sym e) h

  module _ (issuer : NameContents) (key : List ℕ) (room : Option ℕ) (forms : FormSet) (is : Represents v.query v.done issuer key room v.constraints forms) (c : Certificate) (here : c ≡ certificate_numbered w.query (w.done + 1)) where
    pub permitted_at : (b : Bool) → ((b ≡ true) ↔ PermitsEach v.constraints c) → (b ≡ true) ↔ NamesArePermitted w.query (w.done + 1)
    permitted_at b says =
        through says (subst (λ u. PermitsEach v.constraints c ↔ NamesArePermitted u.query (u.done + 1)) e
        (each_permitted laws_of_names v.query v.done issuer key room v.constraints forms is c (here_of c here)))

    pub not_excluded_at : (b : Bool) → ((b ≡ true) ↔ ExcludesNone v.constraints c) → (b ≡ true) ↔ NamesAreNotExcluded w.query (w.done + 1)
    not_excluded_at b says =
        through says (subst (λ u. ExcludesNone v.constraints c ↔ NamesAreNotExcluded u.query (u.done + 1)) e
        (none_excluded laws_of_names v.query v.done issuer key room v.constraints forms is c (here_of c here)))

    pub processed_at : ((BearsOneOf forms c → ⊥) × FindHosts v.constraints.hosts c.hosts) ↔ ConstraintsAreProcessed w.query (w.done + 1)
    processed_at =
        subst (λ u. ((BearsOneOf forms c → ⊥) × FindHosts v.constraints.hosts c.hosts) ↔ ConstraintsAreProcessed u.query (u.done + 1)) e
        (each_processed laws_of_names v.query v.done issuer key room v.constraints forms is c (here_of c here))

    pub within_at : w.done < count w.query → (b self : Bool) → self ≡ is_self_issued c → ((b ≡ true) ↔ (self ≡ false → room ≡ Some 0 → ⊥)) → (b ≡ true) ↔ IsWithinPathLength w.query (w.done + 1)
    within_at below b self same says =
        let f = subst (λ u. (is_self_issued c ≡ false → room ≡ Some 0 → ⊥) ↔ IsWithinPathLength u.query (u.done + 1)) e
        (path_length_says laws_of_names v.query v.done issuer key room v.constraints forms is (below_of below) c (here_of c here)) in
        (λ t. f.0 (λ o. says.0 t (same ∙ o)), λ ok. says.1 (λ o. f.1 ok (sym same ∙ o)))

  pub certificate_at : (path : List code.Certificate) → v.query.certificates ≡ map seen_certificate path → w.done < count w.query → (c : code.Certificate) → c ≡ get_or path v.done c
      → seen_certificate c ≡ certificate_numbered w.query (w.done + 1)
  certificate_at path all below c is =
      subst (λ u. seen_certificate c ≡ certificate_numbered u.query (u.done + 1)) e (numbered_is v.query path all v.done (below_of below) c is)

  pub repeated_at : (path : List code.Certificate) → v.query.certificates ≡ map seen_certificate path → w.done < count w.query → (c : code.Certificate) → seen_certificate c ≡ certificate_numbered w.query (w.done + 1)
      → (xs : List code.Certificate) → xs ≡ take v.done path → (b : Bool) → b ≡ list_any (λ d. bytes_eq d.octets.now c.octets.now) xs → (not b ≡ true) ↔ IsNotRepeated w.query (w.done + 1)
  repeated_at path all below c here xs front b says =
      let test : Certificate → Bool = λ d. bytes_eq d.octets c.octets.now in
      let seen : list_any test (take v.done v.query.certificates) ≡ list_any (λ d. bytes_eq d.octets.now c.octets.now) xs =
      ap (λ l. list_any test (take v.done l)) all ∙ (ap (λ l. list_any test l) (take-map v.done path) ∙ (list_any-map test seen_certificate (take v.done path) ∙ ap (λ l. list_any (λ d. bytes_eq d.octets.now c.octets.now) l) (sym front))) in
      let f = subst (λ u. (list_any test (take v.done v.query.certificates) ≡ true → ⊥) ↔ IsNotRepeated u.query (u.done + 1)) e
      (repeated_says v.query v.done c.octets.now (below_of below) (ap (λ d. d.octets) (here_of (seen_certificate c) here))) in
      let g = not_true b {P = b ≡ true} (λ t. t, λ t. t) in
      (λ t. f.0 (λ a. g.0 t (says ∙ (sym seen ∙ a))), λ ok. g.1 (λ t. f.1 ok (seen ∙ (sym says ∙ t))))
