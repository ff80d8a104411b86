use Rattle.std.proofs.Common.{◌≡◌, ℕ, ◌<◌, ◌≤◌, ◌++◌, List, [], ◌∷◌, length, Bool, true, refl, sym, ◌∙◌, ap, inl, inr, ◌⊎◌, arith, nat_lt, append_assoc, length-append, IsTrue}
use Rattle.std.specs.Prelude.{◌↔◌}
use Rattle.std.proofs.lemmas.Bool.{and_parts, and_from, ltb-true, lt-ltb, cases_lt}
use Rattle.names.specs.declared.dns.Domain.{Domain}
use Rattle.names.specs.declared.dns.Domain.TheVariants as D
use Rattle.names.specs.Dns.{labels, EndsIn, EndsInMore, IsInDomain, ends_in_labels, ends_in_more_labels, is_in_domain, is_domain_inside}
use Rattle.names.specs.Bases.{DomainNames, every_name, names_within, names_below, domain_names}
use Rattle.names.specs.GeneralCoverage.{is_domain_among, are_among}
use Rattle.names.specs.Laws.{DomainTestIsExact, DomainInsideIsSound, SharedDomainsAreNested}
use Rattle.names.proofs.Labels.{ends_in_is_exact}

abbrev Ends : List ℕ → List ℕ → Type 0
Ends x s = ends_in_labels x s ≡ true

abbrev More : List ℕ → List ℕ → Type 0
More x s = ends_in_more_labels x s ≡ true

count : List ℕ → ℕ
count x = length (labels x)

ends_count : (x s : List ℕ) → Ends x s → count s ≤ count x
unfolding count
ends_count x s h = let e = (ends_in_is_exact x s).0 h in omega (arith, ap length e.joined, length-append e.front (labels s))

more_ends : (x s : List ℕ) → More x s → Ends x s
more_ends x s h = (and_parts (nat_lt (length (labels s)) (length (labels x))) _ h).1

more_count : (x s : List ℕ) → More x s → count s < count x
unfolding count
more_count x s h = ltb-true (length (labels s)) (length (labels x)) (and_parts (nat_lt (length (labels s)) (length (labels x))) _ h).0

more_of : (x s : List ℕ) → Ends x s → count s < count x → More x s
unfolding count
more_of x s h lt = and_from (nat_lt (length (labels s)) (length (labels x))) _ (lt-ltb (length (labels s)) (length (labels x)) lt) h

trans : (x s t : List ℕ) → Ends s t → Ends x s → Ends x t
trans x s t p q =
    let a = (ends_in_is_exact s t).0 p in
    let b = (ends_in_is_exact x s).0 q in
    (ends_in_is_exact x t).1 (record {
      front = b.front ++ a.front;
      joined = b.joined ∙ (ap (λ (l : List (List ℕ)). b.front ++ l) a.joined ∙ sym (append_assoc b.front a.front (labels t)));
    })

-- of two ends of one list the shorter is an end of the other
shorter_end : (xs f s g t : List (List ℕ)) → xs ≡ f ++ s → xs ≡ g ++ t → length t ≤ length s → EndsIn s t
shorter_end xs [] s [] t a b le = record { front = []; joined = sym a ∙ b }
shorter_end xs [] s (y ∷ g) t a b le = record { front = y ∷ g; joined = sym a ∙ b }
shorter_end xs (x ∷ f) s [] t a b le = absurd (omega (arith, ap length (sym a ∙ b), length-append f s))
shorter_end [] (x ∷ f) s (y ∷ g) t a b le = cc
shorter_end (z ∷ xs) (x ∷ f) s (y ∷ g) t a b le =
    let p : xs ≡ f ++ s = cc in
    let q : xs ≡ g ++ t = cc in
    shorter_end xs f s g t p q le

both : (x s t : List ℕ) → Ends x s → Ends x t → count t ≤ count s → Ends s t
unfolding count
both x s t p q le =
    let a = (ends_in_is_exact x s).0 p in
    let b = (ends_in_is_exact x t).0 q in
    (ends_in_is_exact s t).1 (shorter_end (labels x) a.front (labels s) b.front (labels t) a.joined b.joined le)

-- to end in labels and be longer is to have a label more
more_at : (list end front : List (List ℕ)) → list ≡ front ++ end → length end < length list → EndsInMore list end
more_at list end [] e lt = absurd (omega (arith, ap length e))
more_at list end (first ∷ front) e lt = record { first = first; front = front; joined = e }

pub more_is_exact : (x s : List ℕ) → (IsTrue (ends_in_more_labels x s) ↔ EndsInMore (labels x) (labels s))
unfolding count
more_is_exact x s = (
  λ t. let e = (ends_in_is_exact x s).0 (more_ends x s t) in more_at (labels x) (labels s) e.front e.joined (more_count x s t),
  λ m. more_of x s ((ends_in_is_exact x s).1 (record { front = m.first ∷ m.front; joined = m.joined }))
      (omega (arith, ap length m.joined, length-append (m.first ∷ m.front) (labels s))),
)

pub domain_test_is_exact : DomainTestIsExact
unfolding is_in_domain
domain_test_is_exact x D.Every = (λ _. tt, λ _. refl)
domain_test_is_exact x (D.Within s) = ends_in_is_exact x s.now
domain_test_is_exact x (D.Below s) = more_is_exact x s.now

-- both laws, of what bases say
pub names_inside : (x : List ℕ) (s t : DomainNames) → IsTrue (are_among s t) → IsTrue (is_domain_among x s) → IsTrue (is_domain_among x t)
unfolding is_domain_among are_among
names_inside x s every_name h k = refl
names_inside x every_name (names_within t) h k = cc
names_inside x every_name (names_below t) h k = cc
names_inside x (names_within s) (names_within t) h k = trans x s t h k
names_inside x (names_within s) (names_below t) h k =
    let a = more_count s t h in
    let b = ends_count x s k in
    more_of x t (trans x s t (more_ends s t h) k) (omega arith)
names_inside x (names_below s) (names_within t) h k = trans x s t h (more_ends x s k)
names_inside x (names_below s) (names_below t) h k =
    let a = ends_count s t h in
    let b = more_count x s k in
    more_of x t (trans x s t h (more_ends x s k)) (omega arith)

pub names_nested : (x : List ℕ) (s t : DomainNames) → IsTrue (is_domain_among x s) → IsTrue (is_domain_among x t) → IsTrue (are_among s t) ⊎ IsTrue (are_among t s)
unfolding is_domain_among are_among
names_nested x s every_name h k = inl refl
names_nested x every_name (names_within t) h k = inr refl
names_nested x every_name (names_below t) h k = inr refl
names_nested x (names_within s) (names_within t) h k =
    elim (cases_lt (count s) (count t)) [
      | inl lt ↦ inr (both x t s k h (omega arith))
      | inr le ↦ inl (both x s t h k le)
    ]
names_nested x (names_within s) (names_below t) h k =
    elim (cases_lt (count t) (count s)) [
      | inl lt ↦ inl (more_of s t (both x s t h (more_ends x t k) (omega arith)) lt)
      | inr le ↦ inr (both x t s (more_ends x t k) h le)
    ]
names_nested x (names_below s) (names_within t) h k =
    elim (cases_lt (count s) (count t)) [
      | inl lt ↦ inr (more_of t s (both x t s k (more_ends x s h) (omega arith)) lt)
      | inr le ↦ inl (both x s t (more_ends x s h) k le)
    ]
names_nested x (names_below s) (names_below t) h k =
    elim (cases_lt (count s) (count t)) [
      | inl lt ↦ inr (both x t s (more_ends x t k) (more_ends x s h) (omega arith))
      | inr le ↦ inl (both x s t (more_ends x s h) (more_ends x t k) le)
    ]

-- it is what domains say that decides
pub among : (name : List ℕ) (domain : Domain) → is_in_domain name domain ≡ is_domain_among name (domain_names domain)
unfolding is_in_domain is_domain_among
among name D.Every = refl
among name (D.Within base) = refl
among name (D.Below base) = refl

pub among_all : (s t : Domain) → is_domain_inside s t ≡ are_among (domain_names s) (domain_names t)
unfolding is_domain_inside are_among
among_all s D.Every = refl
among_all D.Every (D.Within t) = refl
among_all D.Every (D.Below t) = refl
among_all (D.Within s) (D.Within t) = refl
among_all (D.Within s) (D.Below t) = refl
among_all (D.Below s) (D.Within t) = refl
among_all (D.Below s) (D.Below t) = refl

pub domain_inside_is_sound : DomainInsideIsSound
domain_inside_is_sound x s t h k =
    among x t ∙ names_inside x (domain_names s) (domain_names t) (sym (among_all s t) ∙ h) (sym (among x s) ∙ k)

pub shared_domains_are_nested : SharedDomainsAreNested
shared_domains_are_nested x s t h k =
    elim (names_nested x (domain_names s) (domain_names t) (sym (among x s) ∙ h) (sym (among x t) ∙ k)) [
      | inl inside ↦ inl (among_all s t ∙ inside)
      | inr inside ↦ inr (among_all t s ∙ inside)
    ]

-- an answer that is the test decides the relation
pub decided : (x : List ℕ) (d : Domain) (b : Bool) → b ≡ is_in_domain x d → (IsTrue b ↔ IsInDomain x d)
decided x d b e = let law = domain_test_is_exact x d in (λ t. law.0 (sym e ∙ t), λ h. e ∙ law.1 h)
