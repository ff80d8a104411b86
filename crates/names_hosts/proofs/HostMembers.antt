-- What is kept of bases on hosts decides whether a host is among those of one of them.
use Rattle.std.proofs.Common.{◌≡◌, ℕ, List, [], ◌∷◌, Bool, true, false, ◌||◌, map, refl, sym, ◌∙◌, ap, IsTrue}
use Rattle.std.specs.Prelude.{◌↔◌, Any}
use Rattle.std.specs.Borrow.{Bor}
use Rattle.std.specs.List.{list_any}
use Rattle.std.specs.List.Sorted.{IsSortedBy, IsPermutation}
use Rattle.std.proofs.lemmas.Bool.{false≢true}
use Rattle.std.proofs.lemmas.List.Folds.{Any-from_list_any, list_any-from_Any}
use Rattle.std.proofs.lemmas.List.Sorted.{list_any-IsPermutation}
use Rattle.names.specs.Bases.{names_within, names_below}
use Rattle.names.specs.declared.subtree.Subtree.{Subtree}
use Rattle.names.specs.GeneralView.{subtree_base}
use Rattle.names.specs.GeneralLayout.{SubtreeBase, dns_base, dns_name}
use Rattle.names.specs.GeneralCoverage.{is_covered, is_base_inside, is_domain_among, are_among}
use Rattle.names.proofs.Laws.{coverage_test_is_exact}
use Rattle.names_order.specs.Index.{holds_name, lies_in_one, HasSameMembers}
use Rattle.names_hosts.specs.declared.hosts.HostBase.{HostBase}
use Rattle.names_hosts.specs.declared.hosts.HostBase.TheVariants as B
use Rattle.names_hosts.specs.Hosts.{HostNames, one_host, hosts_below, host_names, IsAmongHosts, AreHostsInside}
use Rattle.names_hosts.specs.HostLists.{HasHost, HoldsHosts, is_same_host, is_host_among, one_has_host, is_host_before, is_one_host, hosts_in, domains_in, octets_of, IsHostIndex}
use Rattle.names_hosts.proofs.HostOrder.{same_host_is_exact}

pub or_assoc : (a b c : Bool) → (a || (b || c)) ≡ ((a || b) || c)
or_assoc true b c = refl
or_assoc false b c = refl

pub or_between : (a b c : Bool) → (a || (b || c)) ≡ (b || (a || c))
or_between true true c = refl
or_between true false c = refl
or_between false b c = refl

-- a host is one of the hosts, or below one of the domains
parted :
    (list : List HostBase) (host : List ℕ) →
    one_has_host (map host_names list) host ≡ (list_any (is_same_host host) (hosts_in list) || holds_name (domains_in list) (dns_name host))
parted [] host = refl
parted (B.Host base ∷ list) host =
    ap (λ (b : Bool). is_same_host host base.now || b) (parted list host)
    ∙ or_assoc (is_same_host host base.now) (list_any (is_same_host host) (hosts_in list)) (holds_name (domains_in list) (dns_name host))
parted (B.Domain domain ∷ list) host =
    ap (λ (b : Bool). is_covered (dns_name host) (dns_base (names_below domain.now)) || b) (parted list host)
    ∙ or_between (is_covered (dns_name host) (dns_base (names_below domain.now))) (list_any (is_same_host host) (hosts_in list)) (holds_name (domains_in list) (dns_name host))

any_mapped : (test : List ℕ → Bool) (hosts : List (Bor (List ℕ))) → list_any test (map octets_of hosts) ≡ list_any (λ one. test one.now) hosts
any_mapped test [] = refl
any_mapped test (one ∷ hosts) = ap (λ (b : Bool). test one.now || b) (any_mapped test hosts)

pub indexed :
    (all : List HostBase) (found hosts : List (Bor (List ℕ))) (domains : List Subtree) (index : List SubtreeBase) →
    map octets_of found ≡ hosts_in all → IsPermutation found hosts → IsSortedBy is_host_before hosts →
    map subtree_base domains ≡ domains_in all → HasSameMembers index (map subtree_base domains) → IsHostIndex all hosts index
indexed all found hosts domains index found_are permuted sorted domains_are kept = record {
  sorted = sorted;
  found = λ host.
      ap (list_any (is_same_host host)) (sym found_are)
      ∙ (any_mapped (is_same_host host) found ∙ list_any-IsPermutation (λ one. is_same_host host one.now) found hosts permuted);
  kept = λ test. kept test ∙ ap (list_any test) domains_are;
}

same_of :
    (all : List HostBase) (hosts : List (Bor (List ℕ))) (domains : List SubtreeBase) → IsHostIndex all hosts domains → (host : List ℕ) →
    one_has_host (map host_names all) host ≡ (is_one_host hosts host || holds_name domains (dns_name host))
same_of all hosts domains index host =
    parted all host
    ∙ (ap (λ (b : Bool). b || holds_name (domains_in all) (dns_name host)) (index.found host)
    ∙ ap (λ (b : Bool). is_one_host hosts host || b) (sym (index.kept (λ base. is_covered (dns_name host) base))))

-- the test of one base is exact
pub among_is_exact : (host : List ℕ) (base : HostNames) → (IsTrue (is_host_among host base) ↔ IsAmongHosts host base)
among_is_exact host (one_host base) = same_host_is_exact host base
among_is_exact host (hosts_below domain) = coverage_test_is_exact (dns_name host) (dns_base (names_below domain))

pub any_is_exact :
    {X : Type 0} (test : X → Bool) (P : X → Type 0) → ((x : X) → (IsTrue (test x) ↔ P x)) → (xs : List X) (b : Bool) →
    b ≡ list_any test xs → (IsTrue b ↔ Any P xs)
any_is_exact test P exact xs b e = (
  λ t. let a = Any-from_list_any test xs (sym e ∙ t) in (a.0, a.1, a.2, a.3, (exact a.1).0 a.4),
  λ a. e ∙ list_any-from_Any test xs (a.0, a.1, a.2, a.3, (exact a.1).1 a.4),
)

pub host_decided : (bases : List HostNames) (host : List ℕ) (b : Bool) → b ≡ one_has_host bases host → (IsTrue b ↔ HasHost bases host)
host_decided bases host b e = any_is_exact (λ base. is_host_among host base) (λ base. IsAmongHosts host base) (λ base. among_is_exact host base) bases b e

-- the two answers of the code
pub covered_here :
    (all : List HostBase) (hosts : List (Bor (List ℕ))) (domains : List SubtreeBase) (bases : List HostNames) (host : List ℕ) (b : Bool) →
    IsHostIndex all hosts domains → map host_names all ≡ bases → b ≡ is_one_host hosts host → b ≡ true → (IsTrue b ↔ HasHost bases host)
covered_here all hosts domains bases host b index are e t =
    host_decided bases host b
    (t ∙ sym (ap (λ (l : List HostNames). one_has_host l host) (sym are)
    ∙ (same_of all hosts domains index host ∙ ap (λ (c : Bool). c || holds_name domains (dns_name host)) (sym e ∙ t))))

pub covered_below :
    (all : List HostBase) (hosts : List (Bor (List ℕ))) (domains : List SubtreeBase) (bases : List HostNames) (host : List ℕ) (b c : Bool) →
    IsHostIndex all hosts domains → map host_names all ≡ bases → b ≡ is_one_host hosts host → b ≡ false →
    c ≡ holds_name domains (dns_name host) → (IsTrue c ↔ HasHost bases host)
covered_below all hosts domains bases host b c index are e f g =
    host_decided bases host c
    (g ∙ sym (ap (λ (l : List HostNames). one_has_host l host) (sym are)
    ∙ (same_of all hosts domains index host ∙ ap (λ (d : Bool). d || holds_name domains (dns_name host)) (sym e ∙ f))))

-- facts of one of several
pub any_as : {X : Type 0} (P Q : X → Type 0) → ((x : X) → P x → Q x) → (xs : List X) → Any P xs → Any Q xs
any_as P Q f xs a = (a.0, a.1, a.2, a.3, f a.1 a.4)

-- one host lies in what has it
inside_host : (host : List ℕ) (other : HostNames) → (AreHostsInside (one_host host) other ↔ IsAmongHosts host other)
inside_host host (one_host base) = (λ h. h, λ h. h)
inside_host host (hosts_below domain) = (λ h. h, λ h. h)

pub held_host :
    (bases : List HostNames) (host : List ℕ) (b : Bool) → (IsTrue b ↔ HasHost bases host) → (IsTrue b ↔ HoldsHosts bases (one_host host))
held_host bases host b e = (
  λ t. any_as (λ other. IsAmongHosts host other) (λ other. AreHostsInside (one_host host) other) (λ other. (inside_host host other).1) bases (e.0 t),
  λ a. e.1 (any_as (λ other. AreHostsInside (one_host host) other) (λ other. IsAmongHosts host other) (λ other. (inside_host host other).0) bases a),
)

-- tests of domains alone
abbrev domain_passes : (SubtreeBase → Bool) → HostNames → Bool
domain_passes test (one_host host) = false
domain_passes test (hosts_below domain) = test (dns_base (names_below domain))

domains_pass :
    (test : SubtreeBase → Bool) (list : List HostBase) →
    list_any test (domains_in list) ≡ list_any (λ base. domain_passes test base) (map host_names list)
domains_pass test [] = refl
domains_pass test (B.Host base ∷ list) = domains_pass test list
domains_pass test (B.Domain domain ∷ list) =
    ap (λ (b : Bool). test (dns_base (names_below domain.now)) || b) (domains_pass test list)

-- a domain lies in those that it ends in
below_is_exact :
    (inner : List ℕ) (other : HostNames) →
    (IsTrue (domain_passes (λ base. is_base_inside (dns_base (names_below inner)) base) other) ↔ AreHostsInside (hosts_below inner) other)
unfolding is_base_inside are_among is_covered is_domain_among
below_is_exact inner (one_host base) = (λ t. absurd (false≢true t), λ h. absurd h)
below_is_exact inner (hosts_below outer) = coverage_test_is_exact (dns_name inner) (dns_base (names_within outer))

pub held_below :
    (all : List HostBase) (hosts : List (Bor (List ℕ))) (domains : List SubtreeBase) (bases : List HostNames) (inner : List ℕ) (b : Bool) →
    IsHostIndex all hosts domains → map host_names all ≡ bases → b ≡ lies_in_one domains (dns_base (names_below inner)) →
    (IsTrue b ↔ HoldsHosts bases (hosts_below inner))
held_below all hosts domains bases inner b index are e =
    let test : SubtreeBase → Bool = λ base. is_base_inside (dns_base (names_below inner)) base in
    any_is_exact (λ other. domain_passes test other) (λ other. AreHostsInside (hosts_below inner) other) (λ other. below_is_exact inner other) bases b
    (e ∙ (index.kept test ∙ (domains_pass test all ∙ ap (list_any (λ other. domain_passes test other)) are)))
