-- The order of hosts is total, and hosts are equal in it just if they are the same.
use Rattle.std.proofs.Common.{◌≡◌, ℕ, List, [], ◌∷◌, ◌++◌, length, true, false, ◌==◌, refl, sym, ◌∙◌, ap, arith, IsTrue, length-append, reverse, map}
use Rattle.std.specs.Prelude.{◌↔◌, nat_eq}
use Rattle.std.specs.Char.{to_ascii_lowercase}
use Rattle.std.specs.declared.cmp.Ordering.TheVariants.{Equal}
use Rattle.std.specs.Ordering.{nat_cmp}
use Rattle.std.specs.Cmp.{IsTotalOrder}
use Rattle.std.specs.Cmp.Lexicographic.{slice_cmp, pointwise}
use Rattle.std.proofs.lemmas.Bool.{and_from, eq-eqb}
use Rattle.std.proofs.lemmas.Bool.Decides.{Decides-eqb}
use Rattle.std.proofs.lemmas.Slice.Eq.{slice_eq-Decides}
use Rattle.std.proofs.lemmas.Map.Lookups.{exact_bytes}
use Rattle.std.proofs.lemmas.Cmp.{on_total, nat_list_cmp_total, tied_itself}
use Rattle.names.specs.Dns.{labels, EndsIn}
use Rattle.names.specs.Bases.{names_within}
use Rattle.names.specs.GeneralLayout.{dns_base, dns_name}
use Rattle.names.specs.GeneralCoverage.{is_covered, is_base_inside, is_domain_among, are_among}
use Rattle.names.proofs.Laws.{coverage_test_is_exact}
use Rattle.names_order.specs.Order.{begins_with, base_end, text_key}
use Rattle.names_order.proofs.Laws.{inside_begins}
use Rattle.names_hosts.specs.Hosts.{IsSameHost}
use Rattle.names_hosts.proofs.Laws.{same_folded, same_host}
use Rattle.names_hosts.specs.HostLists.{host_key, host_order, is_same_host}

pub hosts_total : IsTotalOrder host_order
hosts_total = on_total host_key nat_list_cmp_total

begins_itself : (a : List ℕ) → begins_with a a ≡ true
begins_itself [] = refl
begins_itself (x ∷ a) = and_from (x == x) (begins_with a a) (eq-eqb x x refl) (begins_itself a)

-- a host whose key is that of another ends in its labels
ends_in : (a b : List ℕ) → host_key a ≡ host_key b → EndsIn (labels a) (labels b)
unfolding is_base_inside is_covered is_domain_among are_among
ends_in a b e =
    let begins : begins_with (host_key a) (host_key b) ≡ true = ap (begins_with (host_key a)) (sym e) ∙ begins_itself (host_key a) in
    (coverage_test_is_exact (dns_name a) (dns_base (names_within b))).0
    (inside_begins (dns_base (names_within a)) (dns_base (names_within b)) refl ∙ begins)

-- lists that end in one another are the same
same_ends : (xs ys f g : List (List ℕ)) → xs ≡ f ++ ys → ys ≡ g ++ xs → xs ≡ ys
same_ends xs ys [] g a b = a
same_ends xs ys (x ∷ f) g a b =
    absurd (omega (arith, ap length a, ap length b, length-append (x ∷ f) ys, length-append g xs))

same_by_keys : (a b : List ℕ) → host_key a ≡ host_key b → IsSameHost a b
same_by_keys a b e =
    let p = ends_in a b e in
    let q = ends_in b a (sym e) in
    same_ends (labels a) (labels b) p.front q.front p.joined q.joined

keys_of_same : (a b : List ℕ) → map to_ascii_lowercase a ≡ map to_ascii_lowercase b → host_key a ≡ host_key b
keys_of_same a b e = ap (λ (l : List ℕ). 0 ∷ text_key (reverse l) (base_end false)) e

pub same_by : (a b : List ℕ) → pointwise nat_eq a b ≡ true → a ≡ b
same_by a b t = (slice_eq-Decides Decides-eqb a b _ refl).0 t

pub by_same : (a b : List ℕ) → a ≡ b → pointwise nat_eq a b ≡ true
by_same a b e = (slice_eq-Decides Decides-eqb a b _ refl).1 e

-- the test of hosts is exact, and so is the order
pub same_host_is_exact : (host base : List ℕ) → (IsTrue (is_same_host host base) ↔ IsSameHost host base)
same_host_is_exact host base = (λ t. same_host host base (same_by _ _ t), λ e. by_same _ _ (same_folded host base e))

pub equal_is_exact : (host one : List ℕ) → ((host_order one host ≡ Equal) ↔ IsTrue (is_same_host host one))
equal_is_exact host one = (
  λ h. (same_host_is_exact host one).1 (sym (same_by_keys one host (exact_bytes (host_key one) (host_key host) h))),
  λ t. ap (λ (k : List ℕ). slice_cmp nat_cmp k (host_key host)) (sym (keys_of_same host one (same_by _ _ t)))
      ∙ tied_itself nat_list_cmp_total (host_key host),
)
