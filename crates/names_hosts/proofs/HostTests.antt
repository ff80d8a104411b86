-- The tests of hosts, and of the bases of constraints on them, are exact.
use Rattle.std.proofs.Common.{◌≡◌, ℕ, List, [], ◌∷◌, ◌++◌, length, Bool, true, false, not, nat_lt, nat_le, ◌&&◌, Some, refl, sym, ◌∙◌, ap, subst, inl, inr}
use Rattle.std.specs.Prelude.{◌↔◌, IsTrue}
use Rattle.std.specs.Bool.{then_some}
use Rattle.std.specs.List.{AllPass, list_all, sum_by}
use Rattle.std.specs.Char.{is_ascii_digit}
use Rattle.std.proofs.lemmas.Bool.{false≢true, both_ways, false_from_ne_true, and_parts, and_from, not-true, not_from_false, ltb-true, lt-ltb, leb-true, le-leb, cases_eq, eq-eqb, ne_eqb}
use Rattle.std.proofs.lemmas.List.Elements.{All-weaker}
use Rattle.std.proofs.lemmas.List.Sums.{AllPass-from_list_all, list_all-from_AllPass}
use Rattle.names_identity.specs.Host.{IsHost, IsNumberAt, HasLabelLength, is_host_octet, dotted_parts, octets_and_dot}
use Rattle.names_hosts.specs.Hosts.{HostNames, one_host, hosts_below, AreHostsOf, has_label_length, ends_in_number, is_host, host_base_of}
use Rattle.names_hosts.specs.Laws.{HostTestIsExact, HostBaseIsExact}
use Rattle.names_hosts.proofs.HostTexts.{no_dot_first}

-- what `then_some` gave, and gives
pub then_some_is : {X : Type 0} (b : Bool) (x y : X) → then_some b x ≡ Some y → (b ≡ true) × (x ≡ y)
then_some_is true x y e = (refl, cc)
then_some_is false x y e = absurd cc

pub then_some_again : {X : Type 0} (b : Bool) (x : X) → b ≡ true → then_some b x ≡ Some x
then_some_again true x t = refl
then_some_again false x t = absurd (false≢true t)

-- lengths of labels
label_length : (label : List ℕ) → has_label_length label ≡ true → HasLabelLength label
label_length label t =
    let a = and_parts (nat_lt 0 (length label)) (nat_le (length label) 63) t in
    (ltb-true 0 (length label) a.0, leb-true (length label) 63 a.1)

label_length_test : (label : List ℕ) → HasLabelLength label → has_label_length label ≡ true
label_length_test label h =
    and_from (nat_lt 0 (length label)) (nat_le (length label) 63) (lt-ltb 0 (length label) h.0) (le-leb (length label) 63 h.1)

-- the last label
last_test : (before : List (List ℕ)) (label : List ℕ) → ends_in_number (before ++ label ∷ []) ≡ list_all is_ascii_digit label
last_test [] label = refl
last_test (one ∷ []) label = refl
last_test (one ∷ next ∷ before) label = last_test (next ∷ before) label

pub record EndsInNumber (parts : List (List ℕ)) : Type 0 where
  pub before : List (List ℕ)
  pub label : List ℕ
  pub joined : parts ≡ before ++ label ∷ []
  pub digits : AllPass is_ascii_digit label

number_last : (parts : List (List ℕ)) → ends_in_number parts ≡ true → EndsInNumber parts
number_last [] t = absurd (false≢true t)
number_last (label ∷ []) t = record { before = []; label = label; joined = refl; digits = AllPass-from_list_all is_ascii_digit label t }
number_last (label ∷ next ∷ parts) t =
    let rest = number_last (next ∷ parts) t in
    record { before = label ∷ rest.before; label = rest.label; joined = ap (λ (l : List (List ℕ)). label ∷ l) rest.joined; digits = rest.digits }

no_number : (text : List ℕ) → ends_in_number (dotted_parts text) ≡ false → (at : ℕ) → IsNumberAt text at → ⊥
no_number text f at number =
    let p = number.0 in
    let e : dotted_parts text ≡ p.before ++ p.part ∷ [] = p.cut ∙ ap (λ (l : List (List ℕ)). p.before ++ p.part ∷ l) number.1 in
    both_ways (ends_in_number (dotted_parts text)) f
    (ap ends_in_number e ∙ (last_test p.before p.part ∙ list_all-from_AllPass is_ascii_digit p.part number.2))

no_number_test : (text : List ℕ) → ((at : ℕ) → IsNumberAt text at → ⊥) → ends_in_number (dotted_parts text) ≡ false
no_number_test text none = false_from_ne_true (ends_in_number (dotted_parts text)) (λ t.
    let n = number_last (dotted_parts text) t in
    none (sum_by octets_and_dot n.before) (record { before = n.before; part = n.label; behind = []; cut = n.joined; place = refl }, refl, n.digits))

pub host_test_is_exact : HostTestIsExact
unfolding is_host
host_test_is_exact text =
    let octets = list_all is_host_octet text in
    let labels = list_all has_label_length (dotted_parts text) in
    let short = nat_le (length text) 253 in
    let number = ends_in_number (dotted_parts text) in (
      λ t.
          let a = and_parts octets (labels && (short && not number)) t in
          let b = and_parts labels (short && not number) a.1 in
          let c = and_parts short (not number) b.1 in
          record {
            octets = AllPass-from_list_all is_host_octet text a.0;
            labels = All-weaker (λ label. has_label_length label ≡ true) HasLabelLength label_length (dotted_parts text)
                (AllPass-from_list_all has_label_length (dotted_parts text) b.0);
            short = leb-true (length text) 253 c.0;
            no_number = no_number text (not-true number c.1);
          },
      λ h.
          and_from octets (labels && (short && not number)) (list_all-from_AllPass is_host_octet text h.octets)
          (and_from labels (short && not number)
          (list_all-from_AllPass has_label_length (dotted_parts text)
          (All-weaker HasLabelLength (λ label. has_label_length label ≡ true) label_length_test (dotted_parts text) h.labels))
          (and_from short (not number) (le-leb (length text) 253 h.short) (not_from_false number (no_number_test text h.no_number)))),
    )

pub same_tests : (s t : Bool) → (s ≡ true → t ≡ true) → (t ≡ true → s ≡ true) → s ≡ t
same_tests true t f g = sym (f refl)
same_tests false true f g = g refl
same_tests false false f g = refl

pub host_decided : (text : List ℕ) (b : Bool) → (IsTrue b ↔ IsHost text) → b ≡ is_host text
host_decided text b e =
    let exact = host_test_is_exact text in
    same_tests b (is_host text) (λ t. exact.1 (e.0 t)) (λ t. e.1 (exact.0 t))

pub no_empty_host : is_host [] ≡ true → ⊥
unfolding is_host
no_empty_host t = false≢true t

-- bases
base_from : (base : List ℕ) (names : HostNames) → host_base_of base ≡ Some names → AreHostsOf base names
unfolding host_base_of
base_from [] names e = absurd cc
base_from (octet ∷ text) names e =
    elim (cases_eq octet 46) [
      | inl dot ↦
          let f : then_some (is_host text) (hosts_below text) ≡ Some names = rw (eq-eqb octet 46 dot) at e in
          let s = then_some_is (is_host text) (hosts_below text) names f in
          subst (AreHostsOf (octet ∷ text)) s.1 (ap (λ (o : ℕ). o ∷ text) dot, (host_test_is_exact text).0 s.0)
      | inr no_dot ↦
          let f : then_some (is_host (octet ∷ text)) (one_host (octet ∷ text)) ≡ Some names = rw (ne_eqb octet 46 no_dot) at e in
          let s = then_some_is (is_host (octet ∷ text)) (one_host (octet ∷ text)) names f in
          subst (AreHostsOf (octet ∷ text)) s.1 (refl, (host_test_is_exact (octet ∷ text)).0 s.0)
    ]

host_again : (text : List ℕ) → IsHost text → host_base_of text ≡ Some (one_host text)
unfolding host_base_of
host_again [] h = absurd (no_empty_host ((host_test_is_exact []).1 h))
host_again (octet ∷ text) h =
    elim (cases_eq octet 46) [
      | inl dot ↦ absurd (no_dot_first text (subst IsHost (ap (λ (o : ℕ). o ∷ text) dot) h))
      | inr no_dot ↦ let t = (host_test_is_exact (octet ∷ text)).1 h in rw (ne_eqb octet 46 no_dot, t) refl
    ]

domain_again : (domain : List ℕ) → IsHost domain → host_base_of (46 ∷ domain) ≡ Some (hosts_below domain)
unfolding host_base_of
domain_again domain h = then_some_again (is_host domain) (hosts_below domain) ((host_test_is_exact domain).1 h)

base_again : (base : List ℕ) (names : HostNames) → AreHostsOf base names → host_base_of base ≡ Some names
base_again base (one_host host) h = ap host_base_of h.0 ∙ host_again host h.1
base_again base (hosts_below domain) h = ap host_base_of h.0 ∙ domain_again domain h.1

pub host_base_is_exact : HostBaseIsExact
host_base_is_exact base names = (base_from base names, base_again base names)
