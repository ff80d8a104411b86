-- The laws of bases on hosts.
use Rattle.std.proofs.Common.{◌≡◌, ◌≤◌, ℕ, List, [], ◌∷◌, ◌++◌, length, get_or, false, refl, sym, ◌∙◌, ap, subst, inl, inr, arith, append_assoc, length-append}
use Rattle.std.specs.List.{slice_split}
use Rattle.std.proofs.lemmas.Bool.{cases_lt}
use Rattle.std.proofs.lemmas.List.Splits.{slice_split-cons_no}
use Rattle.names.specs.Dns.{labels, is_dot, EndsIn, EndsInMore}
use Rattle.names_identity.specs.Host.{IsHost}
use Rattle.names_identity.specs.Identity.{folded}
use Rattle.names_hosts.specs.Hosts.{HostNames, one_host, hosts_below, IsAmongHosts, AreHostsInside}
use Rattle.names_hosts.specs.Laws.{HostBaseIsOne, HostsInsideIsExact, SharedHostsAreNested}
use Rattle.names_hosts.proofs.HostTexts.{no_dot_first}

pub host_base_is_one : HostBaseIsOne
host_base_is_one base (one_host s) (one_host t) a b = ap (λ (l : List ℕ). one_host l) (sym a.0 ∙ b.0)
host_base_is_one base (one_host s) (hosts_below t) a b = absurd (no_dot_first t (subst IsHost (sym a.0 ∙ b.0) a.1))
host_base_is_one base (hosts_below s) (one_host t) a b = absurd (no_dot_first s (subst IsHost (sym b.0 ∙ a.0) b.1))
host_base_is_one base (hosts_below s) (hosts_below t) a b =
    let e : 46 ∷ s ≡ 46 ∷ t = sym a.0 ∙ b.0 in
    let f : s ≡ t = cc in
    ap (λ (l : List ℕ). hosts_below l) f

-- what ends in more than a list that ends in another ends in more than that one
more_of : (x s t : List (List ℕ)) → EndsIn s t → EndsInMore x s → EndsInMore x t
more_of x s t a b = record {
  first = b.first;
  front = b.front ++ a.front;
  joined = b.joined ∙ (ap (λ (l : List (List ℕ)). (b.first ∷ b.front) ++ l) a.joined ∙ sym (append_assoc (b.first ∷ b.front) a.front t));
}

-- of two ends of one list the shorter is an end of the other
shorter_end : (xs f s g t : List (List ℕ)) → xs ≡ f ++ s → xs ≡ g ++ t → length t ≤ length s → EndsIn s t
shorter_end xs [] s [] t a b le = record { front = []; joined = sym a ∙ b }
shorter_end xs [] s (y ∷ g) t a b le = record { front = y ∷ g; joined = sym a ∙ b }
shorter_end xs (x ∷ f) s [] t a b le = absurd (omega (arith, ap length (sym a ∙ b), length-append f s))
shorter_end [] (x ∷ f) s (y ∷ g) t a b le = cc
shorter_end (z ∷ xs) (x ∷ f) s (y ∷ g) t a b le =
    let p : xs ≡ f ++ s = cc in
    let q : xs ≡ g ++ t = cc in
    shorter_end xs f s g t p q le

-- a host of one label more
more_labels : (c : ℕ) (s : List ℕ) → is_dot c ≡ false → folded (c ∷ 46 ∷ s) ≡ c ∷ 46 ∷ folded s → labels (c ∷ 46 ∷ s) ≡ (c ∷ []) ∷ labels s
more_labels c s apart e =
    ap (λ (l : List ℕ). slice_split is_dot l) e
    ∙ slice_split-cons_no is_dot c (46 ∷ folded s) apart

sound : (x : List ℕ) (s t : HostNames) → AreHostsInside s t → IsAmongHosts x s → IsAmongHosts x t
sound x (one_host s) (one_host t) h k = k ∙ h
sound x (one_host s) (hosts_below t) h k = subst (λ (l : List (List ℕ)). EndsInMore l (labels t)) (sym k) h
sound x (hosts_below s) (one_host t) h k = absurd h
sound x (hosts_below s) (hosts_below t) h k = more_of (labels x) (labels s) (labels t) h k

-- 97 and 98 are letters
one_more : (s : List ℕ) → labels (97 ∷ 46 ∷ s) ≡ (97 ∷ []) ∷ labels s
one_more s = more_labels 97 s refl refl

other_more : (s : List ℕ) → labels (98 ∷ 46 ∷ s) ≡ (98 ∷ []) ∷ labels s
other_more s = more_labels 98 s refl refl

below : (s : List ℕ) (c : ℕ) → labels (c ∷ 46 ∷ s) ≡ (c ∷ []) ∷ labels s → EndsInMore (labels (c ∷ 46 ∷ s)) (labels s)
below s c e = record { first = c ∷ []; front = []; joined = e }

rest_ends : (first : List ℕ) (front s t x : List (List ℕ)) (a : List ℕ) → x ≡ a ∷ s → x ≡ (first ∷ front) ++ t → EndsIn s t
rest_ends first front s t x a e f = record { front = front; joined = cc }

two_hosts : (s t x y : List (List ℕ)) → x ≡ (97 ∷ []) ∷ s → y ≡ (98 ∷ []) ∷ s → x ≡ t → y ≡ t → ⊥
two_hosts s t x y a b p q =
    let e : (97 ∷ []) ∷ s ≡ (98 ∷ []) ∷ s = sym a ∙ (p ∙ (sym q ∙ b)) in
    let n : 97 ≡ 98 = ap (λ (l : List (List ℕ)). get_or (get_or l 0 []) 0 0) e in
    omega (arith, n)

complete : (s t : HostNames) → ((x : List ℕ) → IsAmongHosts x s → IsAmongHosts x t) → AreHostsInside s t
complete (one_host s) (one_host t) all = all s refl
complete (one_host s) (hosts_below t) all = all s refl
complete (hosts_below s) (one_host t) all =
    two_hosts (labels s) (labels t) (labels (97 ∷ 46 ∷ s)) (labels (98 ∷ 46 ∷ s)) (one_more s) (other_more s)
    (all (97 ∷ 46 ∷ s) (below s 97 (one_more s))) (all (98 ∷ 46 ∷ s) (below s 98 (other_more s)))
complete (hosts_below s) (hosts_below t) all =
    let m = all (97 ∷ 46 ∷ s) (below s 97 (one_more s)) in
    rest_ends m.first m.front (labels s) (labels t) (labels (97 ∷ 46 ∷ s)) (97 ∷ []) (one_more s) m.joined

pub hosts_inside_is_exact : HostsInsideIsExact
hosts_inside_is_exact s t = (λ h x k. sound x s t h k, complete s t)

pub shared_hosts_are_nested : SharedHostsAreNested
shared_hosts_are_nested x (one_host s) (one_host t) a b = inl (sym a ∙ b)
shared_hosts_are_nested x (one_host s) (hosts_below t) a b = inl (subst (λ (l : List (List ℕ)). EndsInMore l (labels t)) a b)
shared_hosts_are_nested x (hosts_below s) (one_host t) a b = inr (subst (λ (l : List (List ℕ)). EndsInMore l (labels s)) b a)
shared_hosts_are_nested x (hosts_below s) (hosts_below t) a b =
    elim (cases_lt (length (labels s)) (length (labels t))) [
      | inl lt ↦ inr (shorter_end (labels x) (b.first ∷ b.front) (labels t) (a.first ∷ a.front) (labels s) b.joined a.joined (omega arith))
      | inr le ↦ inl (shorter_end (labels x) (a.first ∷ a.front) (labels s) (b.first ∷ b.front) (labels t) a.joined b.joined le)
    ]

-- a base has a host
pub a_host : (s : HostNames) → (x : List ℕ) × IsAmongHosts x s
a_host (one_host s) = (s, refl)
a_host (hosts_below s) = (97 ∷ 46 ∷ s, below s 97 (one_more s))
