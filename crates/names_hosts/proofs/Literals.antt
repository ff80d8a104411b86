-- Address literals are none of the hosts of a base: a literal ends in a bracket, and no host does.
use Rattle.std.proofs.Common.{◌≡◌, ◌≢◌, ◌<◌, ◌+◌, ◌-◌, ℕ, List, [], ◌∷◌, ◌++◌, length, get_or, map, nat_lt, true, refl, sym, ◌∙◌, ap, inl, inr, arith, append_assoc}
use Rattle.std.specs.List.{join_with_byte}
use Rattle.std.specs.Char.{to_ascii_lowercase}
use Rattle.std.proofs.lemmas.Bool.{cases_lt, cond-true, cond-false, lt-ltb, le-ltb, both_ways}
use Rattle.std.proofs.lemmas.List.{get_or-append-add, length-append, map-append}
use Rattle.std.proofs.lemmas.List.Elements.{All-map, All-weaker}
use Rattle.names.specs.Dns.{labels, EndsInMore}
use Rattle.names_identity.specs.Host.{IsHost, is_host_octet}
use Rattle.names_hosts.specs.Hosts.{one_host, hosts_below}
use Rattle.names_hosts.specs.Mail.{IsAddressLiteral}
use Rattle.names_hosts.specs.Laws.{LiteralsAreAtNoHosts}
use Rattle.names_hosts.proofs.HostTexts.{same_folded, joined_labels}
use Rattle.names_hosts.proofs.HostTests.{host_test_is_exact, no_empty_host}
use Rattle.names_hosts.proofs.LastSplits.{Differ}

abbrev folded : List ℕ → List ℕ
folded text = map to_ascii_lowercase text

ends_apart : (front back other : List ℕ) (x : ℕ) → 0 < length back → Differ x back → front ++ back ≡ other ++ x ∷ [] → ⊥
ends_apart front back other x some none e =
    let long : length front + length back ≡ length other + 1 = sym (length-append front back) ∙ (ap length e ∙ length-append other (x ∷ [])) in
    let last = length back - 1 in
    let place : length front + last ≡ length other + 0 = omega (arith, long, some) in
    let found : get_or back last 0 ≡ x =
    sym (get_or-append-add front back last 0)
    ∙ (ap (λ (l : List ℕ). get_or l (length front + last) 0) e
    ∙ (ap (λ (n : ℕ). get_or (other ++ x ∷ []) n 0) place ∙ get_or-append-add other (x ∷ []) 0 0)) in
    none last 0 (omega (arith, some)) found

-- the bracket is no small letter
lower_bracket : (octet : ℕ) → to_ascii_lowercase octet ≡ 93 → octet ≡ 93
lower_bracket octet e =
    elim (cases_lt octet 65) [
      | inl low ↦ sym (cond-true (nat_lt octet 65) octet _ (lt-ltb octet 65 low)) ∙ e
      | inr high ↦
          let f = sym (cond-false (nat_lt octet 65) octet _ (le-ltb octet 65 high)) ∙ e in
          elim (cases_lt octet 91) [
            | inl letter ↦
                let g : octet + 32 ≡ 93 = sym (cond-true (nat_lt octet 91) (octet + 32) octet (lt-ltb octet 91 letter)) ∙ f in
                absurd (omega (arith, g, high))
            | inr other ↦ sym (cond-false (nat_lt octet 91) (octet + 32) octet (le-ltb octet 91 other)) ∙ f
          ]
    ]

host_has_none : (host : List ℕ) → IsHost host → Differ 93 (folded host)
host_has_none host h =
    All-map (λ o. o ≢ 93) to_ascii_lowercase host
    (All-weaker (λ o. is_host_octet o ≡ true) (λ o. to_ascii_lowercase o ≢ 93)
    (λ o t e. both_ways (is_host_octet o) (ap is_host_octet (lower_bracket o e)) t) host h.octets)

some_octet : (host : List ℕ) → IsHost host → 0 < length (folded host)
some_octet [] h = absurd (no_empty_host ((host_test_is_exact []).1 h))
some_octet (octet ∷ host) h = omega arith

-- the last of the labels, joined
record IsJoinedBehind (parts more : List (List ℕ)) : Type 0 where
  front : List ℕ
  joined : join_with_byte 46 (parts ++ more) ≡ front ++ join_with_byte 46 more

joined_behind : (parts : List (List ℕ)) (one : List ℕ) (more : List (List ℕ)) → IsJoinedBehind parts (one ∷ more)
joined_behind [] one more = record { front = []; joined = refl }
joined_behind (part ∷ []) one more =
    record { front = part ++ 46 ∷ []; joined = sym (append_assoc part (46 ∷ []) (join_with_byte 46 (one ∷ more))) }
joined_behind (part ∷ next ∷ parts) one more =
    let later = joined_behind (next ∷ parts) one more in
    record {
      front = part ++ 46 ∷ later.front;
      joined =
          ap (λ (l : List ℕ). part ++ 46 ∷ l) later.joined
          ∙ sym (append_assoc part (46 ∷ later.front) (join_with_byte 46 (one ∷ more)));
    }

literal_folded : (literal : List ℕ) (l : IsAddressLiteral literal) → folded literal ≡ folded (91 ∷ l.inside) ++ 93 ∷ []
literal_folded literal l = ap folded l.joined ∙ map-append to_ascii_lowercase (91 ∷ l.inside) (93 ∷ [])

below :
    (literal domain : List ℕ) (l : IsAddressLiteral literal) (parts : List (List ℕ)) → IsHost domain → labels domain ≡ parts →
    EndsInMore (labels literal) parts → ⊥
below literal domain l [] h e m = some_labels (joined_labels domain) (some_octet domain h)
  where
    some_labels : join_with_byte 46 (labels domain) ≡ folded domain → 0 < length (folded domain) → ⊥
    some_labels f s = let g : [] ≡ folded domain = sym (ap (join_with_byte 46) e) ∙ f in omega (arith, ap length g, s)
below literal domain l (one ∷ more) h e m =
    let behind = joined_behind (m.first ∷ m.front) one more in
    let domain_is : join_with_byte 46 (one ∷ more) ≡ folded domain = sym (ap (join_with_byte 46) e) ∙ joined_labels domain in
    ends_apart behind.front (folded domain) (folded (91 ∷ l.inside)) 93 (some_octet domain h) (host_has_none domain h)
    (ap (λ (t : List ℕ). behind.front ++ t) (sym domain_is)
    ∙ (sym behind.joined ∙ (sym (ap (join_with_byte 46) m.joined) ∙ (joined_labels literal ∙ literal_folded literal l))))

pub literals_are_at_no_hosts : LiteralsAreAtNoHosts
literals_are_at_no_hosts literal base (one_host host) l h among =
    ends_apart [] (folded host) (folded (91 ∷ l.inside)) 93 (some_octet host h.1) (host_has_none host h.1)
    (sym (same_folded literal host among) ∙ literal_folded literal l)
literals_are_at_no_hosts literal base (hosts_below domain) l h among = below literal domain l (labels domain) h.1 refl among
