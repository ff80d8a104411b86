-- The functions of mail addresses, and of the bases of constraints on them, are exact.
use Rattle.std.proofs.Common.{◌≡◌, ◌≢◌, ℕ, List, [], ◌∷◌, ◌++◌, length, Bool, true, false, nat_lt, ◌||◌, Option, Some, None, refl, sym, ◌∙◌, ap, subst, inl, inr, arith}
use Rattle.std.specs.Prelude.{◌⊎◌, IfSome, option_map}
use Rattle.std.specs.List.{list_all}
use Rattle.std.proofs.lemmas.Bool.{and_parts, and_from, ltb-true, lt-ltb, or_cases, or_left, or_right}
use Rattle.std.proofs.lemmas.List.Elements.{All-head, All-tail, All-cons, All-append}
use Rattle.std.proofs.lemmas.List.Sums.{AllPass-from_list_all, list_all-from_AllPass}
use Rattle.names_identity.specs.Host.{IsHost, is_host_octet}
use Rattle.names_hosts.specs.Hosts.{HostNames, one_host, hosts_below, AreHostsOf, is_host, host_base_of}
use Rattle.names_hosts.specs.LocalPart.{unquoted, local_contents}
use Rattle.names_hosts.specs.declared.mail.MailName.{MailName}
use Rattle.names_hosts.specs.Mail.{MailText, mail_text, MailNames, one_mailbox, mail_at, is_literal_octet, IsAddressLiteral, is_literal_inside, is_address_literal, IsMailName, IsMailOf, mail_of_parts, mail_of_split, mail_of, mail_or_hosts, mail_base_of}
use Rattle.names_hosts.specs.Splits.{last_split, between}
use Rattle.names_hosts.specs.Laws.{MailNameIsExact, MailBaseIsExact, MailNameIsOne, MailBaseIsOne}
use Rattle.names_hosts.proofs.HostLaws.{host_base_is_one}
use Rattle.names_hosts.proofs.HostTests.{then_some_is, then_some_again, host_test_is_exact, host_base_is_exact}
use Rattle.names_hosts.proofs.LastSplits.{Differ, differ, split_is, split_from, between_from, between_again}
use Rattle.names_hosts.proofs.LocalParts.{local_from, local_again}
use Rattle.names_hosts.proofs.UriTexts.{some_same}

-- address literals
literal_inside : (text : List ℕ) (inside : Option (List ℕ)) → between 91 93 text ≡ inside → is_literal_inside inside ≡ true → IsAddressLiteral text
literal_inside text None is t = absurd cc
literal_inside text (Some inside) is t =
    let a = and_parts (nat_lt 0 (length inside)) (list_all is_literal_octet inside) t in
    record {
      inside = inside;
      joined = between_from 91 93 text inside is;
      some = ltb-true 0 (length inside) a.0;
      octets = AllPass-from_list_all is_literal_octet inside a.1;
    }

literal_from : (text : List ℕ) → is_address_literal text ≡ true → IsAddressLiteral text
unfolding is_address_literal
literal_from text t = literal_inside text (between 91 93 text) refl t

literal_again : (text : List ℕ) → IsAddressLiteral text → is_address_literal text ≡ true
unfolding is_address_literal
literal_again text l =
    ap is_literal_inside (between_again 91 93 text l.inside l.joined)
    ∙ and_from (nat_lt 0 (length l.inside)) (list_all is_literal_octet l.inside) (lt-ltb 0 (length l.inside) l.some)
    (list_all-from_AllPass is_literal_octet l.inside l.octets)

-- what stands behind the at sign has none itself
host_from : (host : List ℕ) → (is_host host || is_address_literal host) ≡ true → IsHost host ⊎ IsAddressLiteral host
host_from host t =
    elim (or_cases (is_host host) (is_address_literal host) t) [
      | inl h ↦ inl ((host_test_is_exact host).0 h)
      | inr l ↦ inr (literal_from host l)
    ]

host_again : (host : List ℕ) → IsHost host ⊎ IsAddressLiteral host → (is_host host || is_address_literal host) ≡ true
host_again host h =
    elim h [
      | inl h ↦ or_left (is_host host) (is_address_literal host) ((host_test_is_exact host).1 h)
      | inr l ↦ or_right (is_host host) (is_address_literal host) (literal_again host l)
    ]

differ_sign : (x mark : ℕ) → x ≢ mark → Differ mark (x ∷ [])
differ_sign x mark h = All-cons (λ o. o ≢ mark) x [] h (λ k d below. absurd (omega (arith, below)))

no_at_behind : (host : List ℕ) → IsHost host ⊎ IsAddressLiteral host → Differ 64 host
no_at_behind host h =
    elim h [
      | inl h ↦ differ is_host_octet 64 host refl h.octets
      | inr l ↦ subst (Differ 64) (sym l.joined)
          (All-cons (λ o. o ≢ 64) 91 (l.inside ++ 93 ∷ []) (λ e. omega (arith, e))
          (All-append (λ o. o ≢ 64) l.inside (93 ∷ []) (differ is_literal_octet 64 l.inside refl l.octets) (differ_sign 93 64 (λ e. omega (arith, e)))))
    ]

-- mail addresses
parts_from :
    (utf8 : Bool) (text part host : List ℕ) (name : MailText) (local : Option (List ℕ)) → text ≡ part ++ 64 ∷ host →
    local_contents utf8 part ≡ local → mail_of_parts local host ≡ Some name → IsMailName utf8 text name
parts_from utf8 text part host name None joined is e = absurd cc
parts_from utf8 text part host name (Some contents) joined is e =
    let found : MailText = record { local = unquoted contents; host = host } in
    let s = then_some_is (is_host host || is_address_literal host) found name e in
    let m : IsMailName utf8 text found = record {
      part = part;
      joined = joined;
      local = local_from utf8 part contents is;
      behind = host_from host s.0;
    } in
    subst (IsMailName utf8 text) s.1 m

split_name : (utf8 : Bool) (text : List ℕ) (name : MailText) (parts : Option (List ℕ × List ℕ)) → last_split 64 text ≡ parts → mail_of_split utf8 parts ≡ Some name → IsMailName utf8 text name
split_name utf8 text name None is e = absurd cc
split_name utf8 text name (Some parts) is e =
    let s = split_from 64 text parts.0 parts.1 is in
    parts_from utf8 text parts.0 parts.1 name (local_contents utf8 parts.0) s.joined refl e

name_from : (utf8 : Bool) (text : List ℕ) (name : MailText) → mail_of utf8 text ≡ Some name → IsMailName utf8 text name
unfolding mail_of
name_from utf8 text name e = split_name utf8 text name (last_split 64 text) refl e

abbrev mail : List ℕ → List ℕ → MailText
mail local host = record { local = local; host = host }

name_again : (utf8 : Bool) (text : List ℕ) (name : MailText) → IsMailName utf8 text name → mail_of utf8 text ≡ Some name
unfolding mail_of
name_again utf8 text name m =
    let cut = split_is 64 text m.part name.host (record { joined = m.joined; none = no_at_behind name.host m.behind }) in
    let h = local_again utf8 m.part name.local m.local in
    let found : MailText = record { local = unquoted h.contents; host = name.host } in
    let same : found ≡ name = ap (λ (l : List ℕ). mail l name.host) h.value_is in
    ap (mail_of_split utf8) cut
    ∙ (ap (λ (l : Option (List ℕ)). mail_of_parts l name.host) h.found
    ∙ (then_some_again (is_host name.host || is_address_literal name.host) found (host_again name.host m.behind)
    ∙ ap (λ (n : MailText). Some n) same))

pub mail_name_is_exact : MailNameIsExact
mail_name_is_exact utf8 text name = (name_from utf8 text name, name_again utf8 text name)

pub mail_name_is_one : MailNameIsOne
mail_name_is_one utf8 text one other a b = some_same one other (sym (name_again utf8 text one a) ∙ name_again utf8 text other b)

-- what the code reads
pub name_reads : (utf8 : Bool) (text : List ℕ) (found : Option MailName) → option_map mail_text found ≡ mail_of utf8 text → IfSome found (λ name. IsMailName utf8 text (mail_text name))
name_reads utf8 text None e = tt
name_reads utf8 text (Some name) e = name_from utf8 text (mail_text name) (sym e)

-- no base is a mail address and hosts
hosts_have_no_at : (base : List ℕ) (hosts : HostNames) → AreHostsOf base hosts → Differ 64 base
hosts_have_no_at base (one_host host) h = subst (Differ 64) (sym h.0) (differ is_host_octet 64 host refl h.1.octets)
hosts_have_no_at base (hosts_below domain) h =
    subst (Differ 64) (sym h.0) (All-cons (λ o. o ≢ 64) 46 domain (λ e. omega (arith, e)) (differ is_host_octet 64 domain refl h.1.octets))

at_is_there : (part behind : List ℕ) → Differ 64 (part ++ 64 ∷ behind) → ⊥
at_is_there [] behind none = All-head (λ o. o ≢ 64) 64 behind none refl
at_is_there (octet ∷ part) behind none = at_is_there part behind (All-tail (λ o. o ≢ 64) octet (part ++ 64 ∷ behind) none)

not_both : (base : List ℕ) (name : MailText) (hosts : HostNames) → IsMailName false base name → AreHostsOf base hosts → ⊥
not_both base name hosts m h = at_is_there m.part name.host (subst (Differ 64) m.joined (hosts_have_no_at base hosts h))

pub mail_base_is_one : MailBaseIsOne
mail_base_is_one base (one_mailbox s) (one_mailbox t) a b = ap (λ (m : MailText). one_mailbox m) (mail_name_is_one false base s t a b)
mail_base_is_one base (one_mailbox s) (mail_at t) a b = absurd (not_both base s t a b)
mail_base_is_one base (mail_at s) (one_mailbox t) a b = absurd (not_both base t s b a)
mail_base_is_one base (mail_at s) (mail_at t) a b = ap (λ (h : HostNames). mail_at h) (host_base_is_one base s t a b)

-- bases
some_at : (hosts : Option HostNames) (names : MailNames) → option_map mail_at hosts ≡ Some names → (h : HostNames) × (hosts ≡ Some h) × (mail_at h ≡ names)
some_at None names e = absurd cc
some_at (Some h) names e = (h, refl, cc)

base_from : (base : List ℕ) (name : Option MailText) (names : MailNames) → mail_of false base ≡ name
    → mail_or_hosts name (host_base_of base) ≡ Some names → IsMailOf base names
base_from base (Some name) names is e =
    let same : one_mailbox name ≡ names = cc in
    subst (IsMailOf base) same (name_from false base name is)
base_from base None names is e =
    let s = some_at (host_base_of base) names e in
    subst (IsMailOf base) s.2 ((host_base_is_exact base s.0).0 s.1)

-- a base of hosts is no mail address
no_name : (base : List ℕ) (hosts : HostNames) (name : Option MailText) → mail_of false base ≡ name → IsMailOf base (mail_at hosts) → name ≡ None
no_name base hosts None is h = refl
no_name base hosts (Some name) is h = absurd (not_both base name hosts (name_from false base name is) h)

base_again : (base : List ℕ) (names : MailNames) → IsMailOf base names → mail_base_of base ≡ Some names
unfolding mail_base_of
base_again base (one_mailbox name) h =
    ap (λ (n : Option MailText). mail_or_hosts n (host_base_of base)) (name_again false base name h)
base_again base (mail_at hosts) h =
    ap (λ (n : Option MailText). mail_or_hosts n (host_base_of base)) (no_name base hosts (mail_of false base) refl h)
    ∙ ap (λ (o : Option HostNames). option_map mail_at o) ((host_base_is_exact base hosts).1 h)

pub mail_base_is_exact : MailBaseIsExact
unfolding mail_base_of
mail_base_is_exact base names = (base_from base (mail_of false base) names refl, base_again base names)
