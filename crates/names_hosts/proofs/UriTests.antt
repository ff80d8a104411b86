-- The function that finds the host of a URI is exact.
use Rattle.std.proofs.Common.{◌≡◌, ℕ, List, [], ◌∷◌, ◌++◌, Bool, true, false, ◌==◌, ◌&&◌, Option, Some, None, refl, sym, ◌∙◌, ap, subst, inl, inr, append-nil, if◌then◌else◌}
use Rattle.std.specs.Bool.{then_some}
use Rattle.std.specs.Option.{option_and_then}
use Rattle.std.specs.List.{list_all, list_any}
use Rattle.std.specs.Char.{is_ascii_digit, is_ascii_alphabetic}
use Rattle.std.proofs.lemmas.Bool.{and_parts, and_from, eqb-true}
use Rattle.std.proofs.lemmas.List.Sums.{AllPass-from_list_all, list_all-from_AllPass}
use Rattle.names_hosts.specs.Uri.{is_one_of, HasNone, IsCut, is_scheme_octet, IsScheme, authority_ends, IsBehindScheme, HasAuthority, is_user_octet, IsUserAt, IsBehindUser, IsHostAndPort, IsHostOfAuthority, IsHostOfUri, colon, at_sign, before_any, behind_any, is_scheme, behind_slashes, behind_scheme, behind_user, is_fully_qualified, before_port, host_in, uri_host}
use Rattle.names_hosts.specs.Laws.{UriHostIsExact}
use Rattle.names_hosts.proofs.HostTests.{then_some_is, then_some_again}
use Rattle.names_hosts.proofs.UriTexts.{is_stop, scheme_has_no_colon, at_user, behind_at_sign, host_cut, rest_has_no_at}
use Rattle.names_hosts.proofs.FullNames.{full_test}
use Rattle.names_hosts.proofs.FirstCuts.{cases_cut, parts_of, parts_of_whole, front_of, has_one, has_none}

-- a step behind another
then_from : {X Y : Type 0} (f : X → Option Y) (o : Option X) (y : Y) → option_and_then f o ≡ Some y → (x : X) × (o ≡ Some x) × (f x ≡ Some y)
then_from f None y e = absurd cc
then_from f (Some x) y e = (x, refl, e)

-- schemes
scheme_from : (text : List ℕ) → is_scheme text ≡ true → IsScheme text
scheme_from [] t = absurd cc
scheme_from (first ∷ rest) t =
    let a = and_parts (is_ascii_alphabetic first) (list_all is_scheme_octet rest) t in
    record { first = first; rest = rest; joined = refl; letter = a.0; others = AllPass-from_list_all is_scheme_octet rest a.1 }

scheme_again : (text : List ℕ) → IsScheme text → is_scheme text ≡ true
scheme_again text s =
    ap is_scheme s.joined
    ∙ and_from (is_ascii_alphabetic s.first) (list_all is_scheme_octet s.rest) s.letter (list_all-from_AllPass is_scheme_octet s.rest s.others)

slashes_from : (text rest : List ℕ) → behind_slashes text ≡ Some rest → text ≡ 47 ∷ 47 ∷ rest
slashes_from [] rest e = absurd cc
slashes_from (one ∷ []) rest e = absurd cc
slashes_from (one ∷ other ∷ text) rest e =
    let s = then_some_is (one == 47 && other == 47) text rest e in
    let a = and_parts (one == 47) (other == 47) s.0 in
    ap (λ (o : ℕ). o ∷ other ∷ text) (eqb-true one 47 a.0)
    ∙ (ap (λ (o : ℕ). 47 ∷ o ∷ text) (eqb-true other 47 a.1) ∙ ap (λ (l : List ℕ). 47 ∷ 47 ∷ l) s.1)

if_from : {X : Type 0} (b : Bool) (o : Option X) (x : X) → (if b then o else None) ≡ Some x → (b ≡ true) × (o ≡ Some x)
if_from true o x e = (refl, e)
if_from false o x e = absurd cc

if_again : {X : Type 0} (b : Bool) (o other : Option X) → b ≡ true → (if b then o else other) ≡ o
if_again true o other t = refl
if_again false o other t = absurd cc

if_not : {X : Type 0} (b : Bool) (o other : Option X) → b ≡ false → (if b then o else other) ≡ other
if_not true o other f = absurd cc
if_not false o other f = refl

-- a text that has something behind a colon
behind_colon : (uri more : List ℕ) (c : ℕ) → behind_any colon uri ≡ c ∷ more → uri ≡ before_any colon uri ++ 58 ∷ c ∷ more
behind_colon uri more c e =
    elim (cases_cut colon uri) [
      | inl has ↦
          has.cut.joined
          ∙ (ap (λ (o : ℕ). before_any colon uri ++ o ∷ behind_any colon uri) (is_stop 58 has.first has.cut.stops)
          ∙ ap (λ (l : List ℕ). before_any colon uri ++ 58 ∷ l) e)
      | inr whole ↦ let never : [] ≡ c ∷ more = sym whole.behind ∙ e in absurd cc
    ]

behind_scheme_from : (uri rest : List ℕ) → behind_scheme uri ≡ Some rest → IsBehindScheme uri rest
behind_scheme_from uri rest e =
    let s = if_from (is_scheme (before_any colon uri)) (behind_slashes (behind_any colon uri)) rest e in
    record {
      scheme = before_any colon uri;
      joined = behind_colon uri (47 ∷ rest) 47 (slashes_from (behind_any colon uri) rest s.1);
      is_scheme = scheme_from (before_any colon uri) s.0;
    }

behind_scheme_again : (uri rest : List ℕ) → IsBehindScheme uri rest → behind_scheme uri ≡ Some rest
behind_scheme_again uri rest b =
    let cut : IsCut colon uri b.scheme (58 ∷ 47 ∷ 47 ∷ rest) =
    record { joined = b.joined; none = scheme_has_no_colon b.scheme b.is_scheme; stops = refl } in
    let parts = parts_of colon uri b.scheme (47 ∷ 47 ∷ rest) 58 cut in
    if_again (is_scheme (before_any colon uri)) (behind_slashes (behind_any colon uri)) None
    (ap is_scheme parts.0 ∙ scheme_again b.scheme b.is_scheme)
    ∙ ap behind_slashes parts.1

-- the authority
authority_at : (uri rest : List ℕ) → IsBehindScheme uri rest → HasAuthority uri (before_any authority_ends rest)
authority_at uri rest b =
    elim (cases_cut authority_ends rest) [
      | inl has ↦ record { rest = rest; behind = has.first ∷ behind_any authority_ends rest; behind_scheme = b; cut = has.cut }
      | inr whole ↦ record {
        rest = rest;
        behind = [];
        behind_scheme = b;
        cut = subst (λ (l : List ℕ). IsCut authority_ends rest l []) (sym whole.before) whole.cut;
      }
    ]

-- userinfo
user_from : (authority rest : List ℕ) → behind_user authority ≡ Some rest → IsBehindUser authority rest
user_from authority rest e =
    elim (cases_cut at_sign authority) [
      | inl has ↦
          let found = has_one at_sign authority (before_any at_sign authority) (behind_any at_sign authority) has.first has.cut in
          let octets = list_all is_user_octet (before_any at_sign authority) in
          let f : then_some octets (behind_any at_sign authority) ≡ Some rest =
          sym (if_again (list_any (is_one_of at_sign) authority) (then_some octets (behind_any at_sign authority)) (Some authority) found) ∙ e in
          let s = then_some_is octets (behind_any at_sign authority) rest f in
          subst (IsBehindUser authority) s.1
          (behind_at_sign authority (before_any at_sign authority) (behind_any at_sign authority) has.first
          (AllPass-from_list_all is_user_octet (before_any at_sign authority) s.0) has.cut)
      | inr whole ↦
          let octets = list_all is_user_octet (before_any at_sign authority) in
          let f : Some authority ≡ Some rest =
          sym (if_not (list_any (is_one_of at_sign) authority) (then_some octets (behind_any at_sign authority)) (Some authority)
          (has_none at_sign authority whole.cut.none)) ∙ e in
          let same : authority ≡ rest = cc in
          record { user = []; joined = same; is_user = inl refl }
    ]

no_user : (authority : List ℕ) → HasNone at_sign authority → behind_user authority ≡ Some authority
no_user authority none =
    if_not (list_any (is_one_of at_sign) authority) (then_some (list_all is_user_octet (before_any at_sign authority)) (behind_any at_sign authority))
    (Some authority) (has_none at_sign authority none)

user_at : (authority rest user : List ℕ) → authority ≡ user ++ rest → IsUserAt user → behind_user authority ≡ Some rest
user_at authority rest user e at =
    let cut = at_user authority rest user e at in
    let parts = parts_of at_sign authority at.user rest 64 cut in
    let octets = list_all is_user_octet (before_any at_sign authority) in
    if_again (list_any (is_one_of at_sign) authority) (then_some octets (behind_any at_sign authority)) (Some authority)
    (has_one at_sign authority at.user rest 64 cut)
    ∙ (then_some_again octets (behind_any at_sign authority)
    (ap (list_all is_user_octet) parts.0 ∙ list_all-from_AllPass is_user_octet at.user at.octets)
    ∙ ap (λ (l : List ℕ). Some l) parts.1)

user_again : (authority rest : List ℕ) → HasNone at_sign rest → IsBehindUser authority rest → behind_user authority ≡ Some rest
user_again authority rest none b =
    elim (b.is_user) [
      | inl empty ↦
          let same : authority ≡ rest = b.joined ∙ ap (λ (l : List ℕ). l ++ rest) empty in
          ap behind_user same ∙ no_user rest none
      | inr at ↦ user_at authority rest b.user b.joined at
    ]

-- ports
port_from : (rest host : List ℕ) → before_port rest ≡ Some host → IsHostAndPort rest host
port_from rest host e =
    let front = before_any colon rest in
    let digits = behind_any colon rest in
    let s = then_some_is (is_fully_qualified front && list_all is_ascii_digit digits) front host e in
    let a = and_parts (is_fully_qualified front) (list_all is_ascii_digit digits) s.0 in
    subst (IsHostAndPort rest) s.1 (elim (cases_cut colon rest) [
      | inl has ↦ record {
        port = 58 ∷ digits;
        joined = has.cut.joined ∙ ap (λ (c : ℕ). front ++ c ∷ digits) (is_stop 58 has.first has.cut.stops);
        is_host = (full_test front).0 a.0;
        is_port = inr (record { port = digits; joined = refl; digits = AllPass-from_list_all is_ascii_digit digits a.1 });
      }
      | inr whole ↦ record {
        port = [];
        joined = sym whole.before ∙ sym (append-nil front);
        is_host = (full_test front).0 a.0;
        is_port = inl refl;
      }
    ])

ported : (rest host digits : List ℕ) → before_any colon rest ≡ host → behind_any colon rest ≡ digits → is_fully_qualified host ≡ true
    → list_all is_ascii_digit digits ≡ true → before_port rest ≡ Some host
ported rest host digits e f t u =
    let front = before_any colon rest in
    let behind = behind_any colon rest in
    then_some_again (is_fully_qualified front && list_all is_ascii_digit behind) front
    (and_from (is_fully_qualified front) (list_all is_ascii_digit behind) (ap is_fully_qualified e ∙ t) (ap (list_all is_ascii_digit) f ∙ u))
    ∙ ap (λ (l : List ℕ). Some l) e

port_again : (rest host : List ℕ) → IsHostAndPort rest host → before_port rest ≡ Some host
port_again rest host h =
    let cut = host_cut rest host h in
    let t = (full_test host).1 h.is_host in
    elim (h.is_port) [
      | inl none ↦
          let parts = parts_of_whole colon rest host (subst (λ (l : List ℕ). IsCut colon rest host l) none cut) in
          ported rest host [] parts.0 parts.1 t refl
      | inr at ↦
          let parts = parts_of colon rest host at.port 58 (subst (λ (l : List ℕ). IsCut colon rest host l) at.joined cut) in
          ported rest host at.port parts.0 parts.1 t (list_all-from_AllPass is_ascii_digit at.port at.digits)
    ]

-- hosts of authorities and of URIs
host_from : (authority host : List ℕ) → host_in authority ≡ Some host → IsHostOfAuthority authority host
host_from authority host e =
    let s = then_from before_port (behind_user authority) host e in
    record { rest = s.0; behind_user = user_from authority s.0 s.1; host_and_port = port_from s.0 host s.2 }

host_again : (authority host : List ℕ) → IsHostOfAuthority authority host → host_in authority ≡ Some host
host_again authority host h =
    let none = rest_has_no_at h.rest host h.host_and_port in
    ap (option_and_then before_port) (user_again authority h.rest none h.behind_user) ∙ port_again h.rest host h.host_and_port

uri_from : (uri host : List ℕ) → uri_host uri ≡ Some host → IsHostOfUri uri host
unfolding uri_host
uri_from uri host e =
    let s = then_from (λ (rest : List ℕ). host_in (before_any authority_ends rest)) (behind_scheme uri) host e in
    record {
      authority = before_any authority_ends s.0;
      has_authority = authority_at uri s.0 (behind_scheme_from uri s.0 s.1);
      has_host = host_from (before_any authority_ends s.0) host s.2;
    }

uri_again : (uri host : List ℕ) → IsHostOfUri uri host → uri_host uri ≡ Some host
unfolding uri_host
uri_again uri host h =
    let a = h.has_authority in
    ap (option_and_then (λ (rest : List ℕ). host_in (before_any authority_ends rest))) (behind_scheme_again uri a.rest a.behind_scheme)
    ∙ (ap host_in (front_of authority_ends a.rest h.authority a.behind a.cut) ∙ host_again h.authority host h.has_host)

pub uri_host_is_exact : UriHostIsExact
uri_host_is_exact uri host = (uri_from uri host, uri_again uri host)
