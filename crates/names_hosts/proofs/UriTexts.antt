-- How a URI is cut into its parts: the first octet of those that end a part cuts it in one way.
use Rattle.std.proofs.Common.{◌≡◌, ◌≢◌, ◌<◌, ℕ, List, [], ◌∷◌, ◌++◌, length, take, drop, get_or, Bool, true, false, ◌==◌, ◌||◌, nat_lt, Bor, Option, Some, None, refl, sym, ◌∙◌, ap, subst, inl, inr, arith, append_assoc, append-nil}
use Rattle.std.specs.Prelude.{MatchOption, IfSome, IsTrue, option_copied, ◌↔◌}
use Rattle.std.specs.Bool.{then_some}
use Rattle.std.specs.List.{All, AllPass, list_all, position, position_or_len}
use Rattle.std.specs.Char.{is_ascii_digit, is_ascii_alphabetic}
use Rattle.std.proofs.lemmas.Bool.{cases_Bool, false≢true, eqb-true, cond-true, ltb-false}
use Rattle.std.proofs.lemmas.List.{take-append-drop, drop_more, length-take-le, get_or-take}
use Rattle.std.proofs.lemmas.List.Elements.{All-head, All-tail, All-cons, All-append, All-weaker, All-from_get_or}
use Rattle.std.proofs.lemmas.List.Quantifiers.{position-Some}
use Rattle.std.proofs.lemmas.List.Sums.{fails_before_first, AllPass-from_list_all, list_all-from_AllPass}
use Rattle.names_identity.specs.Host.{is_host_octet}
use Rattle.names_hosts.specs.Uri.{is_one_of, HasNone, IsStop, IsCut, is_scheme_octet, IsScheme, authority_ends, IsBehindScheme, HasAuthority, is_user_octet, IsUserAt, IsPortPart, IsBehindUser, IsHostAndPort, IsHostOfAuthority}
use Rattle.names_hosts.specs.Laws.{UriHostIsOne}

-- an octet that passes a test is not one that fails it
apart : (p : ℕ → Bool) (x octet : ℕ) → p x ≡ false → p octet ≡ true → is_one_of (x ∷ []) octet ≡ false
apart p x octet f t =
    elim (cases_Bool (x == octet)) [
      | inl same ↦ absurd (false≢true (sym f ∙ (ap p (eqb-true x octet same) ∙ t)))
      | inr other ↦ ap (λ (b : Bool). b || false) other
    ]

pub none_of : (p : ℕ → Bool) (x : ℕ) (text : List ℕ) → p x ≡ false → AllPass p text → HasNone (x ∷ []) text
none_of p x text f all =
    All-weaker (λ octet. p octet ≡ true) (λ octet. is_one_of (x ∷ []) octet ≡ false) (λ octet t. apart p x octet f t) text all

-- the octet that stops, if one alone does
pub is_stop : (x octet : ℕ) → is_one_of (x ∷ []) octet ≡ true → octet ≡ x
is_stop x octet h =
    elim (cases_Bool (x == octet)) [
      | inl same ↦ sym (eqb-true x octet same)
      | inr other ↦ absurd (false≢true (sym (ap (λ (b : Bool). b || false) other) ∙ h))
    ]

-- a text is cut in one way
same_cut :
    (ends a x b y : List ℕ) → a ++ x ≡ b ++ y → HasNone ends a → HasNone ends b → IsStop ends x → IsStop ends y →
    (a ≡ b) × (x ≡ y)
same_cut ends [] x [] y e m n s t = (refl, e)
same_cut ends [] [] (d ∷ b) y e m n s t = cc
same_cut ends [] (c ∷ x) (d ∷ b) y e m n s t =
    let same : c ≡ d = cc in
    let free = All-head (λ octet. is_one_of ends octet ≡ false) d b n in
    absurd (false≢true (sym free ∙ (ap (is_one_of ends) (sym same) ∙ s)))
same_cut ends (c ∷ a) x [] [] e m n s t = cc
same_cut ends (c ∷ a) x [] (d ∷ y) e m n s t =
    let same : d ≡ c = cc in
    let free = All-head (λ octet. is_one_of ends octet ≡ false) c a m in
    absurd (false≢true (sym free ∙ (ap (is_one_of ends) (sym same) ∙ t)))
same_cut ends (c ∷ a) x (d ∷ b) y e m n s t =
    let same : c ≡ d = cc in
    let tails : a ++ x ≡ b ++ y = cc in
    let rest = same_cut ends a x b y tails
    (All-tail (λ octet. is_one_of ends octet ≡ false) c a m) (All-tail (λ octet. is_one_of ends octet ≡ false) d b n) s t in
    let first : a ≡ b = rest.0 in
    (cc, rest.1)

pub one_cut : (ends text a x b y : List ℕ) → IsCut ends text a x → IsCut ends text b y → (a ≡ b) × (x ≡ y)
one_cut ends text a x b y p q = same_cut ends a x b y (sym p.joined ∙ q.joined) p.none q.none p.stops q.stops

-- how the code cuts it
stop_at : (ends text : List ℕ) (at : ℕ) → at < length text → is_one_of ends (get_or text at 0) ≡ true → IsStop ends (drop at text)
stop_at ends text at within t = subst (IsStop ends) (sym (drop_more text at 0 within)) t

pub none_passes : (p : ℕ → Bool) (xs : List ℕ) → position p xs ≡ None → All (λ x. p x ≡ false) xs
none_passes p xs h =
    let n = position_or_len p xs in
    elim (cases_Bool (nat_lt n (length xs))) [
      | inl t ↦ let f : Some n ≡ None = sym (cond-true (nat_lt n (length xs)) (Some n) None t) ∙ h in cc
      | inr e ↦ let le = ltb-false n (length xs) e in λ k d below. fails_before_first p xs k d (omega arith)
    ]

pub cut_at : (ends text : List ℕ) (at : ℕ) → position (is_one_of ends) text ≡ Some at → IsCut ends text (take at text) (drop at text)
cut_at ends text at h =
    let s = position-Some (is_one_of ends) text at 0 h in
    let n : length (take at text) ≡ at = length-take-le at text (omega (arith, s.0)) in
    record {
      joined = sym (take-append-drop at text);
      none = All-from_get_or (λ (octet : ℕ). is_one_of ends octet ≡ false) (take at text) 0
          (λ k below. ap (is_one_of ends) (get_or-take at text k 0 (omega arith)) ∙ s.2 k (omega arith));
      stops = stop_at ends text at s.0 s.1;
    }

-- schemes
pub scheme_has_no_colon : (scheme : List ℕ) → IsScheme scheme → HasNone (58 ∷ []) scheme
scheme_has_no_colon scheme s =
    subst (HasNone (58 ∷ [])) (sym s.joined)
    (All-cons (λ octet. is_one_of (58 ∷ []) octet ≡ false) s.first s.rest (apart is_ascii_alphabetic 58 s.first refl s.letter)
    (none_of is_scheme_octet 58 s.rest refl s.others))

pub scheme_cut :
    (uri rest front more : List ℕ) (b : IsBehindScheme uri rest) → IsCut (58 ∷ []) uri front more →
    (front ≡ b.scheme) × (more ≡ 58 ∷ 47 ∷ 47 ∷ rest)
scheme_cut uri rest front more b cut =
    one_cut (58 ∷ []) uri front more b.scheme (58 ∷ 47 ∷ 47 ∷ rest) cut
    (record { joined = b.joined; none = scheme_has_no_colon b.scheme b.is_scheme; stops = refl })

pub no_scheme : (uri rest front more : List ℕ) → IsBehindScheme uri rest → IsCut (58 ∷ []) uri front more → IsScheme front
no_scheme uri rest front more b cut = subst IsScheme (sym (scheme_cut uri rest front more b cut).0) b.is_scheme

-- userinfo
pub user_has_no_at : (user : List ℕ) → AllPass is_user_octet user → HasNone (64 ∷ []) user
user_has_no_at user h = none_of is_user_octet 64 user refl h

pub at_user : (authority rest user : List ℕ) → authority ≡ user ++ rest → (at : IsUserAt user) → IsCut (64 ∷ []) authority at.user (64 ∷ rest)
at_user authority rest user e at = record {
  joined = e ∙ (ap (λ (l : List ℕ). l ++ rest) at.joined ∙ append_assoc at.user (64 ∷ []) rest);
  none = user_has_no_at at.user at.octets;
  stops = refl;
}

-- an authority without an at sign is what stands behind its user part
pub no_user_at :
    (authority rest front : List ℕ) → IsBehindUser authority rest → IsCut (64 ∷ []) authority front [] → authority ≡ rest
no_user_at authority rest front b cut =
    elim (b.is_user) [
      | inl none ↦ b.joined ∙ ap (λ (l : List ℕ). l ++ rest) none
      | inr at ↦
          let same = one_cut (64 ∷ []) authority front [] at.user (64 ∷ rest) cut (at_user authority rest b.user b.joined at) in
          let e : [] ≡ 64 ∷ rest = same.1 in
          absurd (omega (arith, ap length e))
    ]

-- with one, it is what stands behind the first
pub user_at_sign :
    (authority rest front more : List ℕ) (first : ℕ) → HasNone (64 ∷ []) rest → IsBehindUser authority rest →
    IsCut (64 ∷ []) authority front (first ∷ more) → AllPass is_user_octet front × (more ≡ rest)
user_at_sign authority rest front more first none b cut =
    elim (b.is_user) [
      | inl empty ↦
          let other : IsCut (64 ∷ []) authority rest [] = record {
            joined = b.joined ∙ (ap (λ (l : List ℕ). l ++ rest) empty ∙ sym (append-nil rest));
            none = none;
            stops = tt;
          } in
          let same = one_cut (64 ∷ []) authority front (first ∷ more) rest [] cut other in
          absurd (omega (arith, ap length same.1))
      | inr at ↦
          let same = one_cut (64 ∷ []) authority front (first ∷ more) at.user (64 ∷ rest) cut (at_user authority rest b.user b.joined at) in
          let e : first ∷ more ≡ 64 ∷ rest = same.1 in
          (subst (AllPass is_user_octet) (sym same.0) at.octets, ap (drop 1) e)
    ]

pub behind_at_sign :
    (authority front more : List ℕ) (first : ℕ) → AllPass is_user_octet front → IsCut (64 ∷ []) authority front (first ∷ more) →
    IsBehindUser authority more
behind_at_sign authority front more first octets cut = record {
  user = front ++ 64 ∷ [];
  joined = cut.joined ∙ (ap (λ (c : ℕ). front ++ c ∷ more) (is_stop 64 first cut.stops) ∙ sym (append_assoc front (64 ∷ []) more));
  is_user = inr (record { user = front; joined = refl; octets = octets });
}

-- ports
pub host_cut : (text host : List ℕ) (h : IsHostAndPort text host) → IsCut (58 ∷ []) text host h.port
host_cut text host h = record {
  joined = h.joined;
  none = none_of is_host_octet 58 host refl h.is_host.is_host.octets;
  stops = elim (h.is_port) [
    | inl none ↦ subst (IsStop (58 ∷ [])) (sym none) tt
    | inr at ↦ subst (IsStop (58 ∷ [])) (sym at.joined) refl
  ];
}

pub port_cut :
    (text host front more : List ℕ) (h : IsHostAndPort text host) → IsCut (58 ∷ []) text front more →
    (front ≡ host) × (more ≡ h.port)
port_cut text host front more h cut = one_cut (58 ∷ []) text front more host h.port cut (host_cut text host h)

pub rest_has_no_at : (text host : List ℕ) → IsHostAndPort text host → HasNone (64 ∷ []) text
rest_has_no_at text host h =
    let free : HasNone (64 ∷ []) host = none_of is_host_octet 64 host refl h.is_host.is_host.octets in
    let port : HasNone (64 ∷ []) h.port = elim (h.is_port) [
      | inl none ↦ subst (HasNone (64 ∷ [])) (sym none) (λ k d below. absurd (omega arith))
      | inr at ↦ subst (HasNone (64 ∷ [])) (sym at.joined)
          (All-cons (λ octet. is_one_of (64 ∷ []) octet ≡ false) 58 at.port refl (none_of is_ascii_digit 64 at.port refl at.digits))
    ] in
    subst (HasNone (64 ∷ [])) (sym h.joined) (All-append (λ octet. is_one_of (64 ∷ []) octet ≡ false) host h.port free port)

-- options
pub some_same : {X : Type 0} (a b : X) → Some a ≡ Some b → a ≡ b
some_same a b e = cc

pub none_some : {X : Type 0} (a : X) → None ≡ Some a → ⊥
none_some a e = cc

-- what is stripped of a text
pub stripped_one :
    (text rest : List ℕ) (found : Option (Bor (List ℕ))) →
    MatchOption found ((more : List ℕ) → text ≢ 58 ∷ 47 ∷ 47 ∷ more) (λ x. text ≡ 58 ∷ 47 ∷ 47 ∷ x.now) →
    text ≡ 58 ∷ 47 ∷ 47 ∷ rest → option_copied found ≡ Some rest
stripped_one text rest None h e = absurd (h rest e)
stripped_one text rest (Some x) h e =
    let f : 58 ∷ 47 ∷ 47 ∷ x.now ≡ 58 ∷ 47 ∷ 47 ∷ rest = sym h ∙ e in
    ap (λ (l : List ℕ). Some (drop 3 l)) f

-- a text that has none is its own front
pub cut_whole : (ends text : List ℕ) → position (is_one_of ends) text ≡ None → IsCut ends text text []
cut_whole ends text h = record {
  joined = sym (append-nil text);
  none = λ k d below. none_passes (is_one_of ends) text h k d below;
  stops = tt;
}

-- what `then_some` gives
pub found_if : (P : List ℕ → Type 0) (b : Bool) (x : Bor (List ℕ)) → (b ≡ true → P x.now) → IfSome (then_some b x) (λ found. P found.now)
found_if P true x h = h refl
found_if P false x h = tt

pub some_if : (b : Bool) (x : Bor (List ℕ)) (wanted : List ℕ) → b ≡ true → x.now ≡ wanted → option_copied (then_some b x) ≡ Some wanted
some_if true x wanted t e = ap Some e
some_if false x wanted t e = absurd (false≢true t)

-- the tests of schemes and ports
pub port_test :
    (text digits : List ℕ) (colon : ℕ) (b : Bool) → text ≡ colon ∷ digits → colon ≡ 58 → b ≡ list_all is_ascii_digit digits →
    (IsTrue b ↔ IsPortPart text)
port_test text digits colon b e is t = (
  λ yes_digits. inr (record {
    port = digits;
    joined = e ∙ ap (λ (c : ℕ). c ∷ digits) is;
    digits = AllPass-from_list_all is_ascii_digit digits (sym t ∙ yes_digits);
  }),
  λ part. elim part [
    | inl none ↦ absurd (omega (arith, ap length (sym e ∙ none)))
    | inr at ↦
        let same : at.port ≡ digits = ap (drop 1) (sym at.joined ∙ e) in
        t ∙ list_all-from_AllPass is_ascii_digit digits (subst (AllPass is_ascii_digit) same at.digits)
  ],
)

pub scheme_test :
    (text rest : List ℕ) (first : ℕ) (b : Bool) → text ≡ first ∷ rest → is_ascii_alphabetic first ≡ true →
    b ≡ list_all is_scheme_octet rest → (IsTrue b ↔ IsScheme text)
scheme_test text rest first b e letter t = (
  λ passes. record {
    first = first;
    rest = rest;
    joined = e;
    letter = letter;
    others = AllPass-from_list_all is_scheme_octet rest (sym t ∙ passes);
  },
  λ s.
      let same : s.rest ≡ rest = ap (drop 1) (sym s.joined ∙ e) in
      t ∙ list_all-from_AllPass is_scheme_octet rest (subst (AllPass is_scheme_octet) same s.others),
)

-- a URI has one host
one_rest : (uri one other : List ℕ) → IsBehindScheme uri one → IsBehindScheme uri other → one ≡ other
one_rest uri one other a b =
    let more = 58 ∷ 47 ∷ 47 ∷ one in
    let cut : IsCut (58 ∷ []) uri a.scheme more = record { joined = a.joined; none = scheme_has_no_colon a.scheme a.is_scheme; stops = refl } in
    ap (drop 3) (scheme_cut uri other a.scheme more b cut).1

one_authority : (uri one other : List ℕ) → HasAuthority uri one → HasAuthority uri other → one ≡ other
one_authority uri one other a b =
    let same = one_rest uri a.rest b.rest a.behind_scheme b.behind_scheme in
    let cut = subst (λ (l : List ℕ). IsCut authority_ends l one a.behind) same a.cut in
    (one_cut authority_ends b.rest one a.behind other b.behind cut b.cut).0

one_behind_user :
    (authority one other : List ℕ) → HasNone (64 ∷ []) one → HasNone (64 ∷ []) other → IsBehindUser authority one →
    IsBehindUser authority other → one ≡ other
one_behind_user authority one other m n a b =
    elim (a.is_user) [
      | inl empty ↦
          let whole = a.joined ∙ ap (λ (l : List ℕ). l ++ one) empty in
          let cut : IsCut (64 ∷ []) authority one [] = record { joined = whole ∙ sym (append-nil one); none = m; stops = tt } in
          sym whole ∙ no_user_at authority other one b cut
      | inr at ↦ (user_at_sign authority other at.user one 64 n b (at_user authority one a.user a.joined at)).1
    ]

one_host_and_port : (rest one other : List ℕ) → IsHostAndPort rest one → IsHostAndPort rest other → one ≡ other
one_host_and_port rest one other a b = (port_cut rest other one a.port b (host_cut rest one a)).0

one_host_of : (authority one other : List ℕ) → IsHostOfAuthority authority one → IsHostOfAuthority authority other → one ≡ other
one_host_of authority one other a b =
    let same = one_behind_user authority a.rest b.rest (rest_has_no_at a.rest one a.host_and_port) (rest_has_no_at b.rest other b.host_and_port)
    a.behind_user b.behind_user in
    one_host_and_port b.rest one other (subst (λ (l : List ℕ). IsHostAndPort l one) same a.host_and_port) b.host_and_port

pub uri_host_is_one : UriHostIsOne
uri_host_is_one uri one other a b =
    let same = one_authority uri a.authority b.authority a.has_authority b.has_authority in
    one_host_of b.authority one other (subst (λ (l : List ℕ). IsHostOfAuthority l one) same a.has_host) b.has_host
