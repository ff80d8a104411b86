-- The walk over a certificate finds the bases that its constraints have.
use Rattle.std.proofs.Common.{◌≡◌, ◌≢◌, ◌==◌, ◌<◌, ℕ, zero, suc, Bool, true, false, List, [], ◌∷◌, ◌++◌, append-nil, append_assoc, length, filter, get_or, Option, Some, None, Result, Ok, if◌then◌else◌, eqb-true, arith, refl, sym, ap, ◌∙◌, subst, inl, inr, AllPairs}
use Rattle.std.specs.Prelude.{filter_map}
use Rattle.std.specs.List.{AllByRecursion, AllZip, cons_option}
use Rattle.std.proofs.lemmas.List.Elements.{filter_map-append}
use Rattle.asn.specs.DerLaws.{AreOctets}
use Rattle.asn.specs.Members.{Members, members, begins, begins_in}
use Rattle.asn.specs.Place.{Place, tag, body, body_place}
use Rattle.asn.specs.Walk.{◌>>=◌, is_a, optional, each}
use Rattle.asn.proofs.Laws.{ok_is, is_a_again, next_or_again, optional_there, optional_absent, nested_again, members_octets}
use Rattle.names.specs.declared.general.Form.{Form}
use Rattle.names.specs.declared.general.Form.TheVariants as F
use Rattle.names.specs.GeneralForms.{IsSubtreeBase}
use Rattle.names.specs.GeneralLayout.{SubtreeBase, directory_base, dns_base, ip_base, other_base, form_of_identifier}
use Rattle.names_hosts.specs.Hosts.{AreHostsOf}
use Rattle.names_hosts.specs.Mail.{IsMailOf}
use Rattle.cert.specs.declared.fault.CertRule.{CertRule}
use Rattle.cert.specs.declared.fault.CertRule.TheVariants.{ExtensionValue}
use Rattle.cert.specs.declared.version.Version.{Version}
use Rattle.cert.specs.Certificate.{Certificate, TbsCertificate}
use Rattle.cert.specs.CertificateForms.{AreOptionalExtensions, IsTbsCertificate}
use Rattle.cert.specs.CertificateHosts.{CertificateHosts}
use Rattle.cert.specs.Extension.{Extension}
use Rattle.cert.specs.ExtensionFields.{id_ce, IsFieldOf, IsValueOf, ExtensionsAreByField}
use Rattle.cert.specs.Extensions.{Extensions}
use Rattle.cert.specs.ExtensionValues.{ExtensionValues, SaysIfThere, read_if_there}
use Rattle.cert.specs.Fault.{as_der}
use Rattle.cert.specs.NameConstraints.{NameConstraints, IsSubtree, AreSubtrees, IsNameConstraints}
use Rattle.cert.proofs.Laws.{extensions_are}
use Rattle.cert_hosts.specs.Bases.{Base, mail_base, host_base, base_found, one_subtree, next_list, in_constraints, bases_in}
use Rattle.cert_hosts.specs.Reading.{is_mail_base, is_host_base, same_flag, IsMailBaseAt, IsHostBaseAt, SaysHosts}
use Rattle.cert_hosts.specs.HostsWalk.{certificate_hosts}
use Rattle.cert_hosts.specs.OwnBases.{base_text, HasItsBases, BasesAreItsOwn}
use Rattle.cert_hosts.proofs.WalkedHosts.{hosts_are_exact}

-- what is picked of a base
abbrev Pick : Type 0
Pick = Base → Option (List ℕ)

-- a walk adds values, of which these are picked
record Adds (f : Pick) (walk : Result (List Base) (CertRule × ℕ)) (earlier : List Base) (texts : List (List ℕ)) : Type 0 where
  new : List Base
  is : walk ≡ Ok (earlier ++ new)
  picked : filter_map f new ≡ texts

nothing_added : (f : Pick) (earlier : List Base) → Adds f (Ok earlier) earlier []
nothing_added f earlier = record { new = []; is = ap (λ l. Ok l) (sym (append-nil earlier)); picked = refl }

added_then : (f : Pick) (walk : Result (List Base) (CertRule × ℕ)) (next : List Base → Result (List Base) (CertRule × ℕ)) (earlier : List Base) (one more : List (List ℕ))
    → Adds f walk earlier one → ((l : List Base) → Adds f (next l) l more) → Adds f (walk >>= next) earlier (one ++ more)
added_then f walk next earlier one more first others =
    let second = others (earlier ++ first.new) in
    record {
      new = first.new ++ second.new;
      is = ap (λ (r : Result (List Base) (CertRule × ℕ)). r >>= next) first.is ∙ (second.is ∙ ap (λ (l : List Base). Ok l) (append_assoc earlier first.new second.new));
      picked = filter_map-append f first.new second.new ∙ (ap (λ (l : List (List ℕ)). l ++ filter_map f second.new) first.picked ∙ ap (λ (l : List (List ℕ)). one ++ l) second.picked);
    }

as_walk : (f : Pick) (walk other : Result (List Base) (CertRule × ℕ)) (earlier : List Base) (texts : List (List ℕ)) → walk ≡ other → Adds f other earlier texts → Adds f walk earlier texts
as_walk f walk other earlier texts same adds = record { new = adds.new; is = same ∙ adds.is; picked = adds.picked }

as_texts : (f : Pick) (walk : Result (List Base) (CertRule × ℕ)) (earlier : List Base) (texts others : List (List ℕ)) → texts ≡ others → Adds f walk earlier texts → Adds f walk earlier others
as_texts f walk earlier texts others same adds = record { new = adds.new; is = adds.is; picked = adds.picked ∙ same }

joined : (o : Option (List ℕ)) (texts : List (List ℕ)) → cons_option o [] ++ texts ≡ cons_option o texts
joined None texts = refl
joined (Some text) texts = refl

-- a walk over values, of each of which something is said
each_adds : (f : Pick) (step : List Base → Place → Result (List Base) (CertRule × ℕ)) → {X : Type 0} → (Says : Place → X → Type 0) (h : X → Option (List ℕ))
    → ((earlier : List Base) (value : Place) (x : X) → Says value x → Adds f (step earlier value) earlier (cons_option (h x) []))
    → (values : List Place) (xs : List X) → AllZip Says values xs → (earlier : List Base) → Adds f (each step earlier values) earlier (filter_map h xs)
each_adds f step Says h one [] [] zip earlier = nothing_added f earlier
each_adds f step Says h one [] (x ∷ xs) zip earlier = absurd zip
each_adds f step Says h one (value ∷ values) [] zip earlier = absurd zip
each_adds f step Says h one (value ∷ values) (x ∷ xs) zip earlier =
    as_texts f (each step earlier (value ∷ values)) earlier _ _ (joined (h x) (filter_map h xs))
    (added_then f (step earlier value) (λ next. each step next values) earlier (cons_option (h x) []) (filter_map h xs)
    (one earlier value x zip.0) (each_adds f step Says h one values xs zip.1))

-- ---- forms of bases

abbrev is_form : ℕ → Form → Bool
is_form wanted (F.Other number) = number == wanted
is_form wanted F.Directory = false
is_form wanted F.Dns = false
is_form wanted F.Ip = false

-- neither rfc822Name nor uniformResourceIdentifier
record IsNeither (form : Form) : Type 0 where
  mail : is_form 1 form ≡ false
  uri : is_form 6 form ≡ false

same_form : (one other : Form) → Some one ≡ Some other → one ≡ other
same_form one other same = cc

chosen : (b : Bool) (x : Form) (y : Option Form) (form : Form) → (if b then Some x else y) ≡ Some form → (b ≡ true → IsNeither x) → (y ≡ Some form → IsNeither form) → IsNeither form
chosen true x y form e first others = subst (λ (f : Form). IsNeither f) (same_form x form e) (first refl)
chosen false x y form e first others = others e

neither_by_tag : (t : ℕ) (form : Form) → form_of_identifier t ≡ Some form → (t == 0x81) ≡ false → (t == 0x86) ≡ false → IsNeither form
unfolding form_of_identifier
neither_by_tag t form e mail uri =
    chosen (t == 0xA0) (F.Other 0) _ form e (λ _. record { mail = refl; uri = refl }) (λ e.
    chosen (t == 0x81) (F.Other 1) _ form e (λ is. absurd (apart mail is)) (λ e.
    chosen (t == 0x82) F.Dns _ form e (λ _. record { mail = refl; uri = refl }) (λ e.
    chosen (t == 0xA3) (F.Other 3) _ form e (λ _. record { mail = refl; uri = refl }) (λ e.
    chosen (t == 0xA4) F.Directory _ form e (λ _. record { mail = refl; uri = refl }) (λ e.
    chosen (t == 0xA5) (F.Other 5) _ form e (λ _. record { mail = refl; uri = refl }) (λ e.
    chosen (t == 0x86) (F.Other 6) _ form e (λ is. absurd (apart uri is)) (λ e.
    chosen (t == 0x87) F.Ip _ form e (λ _. record { mail = refl; uri = refl }) (λ e.
    chosen (t == 0x88) (F.Other 8) _ form e (λ _. record { mail = refl; uri = refl }) (λ e. absurd (none_some e))))))))))
  where
    apart : {b : Bool} → b ≡ false → b ≡ true → ⊥
    apart one other = cc

    none_some : {form : Form} → None ≡ Some form → ⊥
    none_some e = cc

mail_by_tag : (t : ℕ) (form : Form) → form_of_identifier t ≡ Some form → t ≡ 0x81 → form ≡ F.Other 1
unfolding form_of_identifier
mail_by_tag t form e is = same_form form (F.Other 1) (sym e ∙ ap form_of_identifier is)

uri_by_tag : (t : ℕ) (form : Form) → form_of_identifier t ≡ Some form → t ≡ 0x86 → form ≡ F.Other 6
unfolding form_of_identifier
uri_by_tag t form e is = same_form form (F.Other 6) (sym e ∙ ap form_of_identifier is)

abbrev form_of_base : SubtreeBase → Form
form_of_base (directory_base contents) = F.Directory
form_of_base (dns_base names) = F.Dns
form_of_base (ip_base range) = F.Ip
form_of_base (other_base number text) = F.Other number

has_base_form : (value : Place) (b : SubtreeBase) → IsSubtreeBase value b → form_of_identifier (tag value) ≡ Some (form_of_base b)
has_base_form value (directory_base contents) is = is.0
has_base_form value (dns_base names) is = is.0
has_base_form value (ip_base range) is = is.0
has_base_form value (other_base number text) is = is.0

abbrev text_if : Bool → Place → Option (List ℕ)
text_if true value = Some (body value)
text_if false value = None

if_some : (b : Bool) (value : Place) (text : List ℕ) → body value ≡ text → (if b then Some text else None) ≡ text_if b value
if_some true value text same = ap (λ (t : List ℕ). Some t) (sym same)
if_some false value text same = refl

same_number : (one other : ℕ) → F.Other one ≡ F.Other other → one ≡ other
same_number one other same = cc

-- what a base of a form says
base_text_is : (value : Place) (b : SubtreeBase) (k j : ℕ) → IsSubtreeBase value b → form_of_base b ≡ F.Other k → base_text j b ≡ text_if (k == j) value
base_text_is value (directory_base contents) k j is form = absurd cc
base_text_is value (dns_base names) k j is form = absurd cc
base_text_is value (ip_base range) k j is form = absurd cc
base_text_is value (other_base number text) k j is form = rw (same_number number k form) (if_some (k == j) value text is.1)

base_text_none : (b : SubtreeBase) (j : ℕ) → is_form j (form_of_base b) ≡ false → base_text j b ≡ None
base_text_none (directory_base contents) j other = refl
base_text_none (dns_base names) j other = refl
base_text_none (ip_base range) j other = refl
base_text_none (other_base number text) j other = rw other refl

-- the form is one of the two
data Served : ℕ → Type 0 where
  mail : Served 1
  uri : Served 6

neither_served : (j : ℕ) → Served j → (form : Form) → IsNeither form → is_form j form ≡ false
neither_served _ mail form neither = neither.mail
neither_served _ uri form neither = neither.uri

-- ---- what is picked of one base

abbrev PicksOne : Pick → List Base → Option (List ℕ) → Type 0
PicksOne f said text = filter_map f said ≡ cons_option text []

one_picked : (f : Pick) (said : Base) (text other : Option (List ℕ)) → f said ≡ text → other ≡ text → PicksOne f (said ∷ []) other
one_picked f said text other picks same = ap (λ (o : Option (List ℕ)). cons_option o []) (picks ∙ sym same)

none_picked : (f : Pick) (text : Option (List ℕ)) → text ≡ None → PicksOne f [] text
none_picked f text none = ap (λ (o : Option (List ℕ)). cons_option o []) (sym none)

base_picked : (f : Pick) (permitted : Bool) (j : ℕ) → Served j → ((v : Place) → f (mail_base permitted v) ≡ text_if (1 == j) v) → ((v : Place) → f (host_base permitted v) ≡ text_if (6 == j) v)
    → (value : Place) (b : SubtreeBase) → IsSubtreeBase value b → PicksOne f (base_found permitted value) (base_text j b)
base_picked f permitted j served of_mail of_uri value b is = by (tag value == 0x81) refl (tag value == 0x86) refl
  where
    form : form_of_identifier (tag value) ≡ Some (form_of_base b)
    form = has_base_form value b is

    by : (one : Bool) → (tag value == 0x81) ≡ one → (other : Bool) → (tag value == 0x86) ≡ other
        → PicksOne f (if one then mail_base permitted value ∷ [] else (if other then host_base permitted value ∷ [] else [])) (base_text j b)
    by true is_it other _ =
        one_picked f (mail_base permitted value) (text_if (1 == j) value) (base_text j b) (of_mail value) (base_text_is value b 1 j is (mail_by_tag (tag value) (form_of_base b) form (eqb-true (tag value) 0x81 is_it)))
    by false _ true is_it =
        one_picked f (host_base permitted value) (text_if (6 == j) value) (base_text j b) (of_uri value) (base_text_is value b 6 j is (uri_by_tag (tag value) (form_of_base b) form (eqb-true (tag value) 0x86 is_it)))
    by false no_mail false no_uri =
        none_picked f (base_text j b) (base_text_none b j (neither_served j served (form_of_base b) (neither_by_tag (tag value) (form_of_base b) form no_mail no_uri)))

-- nothing is picked of values that are passed over
passed_over : (f : Pick) (one other : Base) (a b : Bool) → f one ≡ None → f other ≡ None → PicksOne f (if a then one ∷ [] else (if b then other ∷ [] else [])) None
passed_over f one other true b first second = one_picked f one None None first refl
passed_over f one other false true first second = one_picked f other None None second refl
passed_over f one other false false first second = refl

-- ---- a pick, with what it gives of permitted and excluded bases

abbrev no_text : {X : Type 0} → X → Option (List ℕ)
no_text x = None

no_texts : {X : Type 0} (xs : List X) → filter_map no_text xs ≡ []
no_texts [] = refl
no_texts (x ∷ xs) = no_texts xs

abbrev Picks : Pick → (Bool → SubtreeBase → Option (List ℕ)) → Type 0
Picks f of_base = (permitted : Bool) (value : Place) (b : SubtreeBase) → IsSubtreeBase value b → PicksOne f (base_found permitted value) (of_base permitted b)

module _ (f : Pick) (of_base : Bool → SubtreeBase → Option (List ℕ)) (picks : Picks f of_base) where
  abbrev texts_of : NameConstraints → List (List ℕ)
  texts_of constraints = filter_map (of_base true) constraints.permitted ++ filter_map (of_base false) constraints.excluded

  subtree_added : (permitted : Bool) (earlier : List Base) (value : Place) (b : SubtreeBase) → IsSubtree value b → Adds f (one_subtree permitted earlier value) earlier (cons_option (of_base permitted b) [])
  unfolding one_subtree
  subtree_added permitted earlier value b is = record {
    new = base_found permitted is.base;
    is = rw (is_a_again 0x30 ExtensionValue value is.sequence, next_or_again ExtensionValue (members value) is.base [] is.alone) refl;
    picked = picks permitted is.base b is.says;
  }

  -- one of the two lists, before others
  record AddsList (walk : Result (List Base × Members) (CertRule × ℕ)) (earlier : List Base) (texts : List (List ℕ)) (others : List Place) : Type 0 where
    new : List Base
    left : Members
    is : walk ≡ Ok (earlier ++ new, left)
    picked : filter_map f new ≡ texts
    behind : left.values ≡ others

  list_added : (permitted : Bool) (identifier : ℕ) (lists others : List Place) (bases : List SubtreeBase) → AreSubtrees identifier lists bases → begins_in identifier others ≡ false
      → (earlier : List Base) (left : Members) → left.values ≡ lists ++ others → AddsList (next_list permitted identifier earlier left) earlier (filter_map (of_base permitted) bases) others
  unfolding next_list begins
  list_added permitted identifier [] others bases are absent earlier left there =
      let none : optional identifier left ≡ (None, left) = optional_absent identifier left (ap (begins_in identifier) there ∙ absent) in
      record {
        new = [];
        left = left;
        is = rw none (ap (λ (l : List Base). Ok (l, left)) (sym (append-nil earlier)));
        picked = sym (ap (filter_map (of_base permitted)) are);
        behind = there;
      }
  list_added permitted identifier (list ∷ []) others bases are absent earlier left there =
      let rest : Members = record { values = others; end = left.end } in
      let one : optional identifier left ≡ (Some list, rest) = optional_there identifier left list others there are.0 in
      let found = each_adds f (one_subtree permitted) IsSubtree (of_base permitted) (subtree_added permitted) (members list).values bases are.2 earlier in
      record {
        new = found.new;
        left = rest;
        is = rw (one, found.is) refl;
        picked = found.picked;
        behind = refl;
      }
  list_added permitted identifier (list ∷ other ∷ lists) others bases are absent earlier left there = absurd are

  -- excluded subtrees are not permitted ones
  other_list : (lists : List Place) (bases : List SubtreeBase) → AreSubtrees 0xA1 lists bases → begins_in 0xA0 lists ≡ false
  other_list [] bases are = refl
  other_list (list ∷ []) bases are = rw are.0 refl
  other_list (list ∷ other ∷ lists) bases are = absurd are

  constraints_added : (octet_string : Place) (constraints : NameConstraints) → IsNameConstraints octet_string constraints → (earlier : List Base) → Adds f (in_constraints earlier octet_string) earlier (texts_of constraints)
  unfolding in_constraints
  constraints_added octet_string constraints is earlier =
      let inner = body_place octet_string in
      let first = list_added true 0xA0 is.permitted_lists is.excluded_lists constraints.permitted is.permitted (other_list is.excluded_lists constraints.excluded is.excluded) earlier (members inner) is.members_are in
      let second = list_added false 0xA1 is.excluded_lists [] constraints.excluded is.excluded refl (earlier ++ first.new) first.left (first.behind ∙ sym (append-nil is.excluded_lists)) in
      record {
        new = first.new ++ second.new;
        is =
            rw (ap as_der (nested_again octet_string is.whole), is_a_again 0x30 ExtensionValue inner is.sequence, first.is, second.is)
            (ap (λ (l : List Base). Ok l) (append_assoc earlier first.new second.new));
        picked =
            filter_map-append f first.new second.new
            ∙ (ap (λ (l : List (List ℕ)). l ++ filter_map f second.new) first.picked ∙ ap (λ (l : List (List ℕ)). filter_map (of_base true) constraints.permitted ++ l) second.picked);
      }

-- ---- extensions, of which no two are of one type

abbrev HaveOtherTypes : Extension → Extension → Type 0
HaveOtherTypes one other = one.oid ≢ other.oid

-- where the first extension is of a type, no other is; else the field is that of the others
data FirstOf {X : Type 0} (type : List ℕ) (Says : Place → X → Type 0) (nothing field : X) (e : Extension) (others : List Extension) : Type 0 where
  now : e.oid ≡ type → Says e.value field → IsFieldOf others type Says nothing nothing → FirstOf type Says nothing field e others
  later : e.oid ≢ type → IsFieldOf others type Says nothing field → FirstOf type Says nothing field e others

other_types : (type : List ℕ) (e : Extension) → e.oid ≡ type → (others : List Extension) → AllPairs HaveOtherTypes (e ∷ others) → AllByRecursion (λ o. o.oid ≢ type) others
other_types type e is others pairs = by others (λ k d low. pairs 0 (suc k) d (omega arith) (omega arith))
  where
    by : (list : List Extension) → ((k : ℕ) (d : Extension) → k < length list → e.oid ≢ (get_or list k d).oid) → AllByRecursion (λ o. o.oid ≢ type) list
    by [] apart = tt
    by (o ∷ list) apart = (λ same. apart 0 o (omega arith) (is ∙ sym same), by list (λ k d low. apart (suc k) d (omega arith)))

first_of : {X : Type 0} (type : List ℕ) (Says : Place → X → Type 0) (nothing field : X) (e : Extension) (others : List Extension) → AllPairs HaveOtherTypes (e ∷ others)
    → IsFieldOf (e ∷ others) type Says nothing field → FirstOf type Says nothing field e others
first_of type Says nothing field e others pairs (inl (x, (zero, low, same), is, says)) =
    let mine : e.oid ≡ type = ap (λ (o : Extension). o.oid) same ∙ is in
    now mine (subst (λ (o : Extension). Says o.value field) (sym same) says) (inr (other_types type e mine others pairs, refl))
first_of type Says nothing field e others pairs (inl (x, (suc k, low, same), is, says)) =
    later (λ mine. pairs 0 (suc k) x (omega arith) low (mine ∙ (sym is ∙ ap (λ (o : Extension). o.oid) (sym same)))) (inl (x, (k, omega (arith, low), same), is, says))
first_of type Says nothing field e others pairs (inr (none, is)) = later none.0 (inr (none.1, is))

no_field : {X : Type 0} (type : List ℕ) (Says : Place → X → Type 0) (nothing field : X) → IsFieldOf [] type Says nothing field → field ≡ nothing
no_field type Says nothing field (inl (x, (k, low, same), is, says)) = absurd (omega (arith, low))
no_field type Says nothing field (inr (none, is)) = is

-- the value that is kept says what the field does
kept_says : {X : Type 0} (type : List ℕ) (Says : Place → X → Type 0) (nothing field : X) (kept : Option Place) (list : List Extension) → AllPairs HaveOtherTypes list
    → IsFieldOf list type Says nothing field → IsFieldOf list type (λ value found. found ≡ Some value) None kept → SaysIfThere kept Says nothing field
kept_says type Says nothing field kept [] pairs one other =
    subst (λ (v : Option Place). SaysIfThere v Says nothing field) (sym (no_field type (λ value found. found ≡ Some value) None kept other)) (no_field type Says nothing field one)
kept_says type Says nothing field kept (e ∷ others) pairs one other =
    by (first_of type Says nothing field e others pairs one) (first_of type (λ value found. found ≡ Some value) None kept e others pairs other)
    (kept_says type Says nothing field kept others (λ i j d less low. pairs (suc i) (suc j) d (omega arith) (omega arith)))
  where
    by : FirstOf type Says nothing field e others → FirstOf type (λ value found. found ≡ Some value) None kept e others
        → (IsFieldOf others type Says nothing field → IsFieldOf others type (λ value found. found ≡ Some value) None kept → SaysIfThere kept Says nothing field)
        → SaysIfThere kept Says nothing field
    by (now is says _) (now _ same _) rest = subst (λ (v : Option Place). SaysIfThere v Says nothing field) (sym same) says
    by (now is _ _) (later differs _) rest = absurd (differs is)
    by (later differs _) (now is _ _) rest = absurd (differs is)
    by (later _ one) (later _ other) rest = rest one other

fit_behind : (front values : List Place) → AllByRecursion (λ (m : Place). AreOctets m.octets) (front ++ values) → AllByRecursion (λ (m : Place). AreOctets m.octets) values
fit_behind [] values all = all
fit_behind (value ∷ front) values all = fit_behind front values all.1

abbrev no_constraints : NameConstraints
no_constraints = record { permitted = []; excluded = [] }

abbrev SaysConstraints : Extensions → Type 0
SaysConstraints fields = SaysIfThere fields.values.name_constraints IsNameConstraints no_constraints fields.name_constraints

-- so it is of nameConstraints
tagged_says : (by_field : ExtensionsAreByField) (tagged : List Place) (version : Version) (fields : Extensions) → AllByRecursion (λ m. AreOctets m.octets) tagged
    → AreOptionalExtensions tagged version fields → SaysConstraints fields
tagged_says by_field [] version fields fit none = subst SaysConstraints (sym none) refl
tagged_says by_field (value ∷ []) version fields fit are =
    let inside = subst (AllByRecursion (λ m. AreOctets m.octets)) are.members_are (members_octets value fit.0) in
    let of = by_field are.list fields inside.0 (extensions_are are.list fields inside.0 are.sequence are.extensions_are) in
    kept_says (id_ce 30) IsNameConstraints no_constraints fields.name_constraints fields.values.name_constraints of.list of.types of.fields_are.name_constraints of.fields_are.values.name_constraints
tagged_says by_field (value ∷ other ∷ values) version fields fit are = absurd are

signed_says : (by_field : ExtensionsAreByField) (tbs : Place) (fields : TbsCertificate) → AreOctets tbs.octets → IsTbsCertificate tbs fields → SaysConstraints fields.extensions
signed_says by_field tbs fields octets is =
    let inside = subst (AllByRecursion (λ m. AreOctets m.octets)) is.members_are (members_octets tbs octets) in
    let behind_versions = fit_behind is.versions _ inside in
    let behind_ids = fit_behind is.subject_ids is.extensions (fit_behind is.issuer_ids (is.subject_ids ++ is.extensions) behind_versions.1.1.1.1.1.1) in
    tagged_says by_field is.extensions fields.head.version fields.extensions behind_ids is.extensions_are

-- what is picked of the bases that are found
all_picked : (f : Pick) (of_base : Bool → SubtreeBase → Option (List ℕ)) (picks : Picks f of_base) (values : ExtensionValues) (constraints : NameConstraints) (bases : List Base)
    → SaysIfThere values.name_constraints IsNameConstraints no_constraints constraints → bases_in values ≡ Ok bases → filter_map f bases ≡ texts_of f of_base picks constraints
unfolding bases_in
all_picked f of_base picks values constraints bases = by values.name_constraints
  where
    by : (value : Option Place) → SaysIfThere value IsNameConstraints no_constraints constraints → read_if_there [] (in_constraints []) value ≡ Ok bases
        → filter_map f bases ≡ texts_of f of_base picks constraints
    by None is found = ap (filter_map f) (sym (ok_is {E = CertRule × ℕ} [] bases found)) ∙ ap (λ (c : NameConstraints). texts_of f of_base picks c) (sym is)
    by (Some value) is found =
        let added = constraints_added f of_base picks value constraints is [] in
        ap (filter_map f) (ok_is {E = CertRule × ℕ} bases added.new (sym found ∙ added.is)) ∙ added.picked

-- ---- the picks

abbrev pick_mail_base : Bool → Pick
pick_mail_base wanted (mail_base permitted value) = text_if (same_flag wanted permitted) value
pick_mail_base wanted _ = None

abbrev pick_host_base : Bool → Pick
pick_host_base wanted (host_base permitted value) = text_if (same_flag wanted permitted) value
pick_host_base wanted _ = None

-- the texts of bases of one form, of those that are permitted, or of those that are not
abbrev text_of_base : Bool → ℕ → Bool → SubtreeBase → Option (List ℕ)
text_of_base true j true = base_text j
text_of_base true j false = no_text
text_of_base false j true = no_text
text_of_base false j false = base_text j

picks_bases : (f : Pick) (wanted : Bool) (j : ℕ) → Served j → ((permitted : Bool) (v : Place) → f (mail_base permitted v) ≡ (if same_flag wanted permitted then text_if (1 == j) v else None))
    → ((permitted : Bool) (v : Place) → f (host_base permitted v) ≡ (if same_flag wanted permitted then text_if (6 == j) v else None))
    → Picks f (text_of_base wanted j)
picks_bases f wanted j served of_mail of_host permitted = by wanted permitted (of_mail permitted) (of_host permitted)
  where
    by : (wanted permitted : Bool) → ((v : Place) → f (mail_base permitted v) ≡ (if same_flag wanted permitted then text_if (1 == j) v else None))
        → ((v : Place) → f (host_base permitted v) ≡ (if same_flag wanted permitted then text_if (6 == j) v else None))
        → (value : Place) (b : SubtreeBase) → IsSubtreeBase value b → PicksOne f (base_found permitted value) (text_of_base wanted j permitted b)
    by true true first second = base_picked f true j served first second
    by false false first second = base_picked f false j served first second
    by true false first second = λ value b is. passed_over f (mail_base false value) (host_base false value) (tag value == 0x81) (tag value == 0x86) (first value) (second value)
    by false true first second = λ value b is. passed_over f (mail_base true value) (host_base true value) (tag value == 0x81) (tag value == 0x86) (first value) (second value)

none_if : (b : Bool) → ◌≡◌ {0} {A = Option (List ℕ)} None (if b then None else None)
none_if true = refl
none_if false = refl

text_if_is : (b : Bool) (v : Place) → text_if b v ≡ (if b then Some (body v) else None)
text_if_is true v = refl
text_if_is false v = refl

picks_mail_base : (wanted : Bool) → Picks (pick_mail_base wanted) (text_of_base wanted 1)
picks_mail_base wanted =
    picks_bases (pick_mail_base wanted) wanted 1 mail (λ permitted v. text_if_is (same_flag wanted permitted) v) (λ permitted v. none_if (same_flag wanted permitted))

picks_host_base : (wanted : Bool) → Picks (pick_host_base wanted) (text_of_base wanted 6)
picks_host_base wanted =
    picks_bases (pick_host_base wanted) wanted 6 uri (λ permitted v. none_if (same_flag wanted permitted)) (λ permitted v. text_if_is (same_flag wanted permitted) v)

-- ---- what the bases of one kind say

-- what is said of a base is said of its text
abbrev Agrees : {X : Type 0} → (Base → X → Type 0) → (List ℕ → X → Type 0) → Base → Bool → Option (List ℕ) → Type 0
Agrees {X} At Of said true (Some text) = (x : X) → At said x → Of text x
Agrees At Of said true None = ⊥
Agrees At Of said false (Some text) = ⊥
Agrees At Of said false None = Unit {0}

zip_one : {X : Type 0} (At : Base → X → Type 0) (Of : List ℕ → X → Type 0) (said : Base) (others : List Base) (texts : List (List ℕ)) → ((xs : List X) → AllZip At others xs → AllZip Of texts xs)
    → (b : Bool) (o : Option (List ℕ)) → Agrees At Of said b o → (xs : List X) → AllZip At (if b then said ∷ others else others) xs → AllZip Of (cons_option o texts) xs
zip_one At Of said others texts rest true (Some text) agree [] zip = absurd zip
zip_one At Of said others texts rest true (Some text) agree (x ∷ xs) zip = (agree x zip.0, rest xs zip.1)
zip_one At Of said others texts rest true None agree xs zip = absurd agree
zip_one At Of said others texts rest false (Some text) agree xs zip = absurd agree
zip_one At Of said others texts rest false None agree xs zip = rest xs zip

zip_texts : {X : Type 0} (At : Base → X → Type 0) (Of : List ℕ → X → Type 0) (p : Base → Bool) (f : Pick) → ((said : Base) → Agrees At Of said (p said) (f said))
    → (values : List Base) (xs : List X) → AllZip At (filter p values) xs → AllZip Of (filter_map f values) xs
zip_texts At Of p f agrees [] [] zip = tt
zip_texts At Of p f agrees [] (x ∷ xs) zip = absurd zip
zip_texts At Of p f agrees (said ∷ values) xs zip =
    zip_one At Of said (filter p values) (filter_map f values) (zip_texts At Of p f agrees values) (p said) (f said) (agrees said) xs zip

mail_base_agrees : (wanted : Bool) (said : Base) → Agrees IsMailBaseAt IsMailOf said (is_mail_base wanted said) (pick_mail_base wanted said)
mail_base_agrees wanted (mail_base permitted value) = by (same_flag wanted permitted)
  where
    by : (b : Bool) → Agrees IsMailBaseAt IsMailOf (mail_base permitted value) b (text_if b value)
    by true = λ names is. is
    by false = tt
mail_base_agrees wanted (host_base permitted value) = tt

host_base_agrees : (wanted : Bool) (said : Base) → Agrees IsHostBaseAt AreHostsOf said (is_host_base wanted said) (pick_host_base wanted said)
host_base_agrees wanted (host_base permitted value) = by (same_flag wanted permitted)
  where
    by : (b : Bool) → Agrees IsHostBaseAt AreHostsOf (host_base permitted value) b (text_if b value)
    by true = λ names is. is
    by false = tt
host_base_agrees wanted (mail_base permitted value) = tt

-- ---- the law

only_permitted : (h : SubtreeBase → Option (List ℕ)) (constraints : NameConstraints) → filter_map h constraints.permitted ++ filter_map no_text constraints.excluded ≡ filter_map h constraints.permitted
only_permitted h constraints = rw (no_texts constraints.excluded) (append-nil (filter_map h constraints.permitted))

only_excluded : (h : SubtreeBase → Option (List ℕ)) (constraints : NameConstraints) → filter_map no_text constraints.permitted ++ filter_map h constraints.excluded ≡ filter_map h constraints.excluded
only_excluded h constraints = rw (no_texts constraints.permitted) refl

module _ (c : Certificate) (hosts : CertificateHosts) (constraints : NameConstraints) (constrained : SaysIfThere c.extensions.values.name_constraints IsNameConstraints no_constraints constraints) (says : SaysHosts c hosts) where
  of_picked : {X : Type 0} (At : Base → X → Type 0) (Of : List ℕ → X → Type 0) (p : Base → Bool) (f : Pick) (of_base : Bool → SubtreeBase → Option (List ℕ)) (picks : Picks f of_base) (xs : List X) (texts : List (List ℕ))
      → ((base : Base) → Agrees At Of base (p base) (f base)) → AllZip At (filter p says.bases.bases) xs → texts_of f of_base picks constraints ≡ texts → AllZip Of texts xs
  of_picked At Of p f of_base picks xs texts agrees zip same =
      subst (λ (l : List (List ℕ)). AllZip Of l xs) (all_picked f of_base picks c.extensions.values constraints says.bases.bases constrained says.bases.found ∙ same)
      (zip_texts At Of p f agrees says.bases.bases xs zip)

  own_bases : HasItsBases constraints hosts
  own_bases = record {
    permitted_mail =
        of_picked IsMailBaseAt IsMailOf (is_mail_base true) (pick_mail_base true) (text_of_base true 1) (picks_mail_base true) hosts.permitted_mail _ (mail_base_agrees true) says.bases.said.permitted_mail
        (only_permitted (base_text 1) constraints);
    excluded_mail =
        of_picked IsMailBaseAt IsMailOf (is_mail_base false) (pick_mail_base false) (text_of_base false 1) (picks_mail_base false) hosts.excluded_mail _ (mail_base_agrees false) says.bases.said.excluded_mail
        (only_excluded (base_text 1) constraints);
    permitted_hosts =
        of_picked IsHostBaseAt AreHostsOf (is_host_base true) (pick_host_base true) (text_of_base true 6) (picks_host_base true) hosts.permitted_hosts _ (host_base_agrees true) says.bases.said.permitted_hosts
        (only_permitted (base_text 6) constraints);
    excluded_hosts =
        of_picked IsHostBaseAt AreHostsOf (is_host_base false) (pick_host_base false) (text_of_base false 6) (picks_host_base false) hosts.excluded_hosts _ (host_base_agrees false) says.bases.said.excluded_hosts
        (only_excluded (base_text 6) constraints);
  }

pub bases_are_its_own : ExtensionsAreByField → BasesAreItsOwn
bases_are_its_own by_field octets certificate hosts fits is e =
    own_bases certificate hosts certificate.extensions.name_constraints
    (subst (λ (c : Certificate). SaysConstraints c.extensions) (sym is.layout.fields_are) (signed_says by_field is.layout.signed is.layout.tbs inside.0 is.layout.signed_is))
    ((hosts_are_exact certificate hosts).0 e)
  where
    inside : AllByRecursion (λ (m : Place). AreOctets m.octets) (is.layout.signed ∷ is.layout.algorithm ∷ is.layout.signature.value ∷ [])
    inside = subst (AllByRecursion (λ (m : Place). AreOctets m.octets)) is.layout.members_are (members_octets (record { octets = octets; at = 0 }) fits)
