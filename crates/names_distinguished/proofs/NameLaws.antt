-- The walk over a name finds what the standard calls one, and nothing else.
use Rattle.std.proofs.Common.{◌≡◌, ◌≢◌, ℕ, ◌<◌, List, [], ◌∷◌, ◌++◌, Bool, true, false, not, Ok, refl, sym, ap, ◌∙◌, subst, inl, inr, append_assoc, append-nil, All, AllPairs, IsSortedBy, ne_of_lt, bytes_eq, arith}
use Rattle.std.specs.List.{AllByRecursion}
use Rattle.std.proofs.lemmas.Bool.{cases_eq, eq-eqb, ne_eqb, or_parts, or_from, false_from_ne_true, both_ways}
use Rattle.std.proofs.lemmas.Str.{IsUtf8-from_is_utf8, is_utf8-from_IsUtf8}
use Rattle.std.proofs.lemmas.Slice.Eq.{bytes_eq-Decides}
use Rattle.std.proofs.lemmas.List.Elements.{recursion_from_All, All-from_recursion, All-push, All-nil}
use Rattle.asn.specs.Place.{Place, tag, body}
use Rattle.asn.specs.Members.{Members, members}
use Rattle.asn.specs.Walk.{Leads}
use Rattle.asn.proofs.Laws.{bind_ok, ok_is, is_a_ok, is_a_again, required_ok, required_again, next_or_ok, next_or_again, ended_ok, ended_again, some_ok, some_again, check_ok, check_again, each_ok, each_again, members_before}
use Rattle.names_distinguished.specs.declared.fault.NameRule.{NameRule}
use Rattle.names_distinguished.specs.declared.fault.NameRule.TheVariants.{NameLayout, RdnRepeat, SetOrder, Text}
use Rattle.names_distinguished.specs.NameLayout.{AttributePlaces, attribute_members, has_kind, has_kind_before, is_less, is_string, attribute_order, attribute, attributes, rdn, one_more_rdn, name}
use Rattle.names_distinguished.specs.NameForms.{IsStringOf, IsAttributeAt, HaveOtherTypes, IsRdnAt, IsName, NameIsExact}
use Rattle.names_distinguished.proofs.Strings.{all_ascii, ascii_all}
use Rattle.names_distinguished.proofs.Pairs.{not_empty, has_one, pairs_before, pairs_push, FollowInOrder, sorted_from, follow_from}

-- strings
string_of : (identifier : ℕ) (contents : List ℕ) → is_string identifier contents ≡ true → IsStringOf identifier contents
unfolding is_string
string_of identifier contents e = record {
  utf8 = λ is. IsUtf8-from_is_utf8 contents (subst (λ k. is_string k contents ≡ true) is e);
  printable = λ is. ascii_all contents (subst (λ k. is_string k contents ≡ true) is e);
  ia5 = λ is. ascii_all contents (subst (λ k. is_string k contents ≡ true) is e);
}

of_string : (identifier : ℕ) (contents : List ℕ) → IsStringOf identifier contents → is_string identifier contents ≡ true
unfolding is_string
of_string identifier contents is =
    elim (cases_eq identifier 12) [
      | inl utf8 ↦ rw (eq-eqb identifier 12 utf8) (is_utf8-from_IsUtf8 contents (is.utf8 utf8))
      | inr not_utf8 ↦
          rw (ne_eqb identifier 12 not_utf8) (elim (cases_eq identifier 19) [
            | inl printable ↦ rw (eq-eqb identifier 19 printable) (all_ascii contents (is.printable printable))
            | inr not_printable ↦
                rw (ne_eqb identifier 19 not_printable) (elim (cases_eq identifier 22) [
                  | inl ia5 ↦ rw (eq-eqb identifier 22 ia5) (all_ascii contents (is.ia5 ia5))
                  | inr not_ia5 ↦ rw (ne_eqb identifier 22 not_ia5) refl
                ])
          ])
    ]

-- the members of an attribute
record HoldsMembers (place : Place) (parts : AttributePlaces) : Type 0 where
  pub sequence : tag place ≡ 0x30
  pub members_are : (members place).values ≡ parts.kind ∷ parts.value ∷ []
  pub identifier : tag parts.kind ≡ 0x06

members_ok : (place : Place) (parts : AttributePlaces) → attribute_members place ≡ Ok parts → HoldsMembers place parts
unfolding attribute_members
members_ok place parts e =
    let sequence = bind_ok _ _ parts e in
    let kind = bind_ok _ _ parts sequence.2 in
    let value = bind_ok _ _ parts kind.2 in
    let done = bind_ok _ _ parts value.2 in
    let first = required_ok _ _ _ _ kind.1 in
    let second = next_or_ok _ _ _ value.1 in
    let end = ended_ok _ _ _ done.1 in
    subst (HoldsMembers place) (ok_is {E = NameRule × ℕ} _ parts done.2) record {
      sequence = is_a_ok _ _ _ _ sequence.1;
      members_are = first.values ∙ ap (◌∷◌ kind.0.0) (second.values ∙ ap (◌∷◌ value.0.0) end);
      identifier = first.tag_is;
    }

parts_of : {place : Place} → IsAttributeAt place → AttributePlaces
parts_of is = record { kind = is.kind; value = is.value }

pub members_again : (place : Place) (is : IsAttributeAt place) → attribute_members place ≡ Ok (record { kind = is.kind; value = is.value })
unfolding attribute_members
members_again place is =
    let left : List Place → Members = λ values. record { values = values; end = (members place).end } in
    rw (is_a_again 0x30 NameLayout place is.sequence, required_again 6 NameLayout (members place) is.kind (is.value ∷ []) is.members_are is.identifier, next_or_again NameLayout (left (is.value ∷ [])) is.value [] refl, ended_again NameLayout (left []) refl) refl

pub same_kind : {place : Place} (one other : IsAttributeAt place) → one.kind ≡ other.kind
same_kind one other = let e = sym one.members_are ∙ other.members_are in cc

-- the types of other attributes
has_kind_is : (kind : List ℕ) (place : Place) (is : IsAttributeAt place) → has_kind kind place ≡ bytes_eq (body is.kind) kind
unfolding has_kind
has_kind_is kind place is = rw (members_again place is) refl

other_types : (one other : Place) (is : IsAttributeAt other) → has_kind (body is.kind) one ≡ false → HaveOtherTypes one other
other_types one other is not_so first second same =
    both_ways (has_kind (body is.kind) one) not_so
    (has_kind_is (body is.kind) one first ∙ (bytes_eq-Decides (body first.kind) (body is.kind)).1 (same ∙ ap body (same_kind second is)))

types_differ : (one other : Place) (first : IsAttributeAt one) (is : IsAttributeAt other) → HaveOtherTypes one other → has_kind (body is.kind) one ≡ false
types_differ one other first is differ =
    has_kind_is (body is.kind) one first
    ∙ false_from_ne_true (bytes_eq (body first.kind) (body is.kind)) (λ t. differ first is ((bytes_eq-Decides (body first.kind) (body is.kind)).0 t))

-- of the places that stand before one, with lesser offsets, none has the type
none_before : (kind : List ℕ) (place : Place) (before behind : List Place) → AllByRecursion (λ earlier. earlier.at < place.at) before → has_kind_before kind place.at (before ++ place ∷ behind) ≡ false → AllByRecursion (λ earlier. has_kind kind earlier ≡ false) before
none_before kind place [] behind less e = tt
none_before kind place (first ∷ before) behind less e =
    let e = rw (ne_eqb first.at place.at (ne_of_lt less.0)) at e in
    let both = or_parts (has_kind kind first) (has_kind_before kind place.at (before ++ place ∷ behind)) e in
    (both.0, none_before kind place before behind less.1 both.1)

before_none : (kind : List ℕ) (place : Place) (before behind : List Place) → AllByRecursion (λ earlier. earlier.at < place.at) before → AllByRecursion (λ earlier. has_kind kind earlier ≡ false) before → has_kind_before kind place.at (before ++ place ∷ behind) ≡ false
before_none kind place [] behind less none = rw (eq-eqb place.at place.at refl) refl
before_none kind place (first ∷ before) behind less none =
    rw (ne_eqb first.at place.at (ne_of_lt less.0)) (or_from (has_kind kind first) (has_kind_before kind place.at (before ++ place ∷ behind)) none.0 (before_none kind place before behind less.1 none.1))

-- an attribute of an RDN, behind one with those octets
record IsNext (all : List Place) (before : List ℕ) (place : Place) (octets : List ℕ) : Type 0 where
  pub is : IsAttributeAt place
  pub new : has_kind_before (body is.kind) place.at all ≡ false
  pub order : is_less place.octets before ≡ false
  pub octets_are : place.octets ≡ octets

is_not : (b : Bool) → not b ≡ true → b ≡ false
is_not true e = absurd cc
is_not false e = refl

next_ok : (all : List Place) (before : List ℕ) (place : Place) (octets : List ℕ) → attribute all before place ≡ Ok octets → IsNext all before place octets
unfolding attribute attribute_order
next_ok all before place octets e =
    let parts = bind_ok _ _ octets e in
    let ordered = bind_ok _ _ octets parts.2 in
    let string = bind_ok _ _ octets ordered.2 in
    let new = bind_ok _ _ ordered.0 ordered.1 in
    let shown = members_ok place parts.0 parts.1 in
    record {
      is = record {
        kind = parts.0.kind;
        value = parts.0.value;
        sequence = shown.sequence;
        members_are = shown.members_are;
        identifier = shown.identifier;
        string = string_of (tag parts.0.value) (body parts.0.value) (check_ok _ _ _ _ string.1);
      };
      new = is_not _ (check_ok _ _ _ _ new.1);
      order = is_not _ (check_ok _ _ _ _ new.2);
      octets_are = ok_is {E = NameRule × ℕ} _ octets string.2;
    }

next_again : (all : List Place) (before : List ℕ) (place : Place) (octets : List ℕ) → IsNext all before place octets → attribute all before place ≡ Ok octets
unfolding attribute attribute_order
next_again all before place octets next =
    let is = next.is in
    rw (members_again place is, check_again (not (has_kind_before (body is.kind) place.at all)) RdnRepeat place.at (ap not next.new), check_again (not (is_less place.octets before)) SetOrder place.at (ap not next.order), check_again (is_string (tag is.value) (body is.value)) Text is.value.at (of_string (tag is.value) (body is.value) is.string)) (ap (λ o. Ok o) next.octets_are)

-- the attributes of an RDN
less_octets : Place → Place → Bool
less_octets one other = is_less one.octets other.octets

abbrev Precede : List Place → Type 0
Precede all = (before behind : List Place) (place : Place) → all ≡ before ++ place ∷ behind → AllByRecursion (λ earlier. earlier.at < place.at) before

are_attributes : (all : List Place) (before : List ℕ) (places : List Place) (last : List ℕ) → Leads (IsNext all) before places last → AllByRecursion IsAttributeAt places
are_attributes all before [] last leads = tt
are_attributes all before (place ∷ places) last (next, one, others) = (one.is, are_attributes all next places last others)

more_of : (all done : List Place) (place : Place) (places : List Place) → all ≡ done ++ place ∷ places → all ≡ (done ++ place ∷ []) ++ places
more_of all done place places e = e ∙ sym (append_assoc done (place ∷ []) places)

have_other_types : (all done places : List Place) (before last : List ℕ) → Precede all → all ≡ done ++ places → AllPairs HaveOtherTypes done → Leads (IsNext all) before places last → AllPairs HaveOtherTypes all
have_other_types all done [] before last precede e pairs leads = subst (AllPairs HaveOtherTypes) (sym (e ∙ append-nil done)) pairs
have_other_types all done (place ∷ places) before last precede e pairs (next, one, others) =
    let kind = body one.is.kind in
    let none = none_before kind place done places (precede done places place e) (subst (λ (l : List Place). has_kind_before kind place.at l ≡ false) e one.new) in
    have_other_types all (done ++ place ∷ []) places next last precede (more_of all done place places e) (pairs_push HaveOtherTypes done place pairs (each_other done none)) others
  where
    each_other : (before : List Place) → AllByRecursion (λ earlier. has_kind (body one.is.kind) earlier ≡ false) before → AllByRecursion (λ earlier. HaveOtherTypes earlier place) before
    each_other [] none = tt
    each_other (first ∷ before) none = (other_types first place one.is none.0, each_other before none.1)

follow_in_order : (all : List Place) (place : Place) (places : List Place) (last : List ℕ) → Leads (IsNext all) place.octets places last → FollowInOrder less_octets place places
unfolding less_octets
follow_in_order all place [] last leads = tt
follow_in_order all place (first ∷ places) last (next, one, others) =
    (one.order, follow_in_order all first places last (subst (λ o. Leads (IsNext all) o places last) (sym one.octets_are) others))

-- the walk again, from what the definition says of all of them
abbrev Ordered : List ℕ → List Place → Type 0
Ordered before [] = Unit {0}
Ordered before (place ∷ places) = (is_less place.octets before ≡ false) × Ordered place.octets places

ordered : (place : Place) (places : List Place) → FollowInOrder less_octets place places → Ordered place.octets places
unfolding less_octets
ordered place [] follow = tt
ordered place (first ∷ places) follow = (follow.0, ordered first places follow.1)

leads_again : (all done places : List Place) (before : List ℕ) → Precede all → all ≡ done ++ places → AllPairs HaveOtherTypes all → All IsAttributeAt done → AllByRecursion IsAttributeAt places → Ordered before places → (last : List ℕ) × Leads (IsNext all) before places last
leads_again all done [] before precede e pairs earlier are order = (before, refl)
leads_again all done (place ∷ places) before precede e pairs earlier are order =
    let is = are.0 in
    let others = pairs_before HaveOtherTypes done places place (subst (AllPairs HaveOtherTypes) e pairs) in
    let none = before_none (body is.kind) place done places (precede done places place e) (each_other done (recursion_from_All IsAttributeAt done earlier) others) in
    let rest = leads_again all (done ++ place ∷ []) places place.octets precede (more_of all done place places e) pairs (All-push IsAttributeAt done place earlier is) are.1 order.1 in (
      rest.0,
      (
        place.octets,
        record { is = is; new = subst (λ (l : List Place). has_kind_before (body is.kind) place.at l ≡ false) (sym e) none; order = order.0; octets_are = refl },
        rest.1,
      ),
    )
  where
    each_other : (before : List Place) → AllByRecursion IsAttributeAt before → AllByRecursion (λ earlier. HaveOtherTypes earlier place) before → AllByRecursion (λ earlier. has_kind (body are.0.kind) earlier ≡ false) before
    each_other [] are_so differ = tt
    each_other (first ∷ before) are_so differ = (types_differ first place are_so.0 are.0 differ.0, each_other before are_so.1 differ.1)

-- RDNs
nothing_less : (octets : List ℕ) → is_less octets [] ≡ false
nothing_less [] = refl
nothing_less (octet ∷ octets) = refl

sorted_attributes : (all : List Place) (last : List ℕ) → Leads (IsNext all) [] all last → all ≢ [] → IsSortedBy less_octets all
sorted_attributes all last leads some = by all all refl some leads where
  by : (whole places : List Place) → whole ≡ all → places ≢ [] → Leads (IsNext whole) [] places last → IsSortedBy less_octets places
  by whole [] e some leads = absurd (some refl)
  by whole (place ∷ places) e some (next, one, others) =
      sorted_from less_octets place places (follow_in_order whole place places last (subst (λ o. Leads (IsNext whole) o places last) (sym one.octets_are) others))

pub is_rdn : (place : Place) (u : Unit {0}) → rdn place ≡ Ok u → IsRdnAt place
unfolding rdn attributes less_octets
is_rdn place u e =
    let set = bind_ok _ _ u e in
    let one = bind_ok _ _ u set.2 in
    let walked = bind_ok _ _ u one.2 in
    let first = some_ok _ _ _ one.1 in
    let all = (members place).values in
    let some : all ≢ [] = has_one all first.0 first.1 first.2 in
    let leads = each_ok (attribute all) (IsNext all) (next_ok all) [] all walked.0 walked.1 in
    record {
      set = is_a_ok _ _ _ _ set.1;
      some = some;
      attributes = All-from_recursion IsAttributeAt all (are_attributes all [] all walked.0 leads);
      types = have_other_types all [] all [] walked.0 (members_before place) refl (λ i j d lt within. absurd (omega arith)) leads;
      order = sorted_attributes all walked.0 leads some;
    }

pub rdn_is : (place : Place) → IsRdnAt place → rdn place ≡ Ok tt
unfolding rdn attributes less_octets
rdn_is place is =
    let all = (members place).values in
    let first = not_empty all is.some in
    let follow = ordered_all all is.order in
    let leads = leads_again all [] all [] (members_before place) refl is.types (All-nil IsAttributeAt) (recursion_from_All IsAttributeAt all is.attributes) follow in
    rw (is_a_again 0x31 NameLayout place is.set, some_again NameLayout (members place) first.0 first.1 first.2, each_again (attribute all) (IsNext all) (next_again all) [] all leads.0 leads.1) refl
  where
    ordered_all : (places : List Place) → IsSortedBy less_octets places → Ordered [] places
    ordered_all [] sorted = tt
    ordered_all (place ∷ places) sorted = (nothing_less place.octets, ordered place places (follow_from less_octets place places sorted))

-- names
abbrev IsOneRdn : Unit {0} → Place → Unit {0} → Type 0
IsOneRdn earlier place later = IsRdnAt place

rdns_of_leads : (places : List Place) (from to : Unit {0}) → Leads IsOneRdn from places to → AllByRecursion IsRdnAt places
rdns_of_leads [] from to leads = tt
rdns_of_leads (place ∷ places) from to (next, one, others) = (one, rdns_of_leads places next to others)

leads_of_rdns : (places : List Place) → AllByRecursion IsRdnAt places → Leads IsOneRdn tt places tt
leads_of_rdns [] are = refl
leads_of_rdns (place ∷ places) are = (tt, are.0, leads_of_rdns places are.1)

pub is_name : (place : Place) (u : Unit {0}) → name place ≡ Ok u → IsName place
unfolding name
is_name place u e =
    let sequence = bind_ok _ _ u e in
    let leads = each_ok one_more_rdn IsOneRdn (λ from place to. is_rdn place to) tt (members place).values u sequence.2 in
    record {
      sequence = is_a_ok _ _ _ _ sequence.1;
      rdns = All-from_recursion IsRdnAt (members place).values (rdns_of_leads (members place).values tt u leads);
    }

pub name_is : (place : Place) → IsName place → name place ≡ Ok tt
unfolding name
name_is place is =
    let rdns = (members place).values in
    rw (is_a_again 0x30 NameLayout place is.sequence) (each_again one_more_rdn IsOneRdn (λ from place to is. rdn_is place is) tt rdns tt (leads_of_rdns rdns (recursion_from_All IsRdnAt rdns is.rdns)))

pub name_is_exact : NameIsExact
name_is_exact place = (is_name place tt, name_is place)
