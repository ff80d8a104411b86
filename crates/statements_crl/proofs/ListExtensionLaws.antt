-- The walk of the extensions of a list finds what the standard calls them, with the number and the scope that they give, and nothing
-- else.
use Rattle.std.proofs.Common.{◌≡◌, ◌≢◌, ◌==◌, ◌&&◌, ◌<◌, ◌⊎◌, ℕ, suc, Bool, true, false, not, nat_lt, List, [], ◌∷◌, ◌++◌, length, IsTrue, All, Any, AllPairs, Option, Some, None, Ok, if◌then◌else◌, arith, refl, sym, ap, ◌∙◌, subst, eq-eqb, inl, inr}
use Rattle.std.specs.List.{AllByRecursion, AllZip}
use Rattle.std.specs.FinSet.{empty, contains, insert}
use Rattle.std.specs.Str.{bytes_eq}
use Rattle.std.proofs.lemmas.Bool.{and_parts, ltb-true, lt-ltb, eqb-true}
use Rattle.std.proofs.lemmas.List.Elements.{All-nil, All-cons, All-head, All-tail}
use Rattle.std.proofs.lemmas.Slice.Eq.{bytes_eq-Decides}
use Rattle.asn.specs.DerLaws.{AreOctets}
use Rattle.asn.specs.Value.{primitive, constructed, none, more}
use Rattle.asn.specs.Identifier.{is_refused, is_constructed}
use Rattle.asn.specs.Contents.{IsContents}
use Rattle.asn.specs.Length.{length_octets}
use Rattle.asn.specs.Encoding.{encoding_of, Encodes}
use Rattle.asn.specs.Integer.{binary_value}
use Rattle.asn.specs.Place.{Place, body}
use Rattle.asn.specs.Members.{members}
use Rattle.asn.specs.Walk.{◌>>=◌, is_a, each, check_that, or_fault, some, Leads}
use Rattle.asn.proofs.Laws.{bind_ok, ok_is, check_ok, check_again, is_a_ok, is_a_again, some_again, each_ok, members_octets, body_octets}
use Rattle.cert.specs.Extension.{Extension, IsExtension}
use Rattle.cert.specs.Extensions.{certificate_extension}
use Rattle.cert.specs.OidSet.{Oids}
use Rattle.statements_facts.specs.declared.scope.Scope.{Scope}
use Rattle.statements_facts.specs.declared.scope.Scope.TheVariants as S
use Rattle.statements_parts.specs.Parts.{new_extension}
use Rattle.statements_parts.proofs.Laws.{AreNew, new_pairs, pairs_are_new, new_extension_ok, new_extension_again}
use Rattle.statements_parts.specs.declared.fault.StatementRule.{StatementRule}
use Rattle.statements_parts.specs.declared.fault.StatementRule.TheVariants as R
use Rattle.statements_crl.specs.declared.list_extension.ListExtensionKind.{ListExtensionKind}
use Rattle.statements_crl.specs.declared.list_extension.ListExtensionKind.TheVariants as Kind
use Rattle.statements_crl.specs.CrlNumber.{is_crl_number, number_in}
use Rattle.statements_facts.specs.declared.profile.Profile.{Profile}
use Rattle.statements_crl.specs.IssuingPoint.{IssuingPoint, issuing_point}
use Rattle.statements_crl.specs.ListExtension.{list_extension_kind, ListExtensions, no_list_extensions, numbered, issued_at, said_with, said_by, TakenOfList, nothing_taken_of_list, one_list_extension, NumberAndScope, number_and_scope}
use Rattle.statements_crl.specs.EntryForms.{id_ce}
use Rattle.statements_crl.specs.ListForms.{IsCrlNumber, HasIssuingPoint, HasListExtensions}
use Rattle.statements_crl.proofs.Numbers.{test_finds, test_knows}
use Rattle.statements_crl.proofs.ExtensionTypes.{some_where, one_number, HasListType, has_list_type, has_number, Differs, others_differ, some_or_none, not_all_differ, is_some_of, false_of, not_critical, uncritical}
use Rattle.statements_crl.proofs.ReasonLaws.{some_is}
use Rattle.statements_crl.proofs.IssuingPointLaws.{point_ok, point_read}

-- the octets of a number
number_octets : (octets contents : List ℕ) → number_in octets ≡ Some contents → (octets ≡ 0x02 ∷ length contents ∷ contents) × IsTrue (is_crl_number contents)
unfolding number_in
number_octets [] contents e = absurd cc
number_octets (identifier ∷ []) contents e = absurd cc
number_octets (identifier ∷ size ∷ found) contents e =
    let chosen = some_where (identifier == 0x02 && (size == length found && is_crl_number found)) found contents e in
    let first = and_parts (identifier == 0x02) (size == length found && is_crl_number found) chosen.0 in
    let second = and_parts (size == length found) (is_crl_number found) first.1 in
    let spelled : identifier ∷ size ∷ found ≡ 0x02 ∷ length found ∷ found = rw (eqb-true identifier 0x02 first.0, eqb-true size (length found) second.0) refl in
    let P : List ℕ → Type 0 = λ x. (identifier ∷ size ∷ found ≡ 0x02 ∷ length x ∷ x) × IsTrue (is_crl_number x) in
    subst P chosen.1 (spelled, second.1)

short_by : (zero high low : Bool) (octets : List ℕ) → (if zero then high && nat_lt (length octets) 20 else low && nat_lt (length octets) 19) ≡ true → length octets < 20
short_by true high low octets e = ltb-true (length octets) 20 (and_parts high (nat_lt (length octets) 20) e).1
short_by false high low octets e = let few = ltb-true (length octets) 19 (and_parts low (nat_lt (length octets) 19) e).1 in omega arith

short_number : (contents : List ℕ) → IsTrue (is_crl_number contents) → length contents < 128
unfolding is_crl_number
short_number [] e = absurd cc
short_number (first ∷ []) e = omega arith
short_number (first ∷ second ∷ octets) e = let few = short_by (first == 0) (not (nat_lt second 128)) (nat_lt first 128) octets e in omega arith

short_form : (contents : List ℕ) → length contents < 128 → encoding_of 0x02 contents ≡ 0x02 ∷ length contents ∷ contents
short_form contents short = rw (lt-ltb (length contents) 128 short) refl

contents_octets : (octets : List ℕ) (identifier size : ℕ) (contents : List ℕ) → octets ≡ identifier ∷ size ∷ contents → AreOctets octets → AreOctets contents
contents_octets octets identifier size contents e fits = λ k. (subst AreOctets e fits) (suc (suc k))

number_ok : (one : Extension) (contents : List ℕ) → AreOctets (body one.value) → number_in (body one.value) ≡ Some contents → IsCrlNumber one contents
number_ok one contents fits e =
    let read = number_octets (body one.value) contents e in
    let is = test_finds contents (contents_octets (body one.value) 0x02 (length contents) contents read.0 fits) read.1 in
    let short = short_number contents read.1 in
    record {
      number = binary_value contents;
      integer = (
        omega arith,
        refl,
        refl,
        (λ i. absurd cc, λ i. is.content, λ i. absurd cc, λ i. absurd cc, λ i. absurd cc, λ i. absurd cc),
        omega arith,
        read.0 ∙ sym (short_form contents short),
      );
      is_number = is;
    }

last_octets : (front behind : List ℕ) → AreOctets (front ++ behind) → AreOctets behind
last_octets [] behind fits = fits
last_octets (octet ∷ front) behind fits = last_octets front behind (λ k. fits (suc k))

number_spelled : (one : Extension) (contents : List ℕ) → AreOctets (body one.value) → IsCrlNumber one contents → (body one.value ≡ 0x02 ∷ length contents ∷ contents) × IsTrue (is_crl_number contents)
number_spelled one contents fits is =
    let own = last_octets (0x02 ∷ length_octets (length contents)) contents (subst AreOctets is.integer.5 fits) in
    let known = test_knows contents is.number own is.is_number in
    (is.integer.5 ∙ short_form contents (short_number contents known), known)

number_read : (contents : List ℕ) → IsTrue (is_crl_number contents) → number_in (0x02 ∷ length contents ∷ contents) ≡ Some contents
unfolding number_in
number_read contents is = rw (eq-eqb (length contents) (length contents) refl, is) refl

-- what one extension says
abbrev IsKnown : Extension → Type 0
IsKnown one = one.critical ≡ true → (one.oid ≡ id_ce 20) ⊎ (one.oid ≡ id_ce 28)

abbrev HasNumber : Extension → Option (List ℕ) → Type 0
HasNumber one None = ⊥
HasNumber one (Some contents) = IsCrlNumber one contents

abbrev GivesNumber : Option (List ℕ) → Extension → Type 0
GivesNumber number one = one.oid ≡ id_ce 20 → HasNumber one number

abbrev HasPoint : Profile → Extension → IssuingPoint → Type 0
HasPoint profile one point = HasIssuingPoint profile one point.scope point.points

abbrev GivesPoint : Profile → IssuingPoint → Extension → Type 0
GivesPoint profile point one = one.oid ≡ id_ce 28 → HasPoint profile one point

abbrev said_point : ListExtensions → IssuingPoint
said_point said = record { scope = said.scope; points = said.points }

record Tells (profile : Profile) (one : Extension) (before after : ListExtensions) : Type 0 where
  number : GivesNumber after.number one
  number_kept : one.oid ≢ id_ce 20 → after.number ≡ before.number
  complete : one.oid ≢ id_ce 27
  point : GivesPoint profile (said_point after) one
  point_kept : one.oid ≢ id_ce 28 → said_point after ≡ said_point before
  known : IsKnown one

tells_by : (profile : Profile) (kind : ListExtensionKind) (one : Extension) (before after : ListExtensions) → AreOctets (body one.value) → HasListType kind one.oid → said_with profile kind one before ≡ Ok after → Tells profile one before after
tells_by profile Kind.CrlNumber one before after fits is e =
    let number = bind_ok {A = List ℕ} (or_fault (number_in (body one.value)) R.NumberRange one.whole.at) (λ number. Ok (numbered before number)) after e in
    let found = some_is (number_in (body one.value)) R.NumberRange one.whole.at number.0 number.1 in
    subst (Tells profile one before) (ok_is {E = StatementRule × ℕ} (numbered before number.0) after number.2) record {
      number = λ same. number_ok one number.0 fits found;
      number_kept = λ differ. absurd (differ is);
      complete = one_number one.oid 20 27 is refl;
      point = λ same. absurd (one_number one.oid 20 28 is refl same);
      point_kept = λ differ. refl;
      known = λ critical. inl is;
    }
tells_by profile Kind.DeltaIndicator one before after fits is e = absurd cc
tells_by profile Kind.IssuingDistributionPoint one before after fits is e =
    let point = bind_ok {A = IssuingPoint} (or_fault (issuing_point profile one.value) R.Scope one.whole.at) (λ point. Ok (issued_at before point)) after e in
    let found = some_is (issuing_point profile one.value) R.Scope one.whole.at point.0 point.1 in
    subst (Tells profile one before) (ok_is {E = StatementRule × ℕ} (issued_at before point.0) after point.2) record {
      number = λ same. absurd (one_number one.oid 28 20 is refl same);
      number_kept = λ differ. refl;
      complete = one_number one.oid 28 27 is refl;
      point = λ same. point_ok profile one point.0 fits found;
      point_kept = λ differ. absurd (differ is);
      known = λ critical. inr is;
    }
tells_by profile Kind.Other one before after fits is e =
    let free = bind_ok {A = Unit {0}} (check_that (not one.critical) R.CriticalUnknown one.whole.at) (λ free. Ok before) after e in
    subst (Tells profile one before) (ok_is {E = StatementRule × ℕ} before after free.2) record {
      number = λ same. absurd (is.0 same);
      number_kept = λ differ. refl;
      complete = is.1;
      point = λ same. absurd (is.2 same);
      point_kept = λ differ. refl;
      known = λ critical. absurd (not_critical one.critical (false_of one.critical (check_ok _ _ _ _ free.1)) critical);
    }

said_ok : (profile : Profile) (one : Extension) (before after : ListExtensions) → AreOctets (body one.value) → said_by profile one before ≡ Ok after → Tells profile one before after
unfolding said_by
said_ok profile one before after fits e = tells_by profile (list_extension_kind one.oid) one before after fits (has_list_type one.oid) e

-- and back
number_said : (profile : Profile) (one : Extension) (before : ListExtensions) (contents : List ℕ) → AreOctets (body one.value) → one.oid ≡ id_ce 20 → IsCrlNumber one contents → said_by profile one before ≡ Ok (numbered before contents)
unfolding said_by list_extension_kind certificate_extension
number_said profile one before contents fits same is =
    let spelled = number_spelled one contents fits is in
    let read : number_in (body one.value) ≡ Some contents = ap number_in spelled.0 ∙ number_read contents spelled.1 in
    ap (λ oid. said_with profile (list_extension_kind oid) one before) same ∙ ap (λ o. or_fault o R.NumberRange one.whole.at >>= λ number. Ok (numbered before number)) read

point_said : (profile : Profile) (one : Extension) (before : ListExtensions) (point : IssuingPoint) → AreOctets (body one.value) → one.oid ≡ id_ce 28 → HasPoint profile one point → said_by profile one before ≡ Ok (issued_at before point)
unfolding said_by list_extension_kind certificate_extension
point_said profile one before point fits same is =
    ap (λ oid. said_with profile (list_extension_kind oid) one before) same ∙ ap (λ o. or_fault o R.Scope one.whole.at >>= λ point. Ok (issued_at before point)) (point_read profile one point fits is)

neither : (one : Extension) → one.oid ≢ id_ce 20 → one.oid ≢ id_ce 28 → (one.oid ≡ id_ce 20) ⊎ (one.oid ≡ id_ce 28) → ⊥
neither one first second (inl same) = first same
neither one first second (inr same) = second same

nothing_by : (profile : Profile) (kind : ListExtensionKind) (one : Extension) (before : ListExtensions) → HasListType kind one.oid → one.oid ≢ id_ce 20 → one.oid ≢ id_ce 27 → one.oid ≢ id_ce 28 → IsKnown one → said_with profile kind one before ≡ Ok before
nothing_by profile Kind.CrlNumber one before is number complete scope known = absurd (number is)
nothing_by profile Kind.DeltaIndicator one before is number complete scope known = absurd (complete is)
nothing_by profile Kind.IssuingDistributionPoint one before is number complete scope known = absurd (scope is)
nothing_by profile Kind.Other one before is number complete scope known =
    rw (check_again (not one.critical) R.CriticalUnknown one.whole.at (uncritical one.critical (λ critical. neither one number scope (known critical)))) refl

nothing_said_by : (profile : Profile) (one : Extension) (before : ListExtensions) → one.oid ≢ id_ce 20 → one.oid ≢ id_ce 27 → one.oid ≢ id_ce 28 → IsKnown one → said_by profile one before ≡ Ok before
unfolding said_by
nothing_said_by profile one before number complete scope known = nothing_by profile (list_extension_kind one.oid) one before (has_list_type one.oid) number complete scope known

-- what holds of all of a list holds of those at its end
pub all_behind : (P : Place → Type 0) (front behind : List Place) → AllByRecursion P (front ++ behind) → AllByRecursion P behind
all_behind P [] behind all = all
all_behind P (place ∷ front) behind all = all_behind P front behind all.1

abbrev pub Octets : Place → Type 0
Octets value = AreOctets value.octets

value_octets : (value : Place) (one : Extension) → AreOctets value.octets → IsExtension value one → AreOctets (body one.value)
value_octets value one fits is =
    let all = subst (AllByRecursion Octets) is.members_are (members_octets value fits) in
    body_octets one.value (all_behind Octets is.flags (one.value ∷ []) all.1).0

-- one more extension
abbrev type_of : Extension → List ℕ
type_of one = one.oid

record Step (profile : Profile) (from : TakenOfList) (value : Place) (to : TakenOfList) : Type 0 where
  one : Extension
  is : IsExtension value one
  new : contains from.types one.oid ≡ false
  added : to.types ≡ insert from.types one.oid
  tells : Tells profile one from.said to.said

abbrev taken_with : Oids → ListExtensions → TakenOfList
taken_with types said = record { types = types; said = said }

abbrev StepIn : Profile → TakenOfList → Place → TakenOfList → Type 0
StepIn profile from value to = AreOctets value.octets → Step profile from value to

step_ok : (profile : Profile) (from : TakenOfList) (value : Place) (to : TakenOfList) → one_list_extension profile from value ≡ Ok to → StepIn profile from value to
unfolding one_list_extension
step_ok profile from value to e fits =
    let read = bind_ok {A = Extension × Oids} (new_extension from.types value) _ to e in
    let said = bind_ok {A = ListExtensions} (said_by profile read.0.0 from.said) _ to read.2 in
    let found = new_extension_ok from.types value read.0 read.1 in
    let made = taken_with read.0.1 said.0 in
    subst (Step profile from value) {x = made} (ok_is {E = StatementRule × ℕ} made to said.2) record {
      one = read.0.0;
      is = found.is;
      new = found.new;
      added = found.added_is;
      tells = said_ok profile read.0.0 from.said said.0 (value_octets value read.0.0 fits found.is) said.1;
    }

step_again : (profile : Profile) (from : TakenOfList) (value : Place) (one : Extension) (after : ListExtensions) → IsExtension value one → contains from.types one.oid ≡ false → said_by profile one from.said ≡ Ok after → one_list_extension profile from value ≡ Ok (taken_with (insert from.types one.oid) after)
unfolding one_list_extension
step_again profile from value one after is new says = rw (new_extension_again from.types value one is new, says) refl

-- extensions in a list
record Reads (profile : Profile) (from : TakenOfList) (values : List Place) (to : TakenOfList) : Type 0 where
  list : List Extension
  each : AllZip IsExtension values list
  new : AreNew type_of from.types list
  number : All (GivesNumber to.said.number) list
  number_kept : All (Differs 20) list → to.said.number ≡ from.said.number
  complete : All (Differs 27) list
  point : All (GivesPoint profile (said_point to.said)) list
  point_kept : All (Differs 28) list → said_point to.said ≡ said_point from.said
  known : All IsKnown list

abbrev Pairs : List Extension → Type 0
Pairs list = AllPairs (λ one other. one.oid ≢ other.oid) list

first_number : (profile : Profile) (one : Extension) (others : List Extension) (from next to : ListExtensions) → Tells profile one from next → Pairs (one ∷ others) → (All (Differs 20) others → to.number ≡ next.number) → GivesNumber to.number one
first_number profile one others from next to tells pairs kept is =
    subst (HasNumber one) (sym (kept (others_differ 20 one others pairs is))) (tells.number is)

first_point : (profile : Profile) (one : Extension) (others : List Extension) (from next to : ListExtensions) → Tells profile one from next → Pairs (one ∷ others) → (All (Differs 28) others → said_point to ≡ said_point next) → GivesPoint profile (said_point to) one
first_point profile one others from next to tells pairs kept is =
    subst (HasPoint profile one) (sym (kept (others_differ 28 one others pairs is))) (tells.point is)

reads_of : (profile : Profile) (from : TakenOfList) (values : List Place) (to : TakenOfList) → Leads (StepIn profile) from values to → AllByRecursion Octets values → Reads profile from values to
reads_of profile from [] to same fits = record {
  list = [];
  each = tt;
  new = tt;
  number = All-nil (GivesNumber to.said.number);
  number_kept = λ absent. ap (λ (t : TakenOfList). t.said.number) (sym same);
  complete = All-nil (Differs 27);
  point = All-nil (GivesPoint profile (said_point to.said));
  point_kept = λ absent. ap (λ (t : TakenOfList). said_point t.said) (sym same);
  known = All-nil IsKnown;
}
reads_of profile from (value ∷ values) to (next, step_in, others) fits =
    let step = step_in fits.0 in
    let rest = reads_of profile next values to others fits.1 in
    let one = step.one in
    let new : AreNew type_of from.types (one ∷ rest.list) = (step.new, subst (λ types. AreNew type_of types rest.list) step.added rest.new) in
    let pairs = new_pairs type_of from.types (one ∷ rest.list) new in record {
      list = one ∷ rest.list;
      each = (step.is, rest.each);
      new = new;
      number = All-cons (GivesNumber to.said.number) one rest.list (first_number profile one rest.list from.said next.said to.said step.tells pairs rest.number_kept) rest.number;
      number_kept = λ absent. rest.number_kept (All-tail (Differs 20) one rest.list absent) ∙ step.tells.number_kept (All-head (Differs 20) one rest.list absent);
      complete = All-cons (Differs 27) one rest.list step.tells.complete rest.complete;
      point = All-cons (GivesPoint profile (said_point to.said)) one rest.list (first_point profile one rest.list from.said next.said to.said step.tells pairs rest.point_kept) rest.point;
      point_kept = λ absent. rest.point_kept (All-tail (Differs 28) one rest.list absent) ∙ step.tells.point_kept (All-head (Differs 28) one rest.list absent);
      known = All-cons IsKnown one rest.list step.tells.known rest.known;
    }

-- and back: the extensions give this number and this scope
abbrev named_point : NumberAndScope → IssuingPoint
named_point fields = record { scope = fields.scope; points = fields.points }

record Given (profile : Profile) (fields : NumberAndScope) (list : List Extension) : Type 0 where
  number : All (GivesNumber (Some fields.number)) list
  complete : All (Differs 27) list
  point : All (GivesPoint profile (named_point fields)) list
  known : All IsKnown list

rest_given : (profile : Profile) (fields : NumberAndScope) (one : Extension) (others : List Extension) → Given profile fields (one ∷ others) → Given profile fields others
rest_given profile fields one others all = record {
  number = All-tail (GivesNumber (Some fields.number)) one others all.number;
  complete = All-tail (Differs 27) one others all.complete;
  point = All-tail (GivesPoint profile (named_point fields)) one others all.point;
  known = All-tail IsKnown one others all.known;
}

-- what was said before is what the fields tell, except for what these extensions say
record Lacks (fields : NumberAndScope) (list : List Extension) (before : ListExtensions) : Type 0 where
  number : All (Differs 20) list → before.number ≡ Some fields.number
  point : All (Differs 28) list → said_point before ≡ named_point fields

abbrev Reaches : Profile → NumberAndScope → TakenOfList → List Place → Type 0
Reaches profile fields from values = (to : TakenOfList) × (each (one_list_extension profile) from values ≡ Ok to) × (to.said.number ≡ Some fields.number) × (said_point to.said ≡ named_point fields)

each_again : (profile : Profile) (from : TakenOfList) (values : List Place) (list : List Extension) (fields : NumberAndScope) → AllZip IsExtension values list → AllByRecursion Octets values → AreNew type_of from.types list → Given profile fields list → Lacks fields list from.said → Reaches profile fields from values
each_again profile from [] [] fields zip fits new all lacks = (from, refl, lacks.number (All-nil (Differs 20)), lacks.point (All-nil (Differs 28)))
each_again profile from [] (one ∷ list) fields zip fits new all lacks = absurd zip
each_again profile from (value ∷ values) [] fields zip fits new all lacks = absurd zip
each_again profile from (value ∷ values) (one ∷ list) fields zip fits new all lacks =
    by (has_number 20 one.oid) (has_number 28 one.oid) (λ said left. each_again profile (taken_with (insert from.types one.oid) said) values list fields zip.1 fits.1 new.1 (rest_given profile fields one list all) left)
  where
    Continues : Type 0
    Continues = (said : ListExtensions) → Lacks fields list said → Reaches profile fields (taken_with (insert from.types one.oid) said) values

    octets : AreOctets (body one.value)
    octets = value_octets value one fits.0 zip.0

    next : (said : ListExtensions) → said_by profile one from.said ≡ Ok said → Reaches profile fields (taken_with (insert from.types one.oid) said) values → Reaches profile fields from (value ∷ values)
    next said says rest = (rest.0, rw (step_again profile from value one said zip.0 new.0 says) rest.1, rest.2, rest.3)

    by : (one.oid ≡ id_ce 20) ⊎ (one.oid ≢ id_ce 20) → (one.oid ≡ id_ce 28) ⊎ (one.oid ≢ id_ce 28) → Continues → Reaches profile fields from (value ∷ values)
    by (inl is) scope rest =
        let says = number_said profile one from.said fields.number octets is (All-head (GivesNumber (Some fields.number)) one list all.number is) in
        next (numbered from.said fields.number) says (rest (numbered from.said fields.number) record {
          number = λ absent. refl;
          point = λ absent. lacks.point (All-cons (Differs 28) one list (one_number one.oid 20 28 is refl) absent);
        })
    by (inr differ) (inl is) rest =
        let says = point_said profile one from.said (named_point fields) octets is (All-head (GivesPoint profile (named_point fields)) one list all.point is) in
        next (issued_at from.said (named_point fields)) says (rest (issued_at from.said (named_point fields)) record {
          number = λ absent. lacks.number (All-cons (Differs 20) one list differ absent);
          point = λ absent. refl;
        })
    by (inr differ) (inr other) rest =
        let says = nothing_said_by profile one from.said differ (All-head (Differs 27) one list all.complete) other (All-head IsKnown one list all.known) in
        next from.said says (rest from.said record {
          number = λ absent. lacks.number (All-cons (Differs 20) one list differ absent);
          point = λ absent. lacks.point (All-cons (Differs 28) one list other absent);
        })

-- the whole list
is_there : (list : List Extension) (o : Option (List ℕ)) (contents : List ℕ) → o ≡ Some contents → (All (Differs 20) list → o ≡ None) → Any (λ one. one.oid ≡ id_ce 20) list
is_there list o contents e kept = by (some_or_none 20 list) where
  by : Any (λ one. one.oid ≡ id_ce 20) list ⊎ All (Differs 20) list → Any (λ one. one.oid ≡ id_ce 20) list
  by (inl found) = found
  by (inr absent) = let both : Some contents ≡ None = sym e ∙ kept absent in absurd cc

named_from : List ℕ → IssuingPoint → NumberAndScope
named_from number point = record { number = number; scope = point.scope; points = point.points }

-- of a list with no such extension
about_all_of : (point : IssuingPoint) → point ≡ said_point no_list_extensions → (point.scope ≡ S.All) × (point.points ≡ [])
about_all_of point e = (ap (λ (p : IssuingPoint). p.scope) e, ap (λ (p : IssuingPoint). p.points) e)

all_about : (point : IssuingPoint) → (point.scope ≡ S.All) × (point.points ≡ []) → said_point no_list_extensions ≡ point
all_about point is = rw (is.0, is.1) refl

pub has_extensions : (profile : Profile) (list : Place) (fields : NumberAndScope) → AreOctets list.octets → number_and_scope profile list ≡ Ok fields → HasListExtensions profile list fields
unfolding number_and_scope named_from
has_extensions profile list fields fits e =
    let sequence = bind_ok {A = Unit {0}} (is_a 0x30 R.Layout list) _ fields e in
    let one = bind_ok {A = Unit {0}} (some R.Layout (members list)) _ fields sequence.2 in
    let taken = bind_ok {A = TakenOfList} (each (one_list_extension profile) nothing_taken_of_list ((members list).values)) _ fields one.2 in
    let number = bind_ok {A = List ℕ} (or_fault taken.0.said.number R.NoNumber (members list).end) _ fields taken.2 in
    let is = some_is taken.0.said.number R.NoNumber (members list).end number.0 number.1 in
    let reads = reads_of profile nothing_taken_of_list ((members list).values) taken.0 (each_ok (one_list_extension profile) (StepIn profile) (step_ok profile) nothing_taken_of_list ((members list).values) taken.0 taken.1) (members_octets list fits) in
    let found = named_from number.0 (said_point taken.0.said) in
    subst (HasListExtensions profile list) {x = found} (ok_is {E = StatementRule × ℕ} found fields number.2) record {
      extensions = reads.list;
      sequence = is_a_ok 0x30 R.Layout list sequence.0 sequence.1;
      each = reads.each;
      types = new_pairs type_of empty reads.list reads.new;
      numbered = is_there reads.list taken.0.said.number number.0 is reads.number_kept;
      number = subst (λ o. All (GivesNumber o) reads.list) is reads.number;
      complete = reads.complete;
      scope = reads.point;
      about_all = λ absent. about_all_of (said_point taken.0.said) (reads.point_kept absent);
      known = reads.known;
    }

first_of : (list : List Extension) → Any (λ one. one.oid ≡ id_ce 20) list → list ≢ []
first_of list (k, one, within, at, is) empty_list = let short : length list ≡ 0 = ap length empty_list in absurd (omega arith)

pub extensions_has : (profile : Profile) (list : Place) (fields : NumberAndScope) → AreOctets list.octets → HasListExtensions profile list fields → number_and_scope profile list ≡ Ok fields
unfolding number_and_scope
extensions_has profile list fields fits is =
    let first = is_some_of ((members list).values) is.extensions is.each (first_of is.extensions is.numbered) in
    let all : Given profile fields is.extensions = record { number = is.number; complete = is.complete; point = is.scope; known = is.known } in
    let lacks : Lacks fields is.extensions nothing_taken_of_list.said = record {
      number = λ absent. absurd (not_all_differ 20 is.extensions is.numbered absent);
      point = λ absent. all_about (named_point fields) (is.about_all absent);
    } in
    let taken = each_again profile nothing_taken_of_list ((members list).values) is.extensions fields is.each (members_octets list fits) (pairs_are_new type_of is.extensions is.types) all lacks in
    let scope_is : taken.0.said.scope ≡ fields.scope = ap (λ (p : IssuingPoint). p.scope) taken.3 in
    let points_are : taken.0.said.points ≡ fields.points = ap (λ (p : IssuingPoint). p.points) taken.3 in
    rw (is_a_again 0x30 R.Layout list is.sequence, some_again R.Layout (members list) first.0 first.1 first.2, taken.1, taken.2, scope_is, points_are) refl
