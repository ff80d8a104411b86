-- The walk of a list of extensions finds what the standard calls one, and nothing else.
use Rattle.std.proofs.Common.{◌≡◌, ◌≢◌, ℕ, Bool, true, false, not, List, [], ◌∷◌, ◌++◌, Ok, refl, sym, ap, ◌∙◌, subst}
use Rattle.std.specs.List.{AllByRecursion, AllZip}
use Rattle.std.specs.FinSet.{empty, contains, insert}
use Rattle.asn.specs.DerLaws.{AreOctets}
use Rattle.asn.specs.Place.{Place, tag, body}
use Rattle.asn.specs.Members.{members}
use Rattle.asn.specs.Walk.{each, Leads}
use Rattle.asn.proofs.Laws.{bind_ok, ok_is, check_ok, check_again, is_a_ok, is_a_again, some_ok, some_again, each_ok, members_octets, body_octets}
use Rattle.cert.specs.declared.fault.CertRule.{CertRule}
use Rattle.cert.specs.declared.fault.CertRule.TheVariants.{Layout, ExtensionRepeated}
use Rattle.cert.specs.Extension.{Extension, IsExtension}
use Rattle.cert.specs.Extensions.{Extensions, Taken, nothing_taken, noted, one_told, kind_of_extension, saying_of, told_by, one_extension, extensions}
use Rattle.cert.specs.ExtensionForms.{Told, Tells, all_told, AreExtensions}
use Rattle.cert.proofs.ExtensionLaws.{is_extension, extension_is}
use Rattle.cert.proofs.Sayings.{saying_ok, saying_again}
use Rattle.cert.proofs.NewTypes.{AreNew, new_pairs, pairs_are_new}

-- what holds of all of a list holds of those at its end
pub all_behind : (P : Place → Type 0) (front : List Place) (behind : List Place) → AllByRecursion P (front ++ behind) → AllByRecursion P behind
all_behind P [] behind all = all
all_behind P (place ∷ front) behind all = all_behind P front behind all.1

-- octets of an extension's value are octets
value_octets : (value : Place) (e : Extension) → AreOctets value.octets → IsExtension value e → AreOctets (body e.value)
value_octets value e fits is =
    let P : Place → Type 0 = λ member. AreOctets member.octets in
    let all = subst (AllByRecursion P) is.members_are (members_octets value fits) in
    body_octets e.value (all_behind P is.flags (e.value ∷ []) all.1).0

-- one more extension
pub record Step (from : Taken) (value : Place) (to : Taken) : Type 0 where
  pub one : Told
  pub tells : Tells value one
  pub new : contains from.types one.extension.oid ≡ false
  pub types : to.types ≡ insert from.types one.extension.oid
  pub told_is : to.told ≡ one_told one.extension one.saying from.told

false_of : (b : Bool) → not b ≡ true → b ≡ false
false_of true e = absurd cc
false_of false e = refl

step_ok : (from : Taken) (value : Place) (to : Taken) → one_extension from value ≡ Ok to → AreOctets value.octets → Step from value to
unfolding one_extension told_by
step_ok from value to e fits =
    let read = bind_ok _ _ to e in
    let new = bind_ok _ _ to read.2 in
    let says = bind_ok _ _ to new.2 in
    let saying = bind_ok (saying_of (kind_of_extension read.0.oid) read.0.value) _ says.0 says.1 in
    let is = is_extension Layout value read.0 read.1 in
    let made = ok_is {E = CertRule × ℕ} _ to says.2 in
    let known = ok_is {E = CertRule × ℕ} _ says.0 saying.2 in
    record {
      one = record { extension = read.0; saying = saying.0 };
      tells = record { is_extension = is; says = saying_ok read.0 (kind_of_extension read.0.oid) saying.0 (value_octets value read.0 fits is) refl saying.1 };
      new = false_of (contains from.types read.0.oid) (check_ok _ _ _ _ new.1);
      types = ap (λ (t : Taken). t.types) (sym made);
      told_is = ap (λ (t : Taken). t.told) (sym made) ∙ ap (noted read.0) (sym known);
    }

step_again : (from : Taken) (value : Place) (to : Taken) → AreOctets value.octets → Step from value to → one_extension from value ≡ Ok to
unfolding one_extension told_by
step_again from value to fits step =
    let e = step.one.extension in
    let read = extension_is Layout value e step.tells.is_extension in
    let new = check_again (not (contains from.types e.oid)) ExtensionRepeated value.at (ap not step.new) in
    let saying = saying_again e step.one.saying (value_octets value e fits step.tells.is_extension) step.tells.says in
    rw (read, new, saying, ← step.types, ← step.told_is) refl

-- extensions in a list
pub record Reads (from : Taken) (values : List Place) (to : Taken) : Type 0 where
  pub list : List Told
  pub each : AllZip Tells values list
  pub new : AreNew from.types list
  pub told_is : to.told ≡ all_told list from.told

abbrev StepIn : Taken → Place → Taken → Type 0
StepIn from value to = AreOctets value.octets → Step from value to

reads_of : (from : Taken) (values : List Place) (to : Taken) → Leads StepIn from values to → AllByRecursion (λ value. AreOctets value.octets) values → Reads from values to
reads_of from [] to same fits = record { list = []; each = tt; new = tt; told_is = ap (λ (t : Taken). t.told) (sym same) }
reads_of from (value ∷ values) to (next, one, others) fits =
    let step = one fits.0 in
    let rest = reads_of next values to others fits.1 in
    record {
      list = step.one ∷ rest.list;
      each = (step.tells, rest.each);
      new = (step.new, subst (λ types. AreNew types rest.list) step.types rest.new);
      told_is = rest.told_is ∙ ap (all_told rest.list) step.told_is;
    }

abbrev taken_of : Taken → List Told → Taken
taken_of from [] = from
taken_of from (one ∷ others) = taken_of (record { types = insert from.types one.extension.oid; told = one_told one.extension one.saying from.told }) others

taken_told : (from : Taken) (list : List Told) → (taken_of from list).told ≡ all_told list from.told
taken_told from [] = refl
taken_told from (one ∷ others) = taken_told (record { types = insert from.types one.extension.oid; told = one_told one.extension one.saying from.told }) others

each_taken : (from : Taken) (values : List Place) (list : List Told) → AllZip Tells values list → AreNew from.types list → AllByRecursion (λ value. AreOctets value.octets) values → each one_extension from values ≡ Ok (taken_of from list)
each_taken from [] [] zip new fits = refl
each_taken from [] (one ∷ others) zip new fits = absurd zip
each_taken from (value ∷ values) [] zip new fits = absurd zip
each_taken from (value ∷ values) (one ∷ others) zip new fits =
    let next : Taken = record { types = insert from.types one.extension.oid; told = one_told one.extension one.saying from.told } in
    let step = step_again from value next fits.0 record { one = one; tells = zip.0; new = new.0; types = refl; told_is = refl } in
    rw step (each_taken next values others zip.1 new.1 fits.1)

not_none : (values : List Place) (list : List Told) (value : Place) (others : List Place) → values ≡ value ∷ others → AllZip Tells values list → list ≢ []
not_none values [] value others e zip = λ none. absurd (subst (λ vs. AllZip Tells vs []) e zip)
not_none values (one ∷ list) value others e zip = λ none. absurd cc

pub are_extensions : (value : Place) (fields : Extensions) → AreOctets value.octets → extensions value ≡ Ok fields → (tag value ≡ 0x30) × AreExtensions value fields
unfolding extensions
are_extensions value fields fits e =
    let sequence = bind_ok _ _ fields e in
    let some = bind_ok _ _ fields sequence.2 in
    let taken = bind_ok _ _ fields some.2 in
    let first = some_ok _ _ _ some.1 in
    let leads = each_ok one_extension StepIn step_ok nothing_taken ((members value).values) taken.0 taken.1 in
    let reads = reads_of nothing_taken ((members value).values) taken.0 leads (members_octets value fits) in (
      is_a_ok _ _ _ _ sequence.1,
      record {
        list = reads.list;
        some = not_none ((members value).values) reads.list first.0 first.1 first.2 reads.each;
        each = reads.each;
        types = new_pairs empty reads.list reads.new;
        fields_are = sym (ok_is {E = CertRule × ℕ} _ fields taken.2) ∙ reads.told_is;
      },
    )

is_some_of : (values : List Place) (list : List Told) → AllZip Tells values list → list ≢ [] → (value : Place) × (others : List Place) × (values ≡ value ∷ others)
is_some_of [] [] zip some = absurd (some refl)
is_some_of [] (one ∷ list) zip some = absurd zip
is_some_of (value ∷ others) list zip some = (value, others, refl)

pub extensions_are : (value : Place) (fields : Extensions) → AreOctets value.octets → tag value ≡ 0x30 → AreExtensions value fields → extensions value ≡ Ok fields
unfolding extensions
extensions_are value fields fits sequence is =
    let first = is_some_of ((members value).values) is.list is.each is.some in
    let taken = each_taken nothing_taken ((members value).values) is.list is.each (pairs_are_new is.list is.types) (members_octets value fits) in
    rw (is_a_again 0x30 Layout value sequence, some_again Layout (members value) first.0 first.1 first.2, taken) (ap Ok (taken_told nothing_taken is.list ∙ sym is.fields_are))
