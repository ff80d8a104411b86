-- The walk of the extensions of a response finds what the standard calls them, none of them critical, and nothing else.
use Rattle.std.proofs.Common.{◌≡◌, ◌≢◌, ℕ, Bool, true, false, not, List, [], ◌∷◌, ◌++◌, Option, Some, None, Ok, refl, sym, ap, ◌∙◌, subst}
use Rattle.std.specs.List.{AllByRecursion, AllZip}
use Rattle.std.specs.FinSet.{empty, contains, insert}
use Rattle.std.proofs.lemmas.List.Elements.{recursion_from_All, All-from_recursion}
use Rattle.asn.specs.Place.{Place}
use Rattle.asn.specs.Members.{Members, members, begins}
use Rattle.asn.specs.Walk.{is_a, each, check_that, some, optional, next_or, ended, Leads}
use Rattle.asn.proofs.Laws.{bind_ok, ok_is, check_ok, check_again, is_a_ok, is_a_again, some_ok, some_again, each_ok, next_or_ok, next_or_again, ended_ok, ended_again, TakesOptional, optional_is, optional_there, optional_absent}
use Rattle.cert.specs.Extension.{Extension, IsExtension}
use Rattle.cert.specs.OidSet.{Oids}
use Rattle.statements_parts.specs.Parts.{new_extension}
use Rattle.statements_parts.proofs.Laws.{AreNew, new_pairs, pairs_are_new, new_extension_ok, new_extension_again}
use Rattle.statements_parts.specs.declared.fault.StatementRule.{StatementRule}
use Rattle.statements_parts.specs.declared.fault.StatementRule.TheVariants.{Layout, CriticalUnknown}
use Rattle.statements_ocsp.specs.ResponseExtensions.{one_response_extension, extensions_of_response, extensions_of, optional_response_extensions}
use Rattle.statements_ocsp.specs.SingleForms.{AreUncritical, AreUncriticalExtensions}

-- the type of an extension
abbrev type_of : Extension → List ℕ
type_of one = one.oid

abbrev IsUncritical : Extension → Type 0
IsUncritical one = one.critical ≡ false

-- one more extension
record Step (from : Oids) (value : Place) (to : Oids) : Type 0 where
  one : Extension
  is : IsExtension value one
  uncritical : one.critical ≡ false
  new : contains from one.oid ≡ false
  added : to ≡ insert from one.oid

false_of : (b : Bool) → not b ≡ true → b ≡ false
false_of true e = absurd cc
false_of false e = refl

step_ok : (from : Oids) (value : Place) (to : Oids) → one_response_extension from value ≡ Ok to → Step from value to
unfolding one_response_extension
step_ok from value to e =
    let read = bind_ok {A = Extension × Oids} (new_extension from value) _ to e in
    let known = bind_ok {A = Unit {0}} (check_that (not read.0.0.critical) CriticalUnknown value.at) _ to read.2 in
    let found = new_extension_ok from value read.0 read.1 in
    record {
      one = read.0.0;
      is = found.is;
      uncritical = false_of read.0.0.critical (check_ok _ _ _ _ known.1);
      new = found.new;
      added = sym (ok_is {E = StatementRule × ℕ} read.0.1 to known.2) ∙ found.added_is;
    }

step_again : (from : Oids) (value : Place) (one : Extension) → IsExtension value one → one.critical ≡ false → contains from one.oid ≡ false → one_response_extension from value ≡ Ok (insert from one.oid)
unfolding one_response_extension
step_again from value one is uncritical new =
    rw (new_extension_again from value one is new, check_again (not one.critical) CriticalUnknown value.at (ap not uncritical)) refl

-- extensions in a list
record Reads (from : Oids) (values : List Place) : Type 0 where
  list : List Extension
  each : AllZip IsExtension values list
  new : AreNew type_of from list
  uncritical : AllByRecursion IsUncritical list

reads_of : (from : Oids) (values : List Place) (to : Oids) → Leads Step from values to → Reads from values
reads_of from [] to same = record { list = []; each = tt; new = tt; uncritical = tt }
reads_of from (value ∷ values) to (next, step, others) =
    let rest = reads_of next values to others in
    record {
      list = step.one ∷ rest.list;
      each = (step.is, rest.each);
      new = (step.new, subst (λ types. AreNew type_of types rest.list) step.added rest.new);
      uncritical = (step.uncritical, rest.uncritical);
    }

each_again : (from : Oids) (values : List Place) (list : List Extension) → AllZip IsExtension values list → AreNew type_of from list → AllByRecursion IsUncritical list → (to : Oids) × (each one_response_extension from values ≡ Ok to)
each_again from [] [] zip new uncritical = (from, refl)
each_again from [] (one ∷ list) zip new uncritical = absurd zip
each_again from (value ∷ values) [] zip new uncritical = absurd zip
each_again from (value ∷ values) (one ∷ list) zip new uncritical =
    let rest = each_again (insert from one.oid) values list zip.1 new.1 uncritical.1 in
    (rest.0, rw (step_again from value one zip.0 uncritical.0 new.0) rest.1)

not_none : (values : List Place) (list : List Extension) (value : Place) (others : List Place) → values ≡ value ∷ others → AllZip IsExtension values list → list ≢ []
not_none values [] value others e zip = λ none. absurd (subst (λ vs. AllZip IsExtension vs []) e zip)
not_none values (one ∷ list) value others e zip = λ none. absurd cc

is_some_of : (values : List Place) (list : List Extension) → AllZip IsExtension values list → list ≢ [] → (value : Place) × (others : List Place) × (values ≡ value ∷ others)
is_some_of [] [] zip some = absurd (some refl)
is_some_of [] (one ∷ list) zip some = absurd zip
is_some_of (value ∷ others) list zip some = (value, others, refl)

are_uncritical : (list : Place) (u : Unit {0}) → extensions_of_response list ≡ Ok u → AreUncritical list
unfolding extensions_of_response
are_uncritical list u e =
    let sequence = bind_ok {A = Unit {0}} (is_a 0x30 Layout list) _ u e in
    let one = bind_ok {A = Unit {0}} (some Layout (members list)) _ u sequence.2 in
    let types = bind_ok {A = Oids} (each one_response_extension empty ((members list).values)) _ u one.2 in
    let first = some_ok _ _ _ one.1 in
    let reads = reads_of empty ((members list).values) types.0 (each_ok one_response_extension Step step_ok empty ((members list).values) types.0 types.1) in
    record {
      extensions = reads.list;
      sequence = is_a_ok _ _ _ _ sequence.1;
      some = not_none ((members list).values) reads.list first.0 first.1 first.2 reads.each;
      each = reads.each;
      types = new_pairs type_of empty reads.list reads.new;
      uncritical = All-from_recursion IsUncritical reads.list reads.uncritical;
    }

uncritical_are : (list : Place) → AreUncritical list → extensions_of_response list ≡ Ok tt
unfolding extensions_of_response
uncritical_are list is =
    let first = is_some_of ((members list).values) is.extensions is.each is.some in
    let types = each_again empty ((members list).values) is.extensions is.each (pairs_are_new type_of is.extensions is.types) (recursion_from_All IsUncritical is.extensions is.uncritical) in
    rw (is_a_again 0x30 Layout list is.sequence, some_again Layout (members list) first.0 first.1 first.2, types.1) refl

-- the extensions that may stand at the end of a SEQUENCE
pub record TakesExtensions (left others : Members) : Type 0 where
  pub tagged : List Place
  pub values : left.values ≡ tagged ++ others.values
  pub are : AreUncriticalExtensions tagged

of_extensions : (left : Members) (found : Option Place) (others x : Members) → TakesOptional 0xA1 left found others → extensions_of found others ≡ Ok x → TakesExtensions left x
of_extensions left None others x took e =
    let P : Members → Type 0 = λ m. TakesExtensions left m in
    subst P (ok_is {E = StatementRule × ℕ} others x e)
    record { tagged = []; values = sym (ap (λ (m : Members). m.values) took.0); are = tt }
of_extensions left (Some explicit) others x took e =
    let list = bind_ok {A = Place × Members} (next_or Layout (members explicit)) _ x e in
    let read = bind_ok {A = Unit {0}} (extensions_of_response list.0.0) _ x list.2 in
    let one = bind_ok {A = Unit {0}} (ended Layout list.0.1) _ x read.2 in
    let inner = next_or_ok _ _ _ list.1 in
    let P : Members → Type 0 = λ m. TakesExtensions left m in
    subst P (ok_is {E = StatementRule × ℕ} others x one.2) record {
      tagged = explicit ∷ [];
      values = took.values;
      are = (
        list.0.0,
        record { explicit = took.tag_is; members_are = inner.values ∙ ap (◌∷◌ list.0.0) (ended_ok _ _ _ one.1) },
        are_uncritical list.0.0 read.0 read.1,
      );
    }

pub extensions_ok : (left x : Members) → optional_response_extensions left ≡ Ok x → TakesExtensions left x
unfolding optional_response_extensions
extensions_ok left x e = of_extensions left (optional 0xA1 left).0 (optional 0xA1 left).1 x (optional_is 0xA1 left) e

begins_none : (identifier : ℕ) (left : Members) → left.values ≡ [] → begins identifier left ≡ false
unfolding begins
begins_none identifier left none = rw none refl

pub extensions_again : (left : Members) (tagged : List Place) → left.values ≡ tagged → AreUncriticalExtensions tagged → (x : Members) × (optional_response_extensions left ≡ Ok x) × (x.values ≡ [])
unfolding optional_response_extensions
extensions_again left [] e are = (left, rw (optional_absent 0xA1 left (begins_none 0xA1 left e)) refl, e)
extensions_again left (explicit ∷ []) e (list, is_tagged, is) =
    let next : List Place → Members = λ values. record { values = values; end = left.end } in (
      next [],
      rw (
        optional_there 0xA1 left explicit [] e is_tagged.explicit,
        next_or_again Layout (members explicit) list [] is_tagged.members_are,
        uncritical_are list is,
        ended_again Layout (record { values = []; end = (members explicit).end }) refl,
      ) refl,
      refl,
    )
extensions_again left (explicit ∷ other ∷ tagged) e are = absurd are
