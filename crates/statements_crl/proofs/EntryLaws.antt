-- The walk of an entry finds what the standard calls one, and nothing else; and so does the walk of a list of them.
use Rattle.std.proofs.Common.{◌≡◌, ℕ, ℤ, false, List, [], ◌∷◌, ◌++◌, append-nil, Option, Some, None, Ok, refl, sym, ap, ◌∙◌, subst}
use Rattle.std.specs.List.{AllZip}
use Rattle.asn.specs.Place.{Place, tag, body}
use Rattle.asn.specs.Time.{IsTime}
use Rattle.asn.specs.Members.{Members, members, begins}
use Rattle.asn.specs.Walk.{is_a, optional, time, each, some, ended}
use Rattle.asn.proofs.Laws.{bind_ok, ok_is, is_a_ok, is_a_again, time_ok, time_again, ended_ok, ended_again, TakesOptional, optional_is, optional_there, optional_absent}
use Rattle.cert.specs.CertificateForms.{IsSerialNumber}
use Rattle.statements_parts.specs.Parts.{statement_component, serial_in_statement}
use Rattle.statements_parts.proofs.Laws.{component_ok, component_again, serial_ok, serial_again}
use Rattle.statements_parts.specs.declared.fault.StatementRule.{StatementRule}
use Rattle.statements_parts.specs.declared.fault.StatementRule.TheVariants.{Layout}
use Rattle.statements_crl.specs.EntryExtension.{TakenOfEntry, nothing_taken_of_entry, one_entry_extension, reason_of_list, optional_reason}
use Rattle.statements_crl.specs.Entry.{Entry, entry, entry_fields, entries, with_reason}
use Rattle.statements_crl.specs.EntryForms.{GivesOptionalReason, IsEntry, EntryIsExact}
use Rattle.statements_crl.proofs.ReasonLaws.{reason_ok, some_again_of, reason_again}

-- members, from the values that the steps took
pub in_order : (all first second third : List Place) (a b c : Place) → all ≡ a ∷ first → first ≡ b ∷ second → second ≡ c ∷ third → all ≡ a ∷ b ∷ c ∷ third
in_order all first second third a b c e f g = e ∙ ap (◌∷◌ a) (f ∙ ap (◌∷◌ b) g)

pub then : (all first behind : List Place) (a : Place) → all ≡ a ∷ first → first ≡ behind → all ≡ a ∷ behind
then all first behind a e f = e ∙ ap (◌∷◌ a) f

at_the_end : (left lists others : List Place) → left ≡ lists ++ others → others ≡ [] → left ≡ lists
at_the_end left lists others e none = e ∙ ap (◌++◌ lists) none ∙ append-nil lists

-- the extensions that may stand at the end
record TakesReason (left : Members) (reason : ℕ) (others : Members) : Type 0 where
  lists : List Place
  values : left.values ≡ lists ++ others.values
  is : GivesOptionalReason lists reason

of_reason : (left : Members) (found : Option Place) (others : Members) (x : ℕ × Members) → TakesOptional 0x30 left found others → reason_of_list found others ≡ Ok x → TakesReason left x.0 x.1
of_reason left None others x took e =
    let P : ℕ × Members → Type 0 = λ y. TakesReason left y.0 y.1 in
    subst P (ok_is {E = StatementRule × ℕ} (0, others) x e)
    record { lists = []; values = sym (ap (λ (m : Members). m.values) took.0); is = refl }
of_reason left (Some list) others x took e =
    let one = bind_ok {A = Unit {0}} (some Layout (members list)) _ x e in
    let taken = bind_ok {A = TakenOfEntry} (each one_entry_extension nothing_taken_of_entry ((members list).values)) _ x one.2 in
    let P : ℕ × Members → Type 0 = λ y. TakesReason left y.0 y.1 in
    subst P (ok_is {E = StatementRule × ℕ} (taken.0.reason, others) x taken.2)
    record { lists = list ∷ []; values = took.values; is = reason_ok list one.0 taken.0 took.tag_is one.1 taken.1 }

optional_ok : (left : Members) (x : ℕ × Members) → optional_reason left ≡ Ok x → TakesReason left x.0 x.1
unfolding optional_reason
optional_ok left x e = of_reason left (optional 0x30 left).0 (optional 0x30 left).1 x (optional_is 0x30 left) e

begins_none : (identifier : ℕ) (left : Members) → left.values ≡ [] → begins identifier left ≡ false
unfolding begins
begins_none identifier left none = rw none refl

optional_again : (left : Members) (lists : List Place) (reason : ℕ) → left.values ≡ lists → GivesOptionalReason lists reason → (x : Members) × (optional_reason left ≡ Ok (reason, x)) × (x.values ≡ [])
unfolding optional_reason
optional_again left [] reason e is = (left, rw (optional_absent 0x30 left (begins_none 0x30 left e), is) refl, e)
optional_again left (list ∷ []) reason e is =
    let taken = reason_again list reason is in (
      record { values = []; end = left.end },
      rw (optional_there 0x30 left list [] e is.sequence, some_again_of list reason is, taken.1, taken.2) refl,
      refl,
    )
optional_again left (list ∷ other ∷ lists) reason e is = absurd is

-- entries
record TakesFields (value : Place) (read : Entry × Members) : Type 0 where
  user_certificate : Place
  date : Place
  sequence : tag value ≡ 0x30
  members_are : (members value).values ≡ user_certificate ∷ date ∷ read.1.values
  serial_is : IsSerialNumber user_certificate read.0.serial
  date_is : IsTime (tag date) (body date) read.0.revocation_date

fields_ok : (value : Place) (read : Entry × Members) → entry_fields value ≡ Ok read → TakesFields value read
unfolding entry_fields
fields_ok value read e =
    let sequence = bind_ok {A = Unit {0}} (is_a 0x30 Layout value) _ read e in
    let serial = bind_ok {A = List ℕ × Members} (statement_component 0x02 serial_in_statement (members value)) _ read sequence.2 in
    let date = bind_ok {A = ℤ × Members} (time Layout Layout serial.0.1) _ read serial.2 in
    let first = component_ok 0x02 serial_in_statement (members value) serial.0 serial.1 in
    let second = time_ok Layout Layout serial.0.1 date.0 date.1 in
    let found : Entry × Members = (record { serial = serial.0.0; revocation_date = date.0.0; reason = 0 }, date.0.1) in
    subst (TakesFields value) {x = found} (ok_is {E = StatementRule × ℕ} found read date.2) record {
      user_certificate = first.value;
      date = second.0;
      sequence = is_a_ok _ _ _ _ sequence.1;
      members_are = then (members value).values serial.0.1.values (second.0 ∷ date.0.1.values) first.value first.took.values second.1.next.values;
      serial_is = serial_ok first.value serial.0.0 first.took.tag_is first.read_is;
      date_is = second.1.is_time;
    }

is_entry : (value : Place) (fields : Entry) → entry value ≡ Ok fields → IsEntry value fields
unfolding entry
is_entry value fields e =
    let read = bind_ok {A = Entry × Members} (entry_fields value) _ fields e in
    let reason = bind_ok {A = ℕ × Members} (optional_reason read.0.1) _ fields read.2 in
    let done = bind_ok {A = Unit {0}} (ended Layout reason.0.1) _ fields reason.2 in
    let taken = fields_ok value read.0 read.1 in
    let last = optional_ok read.0.1 reason.0 reason.1 in
    let behind = at_the_end read.0.1.values last.lists reason.0.1.values last.values (ended_ok _ _ _ done.1) in
    let found = with_reason read.0.0 reason.0.0 in
    subst (IsEntry value) {x = found} (ok_is {E = StatementRule × ℕ} found fields done.2) record {
      user_certificate = taken.user_certificate;
      date = taken.date;
      extensions = last.lists;
      sequence = taken.sequence;
      members_are = taken.members_are ∙ ap (λ values. taken.user_certificate ∷ taken.date ∷ values) behind;
      serial_is = taken.serial_is;
      date_is = taken.date_is;
      reason_is = last.is;
    }

entry_is : (value : Place) (fields : Entry) → IsEntry value fields → entry value ≡ Ok fields
unfolding entry entry_fields
entry_is value fields is =
    let next : List Place → Members = λ values. record { values = values; end = (members value).end } in
    let behind = is.date ∷ is.extensions in
    let reason = optional_again (next is.extensions) is.extensions fields.reason refl is.reason_is in
    rw (
      is_a_again 0x30 Layout value is.sequence,
      component_again 0x02 serial_in_statement (members value) is.user_certificate behind fields.serial is.members_are is.serial_is.integer (serial_again is.user_certificate fields.serial is.serial_is),
      time_again Layout Layout (next behind) is.date is.extensions fields.revocation_date refl is.date_is,
      reason.1,
      ended_again Layout reason.0 reason.2,
    ) refl

pub entry_is_exact : EntryIsExact
entry_is_exact value fields = (is_entry value fields, entry_is value fields)

-- a list of them
pub are_entries : (values : List Place) (list : List Entry) → entries values ≡ Ok list → AllZip IsEntry values list
are_entries [] list e = subst (AllZip IsEntry []) (ok_is {E = StatementRule × ℕ} [] list e) tt
are_entries (value ∷ values) list e =
    let first = bind_ok {A = Entry} (entry value) _ list e in
    let others = bind_ok {A = List Entry} (entries values) _ list first.2 in
    subst (AllZip IsEntry (value ∷ values)) (ok_is {E = StatementRule × ℕ} (first.0 ∷ others.0) list others.2) (is_entry value first.0 first.1, are_entries values others.0 others.1)

pub entries_are : (values : List Place) (list : List Entry) → AllZip IsEntry values list → entries values ≡ Ok list
entries_are [] [] zip = refl
entries_are [] (one ∷ list) zip = absurd zip
entries_are (value ∷ values) [] zip = absurd zip
entries_are (value ∷ values) (one ∷ list) zip = rw (entry_is value one zip.0, entries_are values list zip.1) refl
