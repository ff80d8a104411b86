-- Of an entry that was read, the serial number and the reason are read again without its date.
use Rattle.std.proofs.Common.{◌≡◌, ℕ, ℤ, List, [], ◌∷◌, map, Result, Ok, Err, refl, sym, ap, ◌∙◌, subst}
use Rattle.asn.specs.Place.{Place, body}
use Rattle.asn.specs.Members.{Members, members, with_first}
use Rattle.asn.specs.Walk.{is_a, next_or, optional, time}
use Rattle.asn.proofs.Laws.{bind_ok, ok_is, is_a_ok, is_a_again, next_or_again, time_ok}
use Rattle.statements_facts.specs.Listed.{ListedSerial}
use Rattle.statements_parts.specs.Parts.{statement_component, serial_in_statement}
use Rattle.statements_parts.proofs.Laws.{component_ok, serial_ok}
use Rattle.statements_parts.specs.declared.fault.StatementRule.{StatementRule}
use Rattle.statements_parts.specs.declared.fault.StatementRule.TheVariants.{Layout}
use Rattle.statements_crl.specs.EntryExtension.{reason_given}
use Rattle.statements_crl.specs.Entry.{Entry, entry, entry_again, entry_fields, entries, entries_again, entries_checked, with_reason, listed_again, listed_serial}
use Rattle.statements_crl.proofs.EntryAgain.{read_again, first_entry}

next_is : (left : Members) (value : Place) (others : Members) → left.values ≡ value ∷ others.values → others.end ≡ left.end → next_or Layout left ≡ Ok (value, others)
next_is left value others values end =
    next_or_again Layout left value others.values values ∙ ap (λ end. Ok (value, record { values = others.values; end = end })) (sym end)

-- the members that the components up to the date stand in
record Passes (value : Place) (read : Entry × Members) : Type 0 where
  serial : Place
  date : Place
  behind : Members
  sequence : is_a 0x30 Layout value ≡ Ok tt
  first : next_or Layout (members value) ≡ Ok (serial, behind)
  second : next_or Layout behind ≡ Ok (date, read.1)
  serial_is : read.0.serial ≡ body serial

passed : (value : Place) (read : Entry × Members) → entry_fields value ≡ Ok read → Passes value read
unfolding entry_fields
passed value read e =
    let sequence = bind_ok {A = Unit {0}} (is_a 0x30 Layout value) _ read e in
    let serial = bind_ok {A = List ℕ × Members} (statement_component 0x02 serial_in_statement (members value)) _ read sequence.2 in
    let date = bind_ok {A = ℤ × Members} (time Layout Layout serial.0.1) _ read serial.2 in
    let first = component_ok 0x02 serial_in_statement (members value) serial.0 serial.1 in
    let second = time_ok Layout Layout serial.0.1 date.0 date.1 in
    let found : Entry × Members = (record { serial = serial.0.0; revocation_date = date.0.0; reason = 0 }, date.0.1) in
    subst (Passes value) {x = found} (ok_is {E = StatementRule × ℕ} found read date.2) record {
      serial = first.value;
      date = second.0;
      behind = serial.0.1;
      sequence = is_a_again 0x30 Layout value (is_a_ok _ _ _ _ sequence.1);
      first = next_is (members value) first.value serial.0.1 first.took.values first.took.end;
      second = next_is serial.0.1 second.0 date.0.1 second.1.next.values second.1.next.end;
      serial_is = (serial_ok first.value serial.0.0 first.took.tag_is first.read_is).contents;
    }

abbrev listed_as : List ℕ → ℕ → Result ListedSerial (StatementRule × ℕ)
listed_as serial reason = Ok (record { serial = serial; reason = reason })

listed_is : (value : Place) (fields : Entry) → entry value ≡ Ok fields → listed_again value ≡ Ok (listed_serial fields)
unfolding entry_again listed_again
listed_is value fields e =
    let read = bind_ok {A = Entry × Members} (entry_fields value) _ fields (read_again value fields e) in
    let passes = passed value read.0 read.1 in
    let reason = reason_given (optional 0x30 read.0.1).0 in
    rw (passes.sequence, passes.first, passes.second)
    (ap (λ serial. listed_as serial reason) (sym passes.serial_is) ∙ ap (λ fields. Ok (listed_serial fields)) (ok_is {E = StatementRule × ℕ} (with_reason read.0.0 reason) fields read.2))

-- the first of values that were read: its serial number and its reason
listed_front : (value : Place) (values : List Place) → entries_checked (entries (value ∷ values)) ≡ Ok tt → (fields : Entry) × (listed_again value ≡ Ok (listed_serial fields)) × (entries_again (value ∷ values) ≡ fields ∷ entries_again values)
listed_front value values done =
    let first = first_entry value values done in
    (first.0, listed_is value first.0 first.1, rw (read_again value first.0 first.1) refl)

abbrev serials_again : List Place → List ListedSerial
serials_again values = map listed_serial (entries_again values)

pub first_listed : (old new : Members) (value : Place) (listed : ListedSerial) → old ≡ with_first value new → entries_checked (entries old.values) ≡ Ok tt → listed_again value ≡ Ok listed → map listed_serial (entries_again old.values) ≡ listed ∷ map listed_serial (entries_again new.values)
first_listed old new value listed first done e =
    let front = listed_front value new.values (sym (ap (λ (m : Members). entries_checked (entries m.values)) first) ∙ done) in
    let same = ok_is {E = StatementRule × ℕ} (listed_serial front.0) listed (sym front.1 ∙ e) in
    ap (λ (m : Members). serials_again m.values) first ∙ ap (map listed_serial) front.2 ∙ ap (λ l. l ∷ serials_again new.values) same

-- none of them is refused
pub none_refused : (old new : Members) (value : Place) (fault : StatementRule × ℕ) → old ≡ with_first value new → entries_checked (entries old.values) ≡ Ok tt → listed_again value ≡ Err fault → map listed_serial (entries_again old.values) ≡ []
none_refused old new value fault first done e =
    let front = listed_front value new.values (sym (ap (λ (m : Members). entries_checked (entries m.values)) first) ∙ done) in
    let never : Ok (listed_serial front.0) ≡ Err fault = sym front.1 ∙ e in
    absurd cc
