-- An entry that was read is read again without a set of the types of its extensions, to the same fields.
use Rattle.std.proofs.Common.{◌≡◌, ℕ, List, [], ◌∷◌, Option, Some, None, not, Result, Ok, Err, refl, sym, ap, ◌∙◌}
use Rattle.std.specs.FinSet.{contains, insert}
use Rattle.asn.specs.Place.{Place}
use Rattle.asn.specs.Members.{Members, members, with_first}
use Rattle.asn.specs.Walk.{◌>>=◌, check_that, each, some, optional, ended}
use Rattle.asn.proofs.Laws.{bind_ok, ok_is}
use Rattle.statements_parts.specs.declared.fault.StatementRule.{StatementRule}
use Rattle.statements_parts.specs.declared.fault.StatementRule.TheVariants.{Layout}
use Rattle.cert.specs.Extension.{Extension, extension}
use Rattle.cert.specs.OidSet.{Oids}
use Rattle.statements_parts.specs.Parts.{new_extension}
use Rattle.statements_crl.specs.EntryExtension.{TakenOfEntry, nothing_taken_of_entry, one_entry_extension, reason_after, reason_behind, reason_given, reason_of_list, optional_reason, reason_with}
use Rattle.statements_crl.specs.Entry.{Entry, entry, entry_again, entry_fields, entries, entries_again, entries_checked, with_reason}

is_extension : (types : Oids) (value : Place) (read : Extension × Oids) → new_extension types value ≡ Ok read → extension Layout value ≡ Ok read.0
unfolding new_extension
is_extension types value read e =
    let found = bind_ok {A = Extension} _ _ read e in
    let new = bind_ok (check_that (not (contains types found.0.oid)) Layout value.at) _ read found.2 in
    found.1 ∙ ap (λ one. Ok one.0) (ok_is {E = StatementRule × ℕ} (found.0, insert types found.0.oid) read new.2)

reason_step : (earlier next : TakenOfEntry) (value : Place) → one_entry_extension earlier value ≡ Ok next → reason_after earlier.reason value ≡ next.reason
unfolding one_entry_extension reason_after
reason_step earlier next value e =
    let read = bind_ok {A = Extension × Oids} _ _ next e in
    let reason = bind_ok {A = ℕ} _ _ next read.2 in
    let taken : TakenOfEntry = record { types = read.0.1; reason = reason.0 } in
    let is_read : extension Layout value ≡ Ok read.0.0 = is_extension earlier.types value read.0 read.1 in
    let is_told : reason_with read.0.0 earlier.reason ≡ Ok reason.0 = reason.1 in
    rw (is_read, is_told) (ap (λ t. t.reason) (ok_is {E = StatementRule × ℕ} taken next reason.2))

reasons : (earlier taken : TakenOfEntry) (values : List Place) → each one_entry_extension earlier values ≡ Ok taken → reason_behind earlier.reason values ≡ taken.reason
reasons earlier taken [] e = ap (λ t. t.reason) (ok_is {E = StatementRule × ℕ} earlier taken e)
reasons earlier taken (value ∷ values) e =
    let first = bind_ok _ _ taken e in
    ap (λ r. reason_behind r values) (reason_step earlier first.0 value first.1) ∙ reasons first.0 taken values first.2

reason_is : (found : Option Place) (left : Members) (x : ℕ × Members) → reason_of_list found left ≡ Ok x → (reason_given found, left) ≡ x
reason_is None left x e = ok_is {E = StatementRule × ℕ} _ x e
reason_is (Some list) left x e =
    let one = bind_ok {A = Unit {0}} (some Layout (members list)) (λ one. each one_entry_extension nothing_taken_of_entry (members list).values >>= λ taken. Ok (taken.reason, left)) x e in
    let taken = bind_ok (each one_entry_extension nothing_taken_of_entry (members list).values) (λ taken. Ok (taken.reason, left)) x one.2 in
    ap (λ r. (r, left)) (reasons nothing_taken_of_entry taken.0 (members list).values taken.1) ∙ ok_is {E = StatementRule × ℕ} (taken.0.reason, left) x taken.2

optional_reason_is : (left : Members) (x : ℕ × Members) → optional_reason left ≡ Ok x → (reason_given (optional 0x30 left).0, (optional 0x30 left).1) ≡ x
unfolding optional_reason
optional_reason_is left x e = reason_is (optional 0x30 left).0 (optional 0x30 left).1 x e

abbrev answered : Entry → ℕ → Result Entry (StatementRule × ℕ)
answered read reason = Ok (with_reason read reason)

pub read_again : (value : Place) (fields : Entry) → entry value ≡ Ok fields → entry_again value ≡ Ok fields
unfolding entry entry_again
read_again value fields e =
    let read = bind_ok {A = Entry × Members} _ _ fields e in
    let reason = bind_ok {A = ℕ × Members} _ _ fields read.2 in
    let done = bind_ok {A = Unit {0}} (ended Layout reason.0.1) (λ done. answered read.0.0 reason.0.0) fields reason.2 in
    let same = optional_reason_is read.0.1 reason.0 reason.1 in
    let is_read : entry_fields value ≡ Ok read.0 = read.1 in
    rw is_read (ap (λ r. answered read.0.0 r.0) same ∙ done.2)

-- the first of some values is an entry: the fault of all is that of the others
pub next_checked : (value : Place) (values : List Place) (fields : Entry) → entry value ≡ Ok fields → entries_checked (entries values) ≡ entries_checked (entries (value ∷ values))
next_checked value values fields e = rw e (others (entries values))
  where
    others : (read : Result (List Entry) (StatementRule × ℕ)) → entries_checked read ≡ entries_checked (read >>= λ rest. Ok (fields ∷ rest))
    others (Ok rest) = refl
    others (Err fault) = refl

pub first_refused : (value : Place) (values : List Place) (fault : StatementRule × ℕ) → entry value ≡ Err fault → entries_checked (entries (value ∷ values)) ≡ Err fault
first_refused value values fault e = rw e refl

-- what was checked is handed out
pub all_again : (values : List Place) (read : List Entry) → entries values ≡ Ok read → entries_again values ≡ read
all_again [] read e = ok_is {E = StatementRule × ℕ} [] read e
all_again (value ∷ values) read e =
    let first = bind_ok _ _ read e in
    let others = bind_ok _ _ read first.2 in
    rw (read_again value first.0 first.1, all_again values others.0 others.1) (ok_is {E = StatementRule × ℕ} _ read others.2)

are_ok : (values : List Place) (read : Result (List Entry) (StatementRule × ℕ)) → entries values ≡ read → entries_checked read ≡ Ok tt → entries values ≡ Ok (entries_again values)
are_ok values (Ok all) e done = e ∙ ap (λ list. Ok list) (sym (all_again values all e))
are_ok values (Err fault) e done = absurd cc

pub checked_entries : (values : List Place) → entries_checked (entries values) ≡ Ok tt → entries values ≡ Ok (entries_again values)
checked_entries values done = are_ok values (entries values) refl done

are_refused : (read : Result (List Entry) (StatementRule × ℕ)) (fault : StatementRule × ℕ) → entries_checked read ≡ Err fault → read ≡ Err fault
are_refused (Ok all) fault e = absurd cc
are_refused (Err other) fault e = ap (λ f. Err f) err
  where
    err : other ≡ fault
    err = cc

pub refused_entries : (values : List Place) (fault : StatementRule × ℕ) → entries_checked (entries values) ≡ Err fault → entries values ≡ Err fault
refused_entries values fault e = are_refused (entries values) fault e

-- the first of values that were read is an entry, and the others were read
pub first_entry : (value : Place) (values : List Place) → entries_checked (entries (value ∷ values)) ≡ Ok tt → (fields : Entry) × (entry value ≡ Ok fields) × (entries_checked (entries values) ≡ Ok tt)
first_entry value values done = by (entry value) refl where
  by : (read : Result Entry (StatementRule × ℕ)) → entry value ≡ read → (fields : Entry) × (entry value ≡ Ok fields) × (entries_checked (entries values) ≡ Ok tt)
  by (Ok fields) e = (fields, e, next_checked value values fields e ∙ done)
  by (Err fault) e = let never : Err fault ≡ Ok tt = sym (first_refused value values fault e) ∙ done in absurd cc

pub others_read : (old new : Members) (value : Place) → old ≡ with_first value new → entries_checked (entries old.values) ≡ Ok tt → entries_checked (entries new.values) ≡ Ok tt
others_read old new value first done = (first_entry value new.values (sym (ap (λ (m : Members). entries_checked (entries m.values)) first) ∙ done)).2
