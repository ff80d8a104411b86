-- What look-ups of rows say of what is held.
use Rattle.std.proofs.Common.{◌≡◌, ℕ, List, Option, Some, None, option_map, option_and_then, find, Result, Ok, Err, OnOk, refl, sym, ap, ◌∙◌}
use Rattle.sqlite.specs.State.{State}
use Rattle.statements_facts.specs.declared.scope.Scope.{Scope}
use Rattle.statements_facts.specs.Listed.{first_reason}
use Rattle.statements_facts.specs.Statement.{IssuerIdentity, Holdings, CrlAnswer, answer_for}
use Rattle.store_sql.specs.declared.fault.StoreFault.{StoreFault}
use Rattle.store_rows.specs.declared.crl.Head.{Head}
use Rattle.store_rows.specs.Contents.{CrlRow, Contents, head_of, is_crl_of, id_of, scope_number}
use Rattle.store_rows.specs.Places.{entries_under}
use Rattle.store_rows.specs.Seen.{seen_head}
use Rattle.store_rows.specs.Steps.{Finds, HasFound}
use Rattle.statements_facts.specs.declared.answer.CrlAnswer as listed
use Rattle.statements_facts.specs.Answer.{seen_ocsp}
use Rattle.statements_facts.specs.declared.scope.Scope.TheVariants.{All}
use Rattle.statements_facts.specs.declared.answer.Answers.{Answers}
use Rattle.store_maps.specs.declared.on_certificate.CertificateKey.{CertificateKey}
use Rattle.store_maps.specs.Answers.{AreAnswersHeld, AreAnswersUnder}
use Rattle.store_maps.specs.Held.{crl_under, held_in, ocsp_under}
use Rattle.statements_facts.specs.Answer.{seen_crl}
use Rattle.store_maps.specs.LooksUp.{LooksUp}
use Rattle.store_maps.proofs.Chains.{finds_then, fails_then, found_in, fails_in}

-- ---- a list under an id

pub no_list : (it : Contents) (scope : Scope) (id : ℕ) (serial : List ℕ) (answer : Option Head) → answer ≡ None → option_map seen_head answer ≡ option_map head_of (find (is_crl_of id scope) it.crls)
    → None ≡ option_map (answer_for serial) (crl_under it scope id)
no_list it scope id serial answer none is = cases (find (is_crl_of id scope) it.crls) (sym (ap (option_map seen_head) none) ∙ is)
  where
    cases : (row : Option CrlRow) → None ≡ option_map head_of row
        → ◌≡◌ {A = Option CrlAnswer} None (option_map (answer_for serial) (option_map (λ (row : CrlRow). record { number = row.number; window = row.window; reasons = first_reason (entries_under it.entries id (scope_number scope)) }) row))
    cases None e = refl
    cases (Some row) e = absurd cc

pub a_list : (it : Contents) (scope : Scope) (id : ℕ) (serial : List ℕ) (answer : Option Head) (head : Head) (reason : Option ℕ) (crl : listed.CrlAnswer) → answer ≡ Some head
    → seen_crl crl ≡ record { number = head.number; window = record { from = head.from; until = head.until }; reason = reason }
    → option_map seen_head answer ≡ option_map head_of (find (is_crl_of id scope) it.crls) → reason ≡ first_reason (entries_under it.entries id (scope_number scope)) serial
    → Some (seen_crl crl) ≡ option_map (answer_for serial) (crl_under it scope id)
a_list it scope id serial answer head reason crl some made is listed = cases (find (is_crl_of id scope) it.crls) (sym (ap (option_map seen_head) some) ∙ is)
  where
    cases : (row : Option CrlRow) → Some (seen_head head) ≡ option_map head_of row
        → Some (seen_crl crl) ≡ option_map (answer_for serial) (option_map (λ (row : CrlRow). record { number = row.number; window = row.window; reasons = first_reason (entries_under it.entries id (scope_number scope)) }) row)
    cases None e = absurd cc
    cases (Some row) e =
        let same : seen_head head ≡ head_of row = cc in
        ap (λ part. Some part) (made ∙ λ i. record { number = (same i).number; window = (same i).window; reason = listed i })

-- ---- from an issuer to its id

-- the issuer has no id, so nothing is held of it
pub none_held : {Fact : Type 0} (id found : Option ℕ) (under : ℕ → Option Fact) → found ≡ None → found ≡ id → option_and_then under id ≡ None
none_held id found under none is = ap (option_and_then under) (sym is ∙ none)

pub id_held : {Fact : Type 0} (id found : Option ℕ) (n : ℕ) (under : ℕ → Option Fact) → found ≡ Some n → found ≡ id → option_and_then under id ≡ under n
id_held id found n under some is = ap (option_and_then under) (sym is ∙ some)

-- a look-up under the id of an issuer is one of what is held of the issuer
pub looks_under : {A Fact Part : Type 0} (old mid new : State) (identity : IssuerIdentity) (answer : Option ℕ) (id : ℕ) (result : Result A StoreFault) (view : A → Option Part) (part : Fact → Part) (under : Contents → ℕ → Option Fact)
    → answer ≡ Some id → HasFound old mid (λ it found. found ≡ id_of it.issuers identity) answer
    → Finds mid new (λ it found. view found ≡ option_map part (under it id)) result
    → Finds old new (λ it found. view found ≡ option_map part (option_and_then (under it) (id_of it.issuers identity))) result
looks_under old mid new identity answer id (Ok found) view part under some one two =
    finds_then old mid new (λ it found. found ≡ id_of it.issuers identity) answer (λ it found. view found ≡ option_map part (under it id)) found (λ it found. view found ≡ option_map part (option_and_then (under it) (id_of it.issuers identity))) found one two
    (λ it is there. there ∙ ap (option_map part) (sym (id_held (id_of it.issuers identity) answer id (under it) some is)))
looks_under old mid new identity answer id (Err fault) view part under some one two = fails_then old mid new (λ it found. found ≡ id_of it.issuers identity) answer fault one two

-- the same where the whole fact is looked for
pub looks_same : {A Fact : Type 0} (old mid new : State) (identity : IssuerIdentity) (answer : Option ℕ) (id : ℕ) (result : Result A StoreFault) (view : A → Option Fact) (under : Contents → ℕ → Option Fact)
    → answer ≡ Some id → HasFound old mid (λ it found. found ≡ id_of it.issuers identity) answer
    → Finds mid new (λ it found. view found ≡ under it id) result
    → Finds old new (λ it found. view found ≡ option_and_then (under it) (id_of it.issuers identity)) result
looks_same old mid new identity answer id (Ok found) view under some one two =
    finds_then old mid new (λ it found. found ≡ id_of it.issuers identity) answer (λ it found. view found ≡ under it id) found (λ it found. view found ≡ option_and_then (under it) (id_of it.issuers identity)) found one two
    (λ it is there. there ∙ sym (id_held (id_of it.issuers identity) answer id (under it) some is))
looks_same old mid new identity answer id (Err fault) view under some one two = fails_then old mid new (λ it found. found ≡ id_of it.issuers identity) answer fault one two

-- as a look-up of what is held
pub looks_up : {A Part : Type 0} (old new : State) (result : Result A StoreFault) (view : A → Option Part) (want : Holdings → Option Part)
    → Finds old new (λ it found. view found ≡ want (held_in it)) result → LooksUp old new (λ held found. view found ≡ want held) result
looks_up old new (Ok found) view want h = found_in old new (λ held found. view found ≡ want held) found h
looks_up old new (Err fault) view want h = fails_in old new fault h

-- what holds holds where the answer is Ok
pub on_ok : {A E : Type 0} {P : Type 0} (result : Result A E) → P → OnOk result P
on_ok (Ok found) p = p
on_ok (Err fault) p = tt

-- a look-up under the id of an issuer, of whatever is said of what is held then
pub looks_through : {A : Type 0} (old mid new : State) (identity : IssuerIdentity) (answer : Option ℕ) (id : ℕ) (result : Result A StoreFault) (Under : Contents → A → Type 0) (Is : Holdings → A → Type 0)
    → answer ≡ Some id → HasFound old mid (λ it found. found ≡ id_of it.issuers identity) answer → Finds mid new Under result
    → ((it : Contents) (found : A) → id_of it.issuers identity ≡ Some id → Under it found → Is (held_in it) found) → LooksUp old new Is result
looks_through old mid new identity answer id (Ok found) Under Is some one two leads =
    found_in old new Is found
    (finds_then old mid new (λ it found. found ≡ id_of it.issuers identity) answer Under found (λ it. Is (held_in it)) found one two
    (λ it is there. leads it found (sym is ∙ some) there))
looks_through old mid new identity answer id (Err fault) Under Is some one two leads =
    fails_in old new fault (fails_then old mid new (λ it found. found ≡ id_of it.issuers identity) answer fault one two)

-- what stands under the id of an issuer, where it has one
under_id : {Fact : Type 0} (id : Option ℕ) (n : ℕ) (under : ℕ → Option Fact) → id ≡ Some n → under n ≡ option_and_then under id
under_id id n under is = sym (ap (option_and_then under) is)

-- and where it has none
under_none : {Fact : Type 0} (id : Option ℕ) (under : ℕ → Option Fact) → id ≡ None → None ≡ option_and_then under id
under_none id under is = sym (ap (option_and_then under) is)

-- under the id of an issuer stands what is held of the issuer
pub answers_of : (it : Contents) (identity : IssuerIdentity) (key : CertificateKey) (id : ℕ) (answers : Answers) → id_of it.issuers identity ≡ Some id → AreAnswersUnder id key it answers
    → AreAnswersHeld identity key (held_in it) answers
answers_of it identity key id answers is there = (
  there.0.0 ∙ ap (option_map (answer_for key.serial.now)) (under_id (id_of it.issuers identity) id (crl_under it All) is),
  there.0.1 ∙ ap (option_map (answer_for key.serial.now)) (under_id (id_of it.issuers identity) id (crl_under it key.kind) is),
  there.1 ∙ under_id (id_of it.issuers identity) id (ocsp_under it key.name_hash.now key.serial.now) is,
)

-- nothing is held of an issuer that has no id
pub no_answers : (it : Contents) (identity : IssuerIdentity) (key : CertificateKey) (answers : Answers) → id_of it.issuers identity ≡ None
    → answers.all ≡ None → answers.own ≡ None → answers.ocsp ≡ None → AreAnswersHeld identity key (held_in it) answers
no_answers it identity key answers is all own ocsp = (
  ap (option_map seen_crl) all ∙ ap (option_map (answer_for key.serial.now)) (under_none (id_of it.issuers identity) (crl_under it All) is),
  ap (option_map seen_crl) own ∙ ap (option_map (answer_for key.serial.now)) (under_none (id_of it.issuers identity) (crl_under it key.kind) is),
  ap (option_map seen_ocsp) ocsp ∙ under_none (id_of it.issuers identity) (ocsp_under it key.name_hash.now key.serial.now) is,
)
