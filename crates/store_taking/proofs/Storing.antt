-- A list, or a single response, is taken under the id of its issuer.
use Rattle.std.proofs.Common.{◌≡◌, ◌≢◌, ℕ, List, option_and_then, refl, sym, ap, subst, ◌∙◌}
use Rattle.sqlite.specs.Effect.{Database}
use Rattle.sqlite.specs.State.{State}
use Rattle.sqlite.proofs.InsideLemmas.{keeps_then}
use Rattle.statements_facts.specs.declared.scope.Scope.{Scope}
use Rattle.statements_facts.specs.Listed.{ListedSerial}
use Rattle.statements_facts.specs.Statement.{IssuerIdentity, CrlSlot, OcspSlot, OcspFact, Holdings}
use Rattle.statements_facts.specs.Fact.{Fact}
use Rattle.store_rows.specs.Contents.{CrlHead, Contents, scope_number}
use Rattle.store_rows.specs.Holding.{HasRoom, IsNumbered, IsSaid, FitInList, with_crl, with_single}
use Rattle.store_rows.specs.Steps.{Stays, HasFound, Moves}
use Rattle.statements_facts.specs.declared.counts.TakenAs.{TakenAs}
use Rattle.statements_facts.specs.declared.counts.TakenAs.TheVariants.{Stored}
use Rattle.statements_facts.specs.Coming.{CrlIsTakenAs, OcspIsTakenAs, IsTakenAs, with_crl_fact, with_ocsp_fact, after_one}
use Rattle.statements_facts.proofs.Laws.{left_out}
use Rattle.store_maps.specs.Held.{IsStoreOf, crl_under, ocsp_under}
use Rattle.store_maps.specs.Laws.{fact_of_rows}
use Rattle.store_maps.proofs.HeldLaws.{list_held, single_held}
use Rattle.store_taking.specs.Lists.{with_list}
use Rattle.store_taking.specs.Taking.{IsTaken}
use Rattle.store_taking.specs.Passing.{HasStepped, HasIssuer}
use Rattle.store_taking.proofs.Chains.{still_holds}
use Rattle.store_taking.proofs.Forms.{id_below, scope_low, crl_in_form, entries_in_form, list_owned, single_in_form, single_owned}

-- all is as it was
still_has : (old new : State) (identity : IssuerIdentity) (id : ℕ) (held : Holdings) → Stays old new → HasIssuer identity id old.now held → HasIssuer identity id new.now held
still_has old new identity id held stays was = subst (λ db. HasIssuer identity id db held) (sym stays.now_is) was

-- ---- what is held is what stands under the id

crl_is : (db : Database) (identity : IssuerIdentity) (id : ℕ) (scope : Scope) (held : Holdings) (was : HasIssuer identity id db held)
    → crl_under was.store.contents scope id ≡ held.crl (record { issuer = identity; scope = scope })
crl_is db identity id scope held was =
    sym (ap (option_and_then (crl_under was.store.contents scope)) was.known) ∙ ap (λ (h : Holdings). h.crl (record { issuer = identity; scope = scope })) was.store.held_is

ocsp_is : (db : Database) (identity : IssuerIdentity) (id : ℕ) (name_hash serial : List ℕ) (held : Holdings) (was : HasIssuer identity id db held)
    → ocsp_under was.store.contents name_hash serial id ≡ held.ocsp (record { issuer = identity; name_hash = name_hash; serial = serial })
ocsp_is db identity id name_hash serial held was =
    sym (ap (option_and_then (ocsp_under was.store.contents name_hash serial)) was.known) ∙ ap (λ (h : Holdings). h.ocsp (record { issuer = identity; name_hash = name_hash; serial = serial })) was.store.held_is

-- ---- a list

module _ (identity : IssuerIdentity) (id : ℕ) (scope : Scope) (head : CrlHead) (listed : List ListedSerial) where
  abbrev slot : CrlSlot
  slot = record { issuer = identity; scope = scope }

  abbrev fact : Fact
  fact = Fact.OfCrl slot (fact_of_rows head listed)

  abbrev Judged : Contents → TakenAs → Type 0
  Judged it outcome = CrlIsTakenAs (crl_under it scope id) (fact_of_rows head listed) outcome

  comes_so : (old new : State) (outcome : TakenAs) → HasFound old new Judged outcome → (held : Holdings) → HasIssuer identity id old.now held → HasIssuer identity id new.now held × IsTakenAs held fact outcome
  comes_so old new outcome answer held was =
      let there = answer.rows was.store.origin was.store.contents was.store.rows was.store.form in
      (still_has old new identity id held there.0 was, subst (λ h. CrlIsTakenAs h (fact_of_rows head listed) outcome) (crl_is old.now identity id scope held was) there.1)

  pub list_left : (old new : State) (outcome : TakenAs) → outcome ≢ Stored → HasFound old new Judged outcome → HasStepped old new (HasIssuer identity id) (IsTaken fact outcome)
  list_left old new outcome other answer = record {
    keeps = answer.keeps;
    mode = answer.mode;
    held = λ held was.
        let so = comes_so old new outcome answer held was in
        record { holds = subst (IsStoreOf new.now) (sym (left_out held fact outcome other so.1)) so.0.store; counted = so.1 };
  }

  put_in : (mid new : State) → Moves mid new (with_list id scope head listed) → IsNumbered head → FitInList listed → HasRoom id → (held : Holdings) → HasIssuer identity id mid.now held
      → IsStoreOf new.now (with_crl_fact held slot (fact_of_rows head listed))
  put_in mid new moves numbered formed room held was =
      let store = was.store in
      let it = store.contents in
      let low = id_below it.issuers identity id store.rows.issuers_rise was.known in
      record {
        origin = store.origin;
        contents = with_list id scope head listed it;
        rows = moves.rows store.origin it store.rows store.form;
        form = entries_in_form (with_crl id scope head it) id (scope_number scope) listed (crl_in_form it id scope head store.form numbered) room (scope_low scope) formed.few formed.ascend formed.bytes;
        owned = list_owned it id scope head listed store.owned low;
        held_is = list_held it slot id head listed store.form store.rows.issuers_rise room formed.few formed.ascend was.known ∙ ap (λ h. with_crl_fact h slot (fact_of_rows head listed)) store.held_is;
      }

  stored_as : (held : Holdings) → IsTakenAs held fact Stored → with_crl_fact held slot (fact_of_rows head listed) ≡ after_one held fact
  stored_as held comes = sym (rw comes refl)

  pub list_stored : (old mid new : State) → HasFound old mid Judged Stored → Moves mid new (with_list id scope head listed) → IsNumbered head → FitInList listed → HasRoom id
      → HasStepped old new (HasIssuer identity id) (IsTaken fact Stored)
  list_stored old mid new answer moves numbered formed room = record {
    keeps = keeps_then old mid new answer.keeps (record { was_open = λ _. moves.was_open; committed = λ _. moves.committed_is });
    mode = moves.mode;
    held = λ held was.
        let so = comes_so old mid Stored answer held was in
        record { holds = subst (IsStoreOf new.now) (stored_as held so.1) (put_in mid new moves numbered formed room held so.0); counted = so.1 };
  }

-- ---- a single response

module _ (identity : IssuerIdentity) (id : ℕ) (name_hash serial : List ℕ) (said : OcspFact) where
  abbrev place : OcspSlot
  place = record { issuer = identity; name_hash = name_hash; serial = serial }

  abbrev told : Fact
  told = Fact.OfResponse place said

  abbrev JudgedSo : Contents → TakenAs → Type 0
  JudgedSo it outcome = OcspIsTakenAs (ocsp_under it name_hash serial id) said outcome

  single_comes_so : (old new : State) (outcome : TakenAs) → HasFound old new JudgedSo outcome → (held : Holdings) → HasIssuer identity id old.now held → HasIssuer identity id new.now held × IsTakenAs held told outcome
  single_comes_so old new outcome answer held was =
      let there = answer.rows was.store.origin was.store.contents was.store.rows was.store.form in
      (still_has old new identity id held there.0 was, subst (λ h. OcspIsTakenAs h said outcome) (ocsp_is old.now identity id name_hash serial held was) there.1)

  pub single_left : (old new : State) (outcome : TakenAs) → outcome ≢ Stored → HasFound old new JudgedSo outcome → HasStepped old new (HasIssuer identity id) (IsTaken told outcome)
  single_left old new outcome other answer = record {
    keeps = answer.keeps;
    mode = answer.mode;
    held = λ held was.
        let so = single_comes_so old new outcome answer held was in
        record { holds = subst (IsStoreOf new.now) (sym (left_out held told outcome other so.1)) so.0.store; counted = so.1 };
  }

  single_put_in : (mid new : State) → Moves mid new (with_single id (record { name_hash = name_hash; serial = serial; fact = said })) → IsSaid said → (held : Holdings) → HasIssuer identity id mid.now held → IsStoreOf new.now (with_ocsp_fact held place said)
  single_put_in mid new moves formed held was =
      let store = was.store in
      let it = store.contents in
      let low = id_below it.issuers identity id store.rows.issuers_rise was.known in
      record {
        origin = store.origin;
        contents = with_single id (record { name_hash = name_hash; serial = serial; fact = said }) it;
        rows = moves.rows store.origin it store.rows store.form;
        form = single_in_form it id name_hash serial said store.form formed;
        owned = single_owned it id name_hash serial said store.owned low;
        held_is = single_held it place id said store.rows.issuers_rise was.known ∙ ap (λ h. with_ocsp_fact h place said) store.held_is;
      }

  single_stored_as : (held : Holdings) → IsTakenAs held told Stored → with_ocsp_fact held place said ≡ after_one held told
  single_stored_as held comes = sym (rw comes refl)

  pub single_stored : (old mid new : State) → HasFound old mid JudgedSo Stored → Moves mid new (with_single id (record { name_hash = name_hash; serial = serial; fact = said })) → IsSaid said → HasStepped old new (HasIssuer identity id) (IsTaken told Stored)
  single_stored old mid new answer moves formed = record {
    keeps = keeps_then old mid new answer.keeps (record { was_open = λ _. moves.was_open; committed = λ _. moves.committed_is });
    mode = moves.mode;
    held = λ held was.
        let so = single_comes_so old mid Stored answer held was in
        record { holds = subst (IsStoreOf new.now) (single_stored_as held so.1) (single_put_in mid new moves formed held so.0); counted = so.1 };
  }

-- ---- faults

pub looked_then_stops : {A : Type 0} (old mid new : State) (identity : IssuerIdentity) (id : ℕ) (P : Contents → A → Type 0) (a : A) (fault : Rattle.store_sql.specs.declared.fault.StoreFault.StoreFault)
    → HasFound old mid P a → Rattle.store_rows.specs.Steps.Fails mid new fault → Rattle.store_taking.specs.Passing.StepFails old new (HasIssuer identity id) fault
looked_then_stops old mid new identity id P a fault answer f = record {
  keeps = keeps_then old mid new answer.keeps f.keeps;
  formed = λ e held was.
      let store = was.store in
      f.formed e store.origin store.contents (still_holds old mid store.origin store.contents (answer.rows store.origin store.contents store.rows store.form).0 store.rows) store.form;
}

pub stops_at_once : (old new : State) (identity : IssuerIdentity) (id : ℕ) (fault : Rattle.store_sql.specs.declared.fault.StoreFault.StoreFault) → Rattle.store_rows.specs.Steps.Fails old new fault → Rattle.store_taking.specs.Passing.StepFails old new (HasIssuer identity id) fault
stops_at_once old new identity id fault f = record { keeps = f.keeps; formed = λ e held was. f.formed e was.store.origin was.store.contents was.store.rows was.store.form }
