-- The id of an issuer, found or given.
use Rattle.std.proofs.Common.{◌≡◌, ℕ, Option, Some, None, Result, Ok, Err, IfOk, sym, subst, ◌∙◌}
use Rattle.sqlite.specs.State.{State}
use Rattle.sqlite.proofs.InsideLemmas.{keeps_then}
use Rattle.statements_facts.specs.Statement.{IssuerIdentity}
use Rattle.store_sql.specs.declared.fault.StoreFault.{StoreFault}
use Rattle.store_rows.specs.Contents.{id_of}
use Rattle.store_rows.specs.Holding.{HasRoom, next_id, with_issuer}
use Rattle.store_rows.specs.Steps.{HasFound, IsKnown, Moves}
use Rattle.store_maps.specs.Held.{IsStoreOf}
use Rattle.store_maps.proofs.HeldLaws.{same_held}
use Rattle.store_taking.specs.Passing.{HasStepped, StepsTo, HasIssuer, LacksIssuer, IsIdOf, KnowsId}
use Rattle.store_taking.proofs.Chains.{still_holds}
use Rattle.store_taking.proofs.Forms.{new_id, issuer_in_form, issuer_owned}

pub is_id_of : (old new : State) (identity : IssuerIdentity) (found : Option ℕ) (id : ℕ) → found ≡ Some id → HasFound old new (λ it id. id ≡ id_of it.issuers identity) found → IsKnown old new identity found
    → IsIdOf old new identity id
is_id_of old new identity found id is answer known = record { keeps = answer.keeps; mode = answer.mode; known = subst (IsKnown old new identity) is known }

-- the issuer has an id
pub passes_found : (old new : State) (identity : IssuerIdentity) (found : Option ℕ) (id : ℕ) → found ≡ Some id → HasFound old new (λ it id. id ≡ id_of it.issuers identity) found → HasStepped old new IsStoreOf (HasIssuer identity id)
passes_found old new identity found id is answer = record {
  keeps = answer.keeps;
  mode = answer.mode;
  held = λ held store.
      let there = answer.rows store.origin store.contents store.rows store.form in
      record {
        store = record { origin = store.origin; contents = store.contents; rows = still_holds old new store.origin store.contents there.0 store.rows; form = store.form; owned = store.owned; held_is = store.held_is };
        known = sym there.1 ∙ is;
      };
}

-- it has none
pub passes_unfound : (old new : State) (identity : IssuerIdentity) (found : Option ℕ) → found ≡ None → HasFound old new (λ it id. id ≡ id_of it.issuers identity) found → HasStepped old new IsStoreOf (LacksIssuer identity)
passes_unfound old new identity found is answer = record {
  keeps = answer.keeps;
  mode = answer.mode;
  held = λ held store.
      let there = answer.rows store.origin store.contents store.rows store.form in
      record {
        store = record { origin = store.origin; contents = store.contents; rows = still_holds old new store.origin store.contents there.0 store.rows; form = store.form; owned = store.owned; held_is = store.held_is };
        unknown = sym there.1 ∙ is;
      };
}

-- and is given one, which changes nothing that is held
passes_added : (old mid new : State) (identity : IssuerIdentity) (id : ℕ) → Moves old mid (with_issuer identity) → IsIdOf mid new identity id → HasRoom id → HasStepped old new (LacksIssuer identity) (HasIssuer identity id)
passes_added old mid new identity id moves added room = record {
  keeps = keeps_then old mid new (record { was_open = λ _. moves.was_open; committed = λ _. moves.committed_is }) added.keeps;
  mode = added.mode;
  held = λ held was.
      let store = was.store in
      let it = store.contents in
      let rows = moves.rows store.origin it store.rows store.form in
      let there = added.known.rows store.origin (with_issuer identity it) rows in
      let some : Some id ≡ Some (next_id it.issuers) = there.1 ∙ new_id it identity was.unknown in
      let same : id ≡ next_id it.issuers = cc in
      record {
        store = record {
          origin = store.origin;
          contents = with_issuer identity it;
          rows = still_holds mid new store.origin (with_issuer identity it) there.0 rows;
          form = issuer_in_form it identity store.form (subst HasRoom same room);
          owned = issuer_owned it identity store.owned;
          held_is = same_held it store.owned identity ∙ store.held_is;
        };
        known = sym there.1;
      };
}

pub adds_issuer : (old mid new : State) (identity : IssuerIdentity) (result : Result ℕ StoreFault) → Moves old mid (with_issuer identity) → KnowsId mid new identity result → IfOk result HasRoom
    → StepsTo old new (LacksIssuer identity) (HasIssuer identity) result
adds_issuer old mid new identity (Ok id) moves added room = passes_added old mid new identity id moves added room
adds_issuer old mid new identity (Err fault) moves fails none = record {
  keeps = keeps_then old mid new (record { was_open = λ _. moves.was_open; committed = λ _. moves.committed_is }) fails.keeps;
  formed = λ e held was. fails.formed e;
}
