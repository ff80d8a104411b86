-- Why facts are not put into a store, and what room is left.
use Rattle.std.proofs.Common.{◌≡◌, ◌<◌, ◌≤◌, ◌+◌, ℕ, ℤ, pos, ◌+ℤ◌, suc, IsTrue, zero, true, List, [], ◌∷◌, map, filter, fold, not, length, get_or, Option, Some, None, Result, Ok, Err, IfOk, refl, sym, ap, subst, ◌∙◌, inl, inr, arith}
use Rattle.std.proofs.lemmas.Int.{ints}
use Rattle.std.specs.List.{AllByRecursion}
use Rattle.sqlite_trees.specs.Tree.{Trees, rowid}
use Rattle.sqlite_trees.specs.declared.store.Store.{Ghosts}
use Rattle.sqlite.specs.Held.{Held, state}
use Rattle.sqlite.specs.Steps.{FailsToCommit}
use Rattle.sqlite.specs.declared.error.Error.{Error}
use Rattle.sqlite.specs.Edit.{id_in}
use Rattle.sqlite.specs.Effect.{Database}
use Rattle.sqlite.specs.State.{State, HasCleanDisk, Survives}
use Rattle.statements_facts.specs.declared.fact.CrlFacts.{CrlFacts}
use Rattle.statements_facts.specs.declared.fact.Facts.{Facts}
use Rattle.statements_facts.specs.declared.issuer.Issuer.{Issuer}
use Rattle.statements_facts.specs.declared.scope.Scope.{Scope}
use Rattle.statements_facts.specs.declared.single.Single.{Single}
use Rattle.statements_facts.specs.Fact.{Fact, crl_fact, facts_in_list, seen_issuer, slot_for}
use Rattle.statements_facts.specs.Listed.{ListedSerial}
use Rattle.statements_facts.specs.Single.{SingleFact, seen_single}
use Rattle.statements_facts.specs.Statement.{IssuerIdentity, OcspFact}
use Rattle.store_sql.specs.Cause.{MayRefuse}
use Rattle.store_sql.specs.declared.fault.StoreFault.{StoreFault}
use Rattle.store_sql.specs.declared.fault.StoreFault.TheVariants.{Store, Schema, Memory}
use Rattle.store_sql.specs.Fault.{fault_from}
use Rattle.store_sql.proofs.Laws.{begun_refuses, commit_refuses, later_refuses, sooner_refuses}
use Rattle.store_rows.specs.Contents.{CrlHead, CrlRow, SingleRow, Contents, crl_row, id_of, is_crl_of, scope_number, single_row, is_single_of}
use Rattle.store_rows.specs.Holding.{FitInList, HasRoom, IsNumbered, IsSaid, next_id, with_crl, with_issuer, with_single}
use Rattle.store_rows.specs.Room.{CanPutSingle, IssuerFitsRow, SingleFitsRow, LeavesIds, CrlsLeaveAnId, SinglesLeaveIds, EntriesFit}
use Rattle.store_rows.specs.Steps.{HasFound, Fails, IsCaused, IsCausedOr, IsCausedIfRoom, Moves}
use Rattle.store_maps.specs.Held.{held_in}
use Rattle.store_taking.specs.Passing.{KnowsId}
use Rattle.store_taking.specs.Room.{HasRoomFor, IsStoreWithRoom, KnowsWithRoom, LacksWithRoom, Knows, IsCausedOver, ListFits, FactsFit, HasRoomForFacts}
use Rattle.store_taking.proofs.Chains.{still_holds}
use Rattle.store_taking.specs.Lists.{with_list}
use Rattle.store_taking.proofs.Forms.{all_and, all_as, all_filtered, crl_in_form, entries_in_form, issuer_in_form, issuer_owned, id_below, last_is, list_owned, new_id, scope_low, single_in_form, single_owned}
use Rattle.store_maps.proofs.HeldLaws.{same_held}

-- ---- room

leaves_fewer : (n : ℕ) (id : ℤ) → LeavesIds (suc n) id → LeavesIds n id
leaves_fewer n id it = record { low = it.low; high = let h = it.high in grind (arith, ints) }

leaves_one : (n : ℕ) (id : ℤ) → LeavesIds (suc n) id → LeavesIds 1 id
leaves_one n id it = record { low = it.low; high = let h = it.high in grind (arith, ints) }

next_leaves : (n : ℕ) (id : ℤ) → LeavesIds (suc n) id → LeavesIds n (id +ℤ pos 1)
next_leaves n id it = record { low = let l = it.low in grind (arith, ints); high = let h = it.high in grind (arith, ints) }

last_leaves : (n : ℕ) (s : ℤ) (xs : List SingleRow) → LeavesIds n s → AllByRecursion (λ (row : SingleRow). LeavesIds (suc n) row.id) xs → LeavesIds n (fold (λ _ r. id_in (rowid r) +ℤ pos 1) s (map single_row xs))
last_leaves n s [] first h = first
last_leaves n s (x ∷ xs) first h = last_leaves n (x.id +ℤ pos 1) xs (next_leaves n x.id h.0) h.1

last_crl_leaves : (n : ℕ) (s : ℤ) (xs : List CrlRow) → LeavesIds n s → AllByRecursion (λ (row : CrlRow). LeavesIds (suc n) row.id) xs → LeavesIds n (fold (λ _ r. id_in (rowid r) +ℤ pos 1) s (map crl_row xs))
last_crl_leaves n s [] first h = first
last_crl_leaves n s (x ∷ xs) first h = last_crl_leaves n (x.id +ℤ pos 1) xs (next_leaves n x.id h.0) h.1

first_leaves : (n : ℕ) → n < 9223372036854775807 → LeavesIds n (pos 1)
first_leaves n few = record { low = grind (arith, ints); high = grind (arith, ints) }

pub room_for_single : (issuers rows id : ℕ) (single : SingleFact) (it : Contents) → HasRoomFor issuers (suc rows) it → HasRoomFor issuers rows (with_single id single it)
room_for_single issuers rows id single it room =
    let few : rows < 9223372036854775807 = let f = room.few in omega (arith, f) in
    let others = filter (λ row. not (is_single_of id single.name_hash single.serial row)) it.singles in
    let left = all_filtered (λ (row : SingleRow). LeavesIds (suc rows) row.id) (λ row. not (is_single_of id single.name_hash single.serial row)) it.singles room.singles in
    record {
      new_issuers = room.new_issuers;
      few = few;
      crls = all_as (λ (row : CrlRow). LeavesIds (suc rows) row.id) (λ (row : CrlRow). LeavesIds rows row.id) it.crls (λ row l. leaves_fewer rows row.id l) room.crls;
      singles = all_and (λ (row : SingleRow). LeavesIds rows row.id) others _ (all_as (λ (row : SingleRow). LeavesIds (suc rows) row.id) (λ (row : SingleRow). LeavesIds rows row.id) others (λ row l. leaves_fewer rows row.id l) left)
          (last_leaves rows (pos 1) others (first_leaves rows few) left);
    }

pub room_for_list : (issuers rows id : ℕ) (scope : Scope) (head : CrlHead) (listed : List ListedSerial) (it : Contents) → HasRoomFor issuers (suc rows) it → HasRoomFor issuers rows (with_list id scope head listed it)
room_for_list issuers rows id scope head listed it room =
    let few : rows < 9223372036854775807 = let f = room.few in omega (arith, f) in
    let others = filter (λ row. not (is_crl_of id scope row)) it.crls in
    let left = all_filtered (λ (row : CrlRow). LeavesIds (suc rows) row.id) (λ row. not (is_crl_of id scope row)) it.crls room.crls in
    record {
      new_issuers = room.new_issuers;
      few = few;
      crls = all_and (λ (row : CrlRow). LeavesIds rows row.id) others _ (all_as (λ (row : CrlRow). LeavesIds (suc rows) row.id) (λ (row : CrlRow). LeavesIds rows row.id) others (λ row l. leaves_fewer rows row.id l) left)
          (last_crl_leaves rows (pos 1) others (first_leaves rows few) left);
      singles = all_as (λ (row : SingleRow). LeavesIds (suc rows) row.id) (λ (row : SingleRow). LeavesIds rows row.id) it.singles (λ row l. leaves_fewer rows row.id l) room.singles;
    }

pub room_for_issuer : (issuers rows : ℕ) (identity : IssuerIdentity) (it : Contents) → HasRoomFor (suc issuers) rows it → HasRoomFor issuers rows (with_issuer identity it)
room_for_issuer issuers rows identity it room = record {
  new_issuers = let e = last_is 1 it.issuers (record { id = next_id it.issuers; identity = identity }) in let r = room.new_issuers in omega (arith, e, r);
  few = room.few;
  crls = room.crls;
  singles = room.singles;
}

less_room : (issuers rows : ℕ) (it : Contents) → HasRoomFor (suc issuers) rows it → HasRoomFor issuers rows it
less_room issuers rows it room = record { new_issuers = let r = room.new_issuers in omega (arith, r); few = room.few; crls = room.crls; singles = room.singles }

fewer_rows : (issuers rows : ℕ) (it : Contents) → HasRoomFor issuers (suc rows) it → HasRoomFor issuers rows it
fewer_rows issuers rows it room = record {
  new_issuers = room.new_issuers;
  few = let f = room.few in omega (arith, f);
  crls = all_as (λ (row : CrlRow). LeavesIds (suc rows) row.id) (λ (row : CrlRow). LeavesIds rows row.id) it.crls (λ row l. leaves_fewer rows row.id l) room.crls;
  singles = all_as (λ (row : SingleRow). LeavesIds (suc rows) row.id) (λ (row : SingleRow). LeavesIds rows row.id) it.singles (λ row l. leaves_fewer rows row.id l) room.singles;
}

pub crl_room : (issuers rows : ℕ) (it : Contents) → HasRoomFor issuers (suc rows) it → CrlsLeaveAnId it
crl_room issuers rows it room = all_as (λ (row : CrlRow). LeavesIds (suc rows) row.id) (λ (row : CrlRow). LeavesIds 1 row.id) it.crls (λ row l. leaves_one rows row.id l) room.crls

pub single_room : (issuers rows : ℕ) (it : Contents) → HasRoomFor issuers (suc rows) it → SinglesLeaveIds 1 it
single_room issuers rows it room = all_as (λ (row : SingleRow). LeavesIds (suc rows) row.id) (λ (row : SingleRow). LeavesIds 1 row.id) it.singles (λ row l. leaves_one rows row.id l) room.singles

id_has_room : (issuers rows : ℕ) (it : Contents) → HasRoomFor (suc issuers) rows it → HasRoom (next_id it.issuers)
id_has_room issuers rows it room = let r = room.new_issuers in omega (arith, r)

-- ---- one call behind another

pub then_caused : (old mid new : State) (P Q : Trees → Type 0) (Before Mid : Database → Type 0) (Fits After : Type 0) (fault : StoreFault) → Survives old mid P → Survives mid new Q → HasCleanDisk mid
    → (Before old.now → Mid mid.now) → (Fits → After) → IsCausedOver Mid After mid new fault → IsCausedOver Before Fits old new fault
then_caused old mid new P Q Before Mid Fits After fault first second clean leads fits caused e before fit = later_refuses old mid new P Q first second clean (caused e (leads before) (fits fit))

-- ---- the id of an issuer

module _ (old new : State) (identity : IssuerIdentity) (found : Option ℕ) (answer : HasFound old new (λ it id. id ≡ id_of it.issuers identity) found) (issuers rows : ℕ) where
  pub lacks : found ≡ None → IsStoreWithRoom issuers rows old.now → LacksWithRoom identity issuers rows new.now
  lacks is before =
      let store = before.store in
      let there = answer.rows store.origin store.contents store.rows store.form in
      record {
        held = before.held;
        was = record {
          store = record { origin = store.origin; contents = store.contents; rows = still_holds old new store.origin store.contents there.0 store.rows; form = store.form; owned = store.owned; held_is = store.held_is };
          unknown = sym there.1 ∙ is;
        };
        room = before.room;
      }

  pub knows : (id : ℕ) → found ≡ Some id → IsStoreWithRoom (suc issuers) rows old.now → KnowsWithRoom identity id issuers rows new.now
  knows id is before =
      let store = before.store in
      let there = answer.rows store.origin store.contents store.rows store.form in
      record {
        held = before.held;
        was = record {
          store = record { origin = store.origin; contents = store.contents; rows = still_holds old new store.origin store.contents there.0 store.rows; form = store.form; owned = store.owned; held_is = store.held_is };
          known = sym there.1 ∙ is;
        };
        room = less_room issuers rows store.contents before.room;
      }

-- an id that was just given is found
pub id_not_found : (old new : State) (identity : IssuerIdentity) (found : Option ℕ) → found ≡ None → HasFound old new (λ it id. id ≡ id_of it.issuers identity) found → Knows identity old.now → MayRefuse old new
id_not_found old new identity found none answer there =
    let store = there.2.store in
    let is = (answer.rows store.origin store.contents store.rows store.form).1 in
    absurd (let no : None ≡ Some there.0 = sym none ∙ is ∙ there.2.known in cc)

pub id_not_read : (old new : State) (identity : IssuerIdentity) (fault told : StoreFault) → (fault ≡ Memory → told ≡ Memory) → Fails old new fault → IsCaused old new fault → told ≡ Store → Knows identity old.now → MayRefuse old new
id_not_read old new identity Store told memory fails caused e there = let store = there.2.store in caused refl store.origin store.contents store.rows store.form
id_not_read old new identity Schema told memory fails caused e there = let store = there.2.store in absurd (fails.formed refl store.origin store.contents store.rows store.form)
id_not_read old new identity Memory told memory fails caused e there = absurd (let no : Memory ≡ Store = sym (memory refl) ∙ e in cc)

-- an issuer without an id is not added, or its id is not found then
pub issuer_not_added : (old new : State) (identity : IssuerIdentity) (issuers rows : ℕ) (fault : StoreFault)
    → IsCausedIfRoom (λ it. (id_of it.issuers identity ≡ None) × IssuerFitsRow identity) old new fault → IsCausedOver (LacksWithRoom identity (suc issuers) rows) (IssuerFitsRow identity) old new fault
issuer_not_added old new identity issuers rows fault caused e before fits =
    let store = before.was.store in caused e store.origin store.contents store.rows store.form (before.was.unknown, fits)

pub added_knows : (old new : State) (identity : IssuerIdentity) (issuers rows : ℕ) → Moves old new (with_issuer identity) → LacksWithRoom identity (suc issuers) rows old.now → Knows identity new.now
added_knows old new identity issuers rows moves before =
    let store = before.was.store in
    let it = store.contents in
    let room = id_has_room issuers rows it before.room in (
      next_id it.issuers,
      before.held,
      record {
        store = record {
          origin = store.origin;
          contents = with_issuer identity it;
          rows = moves.rows store.origin it store.rows store.form;
          form = issuer_in_form it identity store.form room;
          owned = issuer_owned it identity store.owned;
          held_is = same_held it store.owned identity ∙ store.held_is;
        };
        known = new_id it identity before.was.unknown;
      },
    )

pub added_leaves : (old mid new : State) (identity : IssuerIdentity) (result : Result ℕ StoreFault) (issuers rows : ℕ) → Moves old mid (with_issuer identity) → KnowsId mid new identity result
    → IfOk result (λ id. LacksWithRoom identity (suc issuers) rows old.now → KnowsWithRoom identity id issuers rows new.now)
added_leaves old mid new identity (Err fault) issuers rows moves fails = tt
added_leaves old mid new identity (Ok id) issuers rows moves added = λ before.
    let store = before.was.store in
    let it = store.contents in
    let there = moves.rows store.origin it store.rows store.form in
    let is = added.known.rows store.origin (with_issuer identity it) there in
    record {
      held = before.held;
      was = record {
        store = record {
          origin = store.origin;
          contents = with_issuer identity it;
          rows = still_holds mid new store.origin (with_issuer identity it) is.0 there;
          form = issuer_in_form it identity store.form (id_has_room issuers rows it before.room);
          owned = issuer_owned it identity store.owned;
          held_is = same_held it store.owned identity ∙ store.held_is;
        };
        known = sym is.1;
      };
      room = room_for_issuer issuers rows identity it before.room;
    }

-- ---- a fact under the id of its issuer

module _ (identity : IssuerIdentity) (id issuers rows : ℕ) where
  pub list_not_compared : (old new : State) (list : CrlFacts) (fault : StoreFault) → IsCausedOr (λ _. 4294967296 ≤ length list.revoked) old new fault
      → IsCausedOver (KnowsWithRoom identity id issuers (suc rows)) (ListFits list) old new fault
  list_not_compared old new list fault caused e before fits =
      let store = before.was.store in
      elim (caused e store.origin store.contents store.rows store.form) [ inl limit ↦ absurd (let f = fits.few in omega (arith, limit, f)) | inr cause ↦ cause ]

  pub list_not_stored : {A : Type 0} (old mid new : State) (list : CrlFacts) (fault : StoreFault) (P : Contents → A → Type 0) (a : A) → HasFound old mid P a → Survives old mid (λ _. ⊥) → Survives mid new (λ _. ⊥) → HasCleanDisk mid
      → IsCausedIfRoom (λ it. CrlsLeaveAnId it × EntriesFit list.revoked) mid new fault → IsCausedOver (KnowsWithRoom identity id issuers (suc rows)) (ListFits list) old new fault
  list_not_stored old mid new list fault P a answer first second clean caused e before fits =
      let store = before.was.store in
      let there = (answer.rows store.origin store.contents store.rows store.form).0 in
      later_refuses old mid new _ _ first second clean
      (caused e store.origin store.contents (still_holds old mid store.origin store.contents there store.rows) store.form
      (crl_room issuers rows store.contents before.room, record { few = let f = fits.few in omega (arith, f); short = fits.short }))

  pub single_not_compared : (old new : State) (single : SingleFact) (fault : StoreFault) → IsCaused old new fault → IsCausedOver (KnowsWithRoom identity id issuers (suc rows)) (SingleFitsRow single) old new fault
  single_not_compared old new single fault caused e before fits = let store = before.was.store in caused e store.origin store.contents store.rows store.form

  pub single_not_stored : {A : Type 0} (old mid new : State) (single : SingleFact) (fault : StoreFault) (P : Contents → A → Type 0) (a : A) → HasFound old mid P a → Survives old mid (λ _. ⊥) → Survives mid new (λ _. ⊥) → HasCleanDisk mid
      → IsCausedIfRoom (CanPutSingle single) mid new fault → IsCausedOver (KnowsWithRoom identity id issuers (suc rows)) (SingleFitsRow single) old new fault
  single_not_stored old mid new single fault P a answer first second clean caused e before fits =
      let store = before.was.store in
      let there = (answer.rows store.origin store.contents store.rows store.form).0 in
      later_refuses old mid new _ _ first second clean
      (caused e store.origin store.contents (still_holds old mid store.origin store.contents there store.rows) store.form (single_room issuers rows store.contents before.room, fits))

  -- what is left out takes no room
  pub room_if_left : {A : Type 0} (old new : State) (P : Contents → A → Type 0) (a : A) → HasFound old new P a → KnowsWithRoom identity id issuers (suc rows) old.now → IsStoreWithRoom issuers rows new.now
  room_if_left old new P a answer before =
      let store = before.was.store in
      let there = (answer.rows store.origin store.contents store.rows store.form).0 in
      record {
        held = before.held;
        store = record { origin = store.origin; contents = store.contents; rows = still_holds old new store.origin store.contents there store.rows; form = store.form; owned = store.owned; held_is = store.held_is };
        room = fewer_rows issuers rows store.contents before.room;
      }

  -- and what is put takes one id
  pub room_if_list_put : {A : Type 0} (old mid new : State) (scope : Scope) (head : CrlHead) (listed : List ListedSerial) (P : Contents → A → Type 0) (a : A) → HasFound old mid P a
      → Moves mid new (with_list id scope head listed) → IsNumbered head → FitInList listed → HasRoom id → KnowsWithRoom identity id issuers (suc rows) old.now → IsStoreWithRoom issuers rows new.now
  room_if_list_put old mid new scope head listed P a answer moves numbered formed room before =
      let store = before.was.store in
      let it = store.contents in
      let there = (answer.rows store.origin it store.rows store.form).0 in
      record {
        held = held_in (with_list id scope head listed it);
        store = record {
          origin = store.origin;
          contents = with_list id scope head listed it;
          rows = moves.rows store.origin it (still_holds old mid store.origin it there store.rows) store.form;
          form = entries_in_form (with_crl id scope head it) id (scope_number scope) listed (crl_in_form it id scope head store.form numbered) room (scope_low scope) formed.few formed.ascend formed.bytes;
          owned = list_owned it id scope head listed store.owned (id_below it.issuers identity id store.rows.issuers_rise before.was.known);
          held_is = refl;
        };
        room = room_for_list issuers rows id scope head listed it before.room;
      }

  pub room_if_put : {A : Type 0} (old mid new : State) (name_hash serial : List ℕ) (said : OcspFact) (P : Contents → A → Type 0) (a : A) → HasFound old mid P a
      → Moves mid new (with_single id (record { name_hash = name_hash; serial = serial; fact = said })) → IsSaid said → KnowsWithRoom identity id issuers (suc rows) old.now → IsStoreWithRoom issuers rows new.now
  room_if_put old mid new name_hash serial said P a answer moves formed before =
      let store = before.was.store in
      let it = store.contents in
      let there = (answer.rows store.origin it store.rows store.form).0 in
      record {
        held = held_in (with_single id (record { name_hash = name_hash; serial = serial; fact = said }) it);
        store = record {
          origin = store.origin;
          contents = with_single id (record { name_hash = name_hash; serial = serial; fact = said }) it;
          rows = moves.rows store.origin it (still_holds old mid store.origin it there store.rows) store.form;
          form = single_in_form it id name_hash serial said store.form formed;
          owned = single_owned it id name_hash serial said store.owned (id_below it.issuers identity id store.rows.issuers_rise before.was.known);
          held_is = refl;
        };
        room = room_for_single issuers rows id (record { name_hash = name_hash; serial = serial; fact = said }) it before.room;
      }

-- ---- one after the other

pub as_many : {X Y : Type 0} (f : X → Y) (xs : List X) → length (map f xs) ≡ length xs
as_many f [] = refl
as_many f (x ∷ xs) = ap suc (as_many f xs)

issuer_at : (all : List Issuer) (k : ℕ) (d : Issuer) → k < length all → AllByRecursion IssuerFitsRow (map seen_issuer all) → IssuerFitsRow (seen_issuer (get_or all k d))
issuer_at [] k d low h = absurd (omega (arith, low))
issuer_at (x ∷ all) zero d low h = h.0
issuer_at (x ∷ all) (suc k) d low h = issuer_at all k d (omega (arith, low)) h.1

pub issuer_fits_at : (all : List Issuer) (k : ℕ) (next : Issuer) → k < length all → next ≡ get_or all k next → AllByRecursion IssuerFitsRow (map seen_issuer all) → IssuerFitsRow (seen_issuer next)
issuer_fits_at all k next low is h = subst (λ issuer. IssuerFitsRow (seen_issuer issuer)) (sym is) (issuer_at all k next low h)

-- a fact for the first, and one for each other
pub one_each : (list : CrlFacts) → length (facts_in_list list) ≡ suc (length list.others.items)
one_each list = ap suc (as_many (λ issuer. Fact.OfCrl (slot_for list.scope issuer) (crl_fact list)) (map seen_issuer list.others.items) ∙ as_many seen_issuer list.others.items)

pub fits_at : (all : List Single) (k : ℕ) (d : Single) → k < length all → AllByRecursion SingleFitsRow (map seen_single all) → SingleFitsRow (seen_single (get_or all k d))
fits_at [] k d low h = absurd (omega (arith, low))
fits_at (x ∷ all) zero d low h = h.0
fits_at (x ∷ all) (suc k) d low h = fits_at all k d (omega (arith, low)) h.1

pub one_left : (k n : ℕ) → k < n → (left : ℕ) × (suc left + k ≡ n)
one_left zero zero low = absurd (omega (arith, low))
one_left zero (suc n) low = (n, omega arith)
one_left (suc k) zero low = absurd (omega (arith, low))
one_left (suc k) (suc n) low = let it = one_left k n (omega (arith, low)) in (it.0, let e = it.1 in omega (arith, e))

pub if_ok_then : {A E : Type 0} (result : Result A E) (P Q : A → Type 0) → IfOk result P → ((a : A) → P a → Q a) → IfOk result Q
if_ok_then (Ok answer) P Q h then = then answer h
if_ok_then (Err fault) P Q h then = tt

-- ---- the transaction ends

module _ {S : Type 0} (g : Ghosts S) (old begun : Held S) (is : begun ≡ record old { in_transaction = true }) where
  pub fault_ends : (last new : State) (facts : Facts) (fault : StoreFault) (P : Trees → Type 0) → IsCausedOver (HasRoomForFacts facts) (FactsFit facts) (state g begun) last fault → Survives last new P
      → IsCausedOver (HasRoomForFacts facts) (FactsFit facts) (state g old) new fault
  fault_ends last new facts fault P caused second e before fits =
      sooner_refuses (state g old) last new P second (begun_refuses g old begun is last (caused e (subst (λ h. HasRoomForFacts facts (state g h).now) (sym is) before) fits))

  pub commit_ends : (last new : State) (facts : Facts) (error : Error) (P Q : Trees → Type 0) → IsTrue last.in_transaction → FailsToCommit last new error → Survives (state g begun) last P → Survives last new Q → HasCleanDisk last
      → IsCausedOver (HasRoomForFacts facts) (FactsFit facts) (state g old) new (fault_from error)
  commit_ends last new facts error P Q inside fails first second clean e before fits = commit_refuses g old begun is last new error P Q inside fails first second clean e
