-- One reading behind another.
use Rattle.std.proofs.Common.{◌≡◌, Result, Ok, Err, sym, subst, inl}
use Rattle.sqlite.specs.State.{State, KeepsCommit}
use Rattle.sqlite.specs.Effect.{Database}
use Rattle.sqlite.proofs.InsideLemmas.{unchanged_keeps, keeps_then}
use Rattle.sqlite.proofs.Callers.{unchanged_then}
use Rattle.store_sql.specs.declared.fault.StoreFault.{StoreFault}
use Rattle.store_sql.specs.declared.fault.StoreFault.TheVariants.{Schema}
use Rattle.store_rows.specs.Contents.{Contents}
use Rattle.store_adoption.specs.Inspects.{TablesAreInOrder}
use Rattle.store_listing.specs.Reads.{ReadsStore, IsStoreWith}
use Rattle.store_listing.proofs.Told.{in_order_as}

-- no store's rows fail the test of a table
pub read_refused : {A : Type 0} (old new : State) (Q : Database → Type 0) (Is : Contents → A → Type 0) (fault : StoreFault)
    → KeepsCommit old new × (fault ≡ Schema → TablesAreInOrder old.now → Q old.now → ⊥) → ((it : Contents) → IsStoreWith old.now it → Q old.now) → ReadsStore {A = A} old new Is (Err fault)
read_refused old new Q Is fault h formed = (h.0, λ ours it s. h.1 ours (in_order_as old.now it s) (formed it s))

-- ---- in turn

pub reads_then : {A B : Type 0} (old mid new : State) (P : Contents → A → Type 0) (Q R : Contents → B → Type 0) (a : A) (result : Result B StoreFault)
    → ReadsStore old mid P (Ok a) → ReadsStore mid new Q result → ((it : Contents) (b : B) → IsStoreWith old.now it → P it a → Q it b → R it b) → ReadsStore old new R result
reads_then old mid new P Q R a (Ok b) first second both =
    (unchanged_then old mid new first.0 second.0, λ it s. both it b s (first.1 it s) (second.1 it (subst (λ (db : Database). IsStoreWith db it) (sym first.0.0.now_is) s)))
reads_then old mid new P Q R a (Err fault) first second both =
    (keeps_then old mid new (unchanged_keeps old mid (inl first.0)) second.0, λ ours it s. second.1 ours it (subst (λ (db : Database). IsStoreWith db it) (sym first.0.0.now_is) s))

-- a reading that stops says so of any answer
pub reads_stop : {A B : Type 0} (old new : State) (P : Contents → A → Type 0) (Q : Contents → B → Type 0) (fault : StoreFault) → ReadsStore {A = A} old new P (Err fault) → ReadsStore {A = B} old new Q (Err fault)
reads_stop old new P Q fault h = h

-- two readings, and an answer made of both
pub reads_both : {A B C : Type 0} (old mid new : State) (P : Contents → A → Type 0) (Q : Contents → B → Type 0) (R : Contents → C → Type 0) (a : A) (b : B) (answer : C)
    → ReadsStore old mid P (Ok a) → ReadsStore mid new Q (Ok b) → ((it : Contents) → IsStoreWith old.now it → P it a → Q it b → R it answer) → ReadsStore old new R (Ok answer)
reads_both old mid new P Q R a b answer first second both =
    (unchanged_then old mid new first.0 second.0, λ it s. both it s (first.1 it s) (second.1 it (subst (λ (db : Database). IsStoreWith db it) (sym first.0.0.now_is) s)))
