-- A store that is taken from the files behind a crash.
use Rattle.std.proofs.Common.{◌≡◌, ◌⊎◌, List, [], ◌∷◌, Result, Ok, Err, ap, sym, subst, ◌∙◌, inl, inr}
use Rattle.sqlite_disk.specs.declared.Disk.{Ghosts}
use Rattle.sqlite_trees.specs.Tree.{Trees}
use Rattle.sqlite.specs.Effect.{Database}
use Rattle.sqlite.specs.Schema.{Schema}
use Rattle.statements_facts.specs.declared.profile.Profile.{Profile}
use Rattle.statements_facts.specs.Statement.{Holdings}
use Rattle.statements_facts.specs.declared.counts.Counts.{Counts}
use Rattle.store_sql.specs.declared.fault.StoreFault.{StoreFault}
use Rattle.store_sql.specs.Tables.{store_schema}
use Rattle.store_maps.specs.Held.{AreTreesOf, IsStoreOf}
use Rattle.store.specs.Crash.{IsOneOf, TakenStoreSurvivesCrash}
use Rattle.path.specs.Query.{Accepts}
use Rattle.relying_agreement.specs.Run.{Event}
use Rattle.relying.specs.Leaving.{RunMayLeave, held_with}
use Rattle.relying.specs.Surviving.{NodeSurvivesCrash, left_by_run}
use Rattle.relying.specs.View.{stored}
use Rattle.relying.specs.declared.fault.DeliverFault.{DeliverFault}
use Rattle.relying.specs.declared.fault.DeliverFault.TheVariants.{Issuer, Statement, Store}

trees_of : (held : Holdings) (db : Database) (trees : Trees) → trees ≡ db.trees → IsStoreOf db held → AreTreesOf held trees
trees_of held db trees is it = (
  it.origin,
  subst (λ (t : Trees). IsStoreOf (record { schema = store_schema it.origin; trees = t }) held) (sym is)
      (subst (λ (s : Schema). IsStoreOf (record { schema = s; trees = db.trees }) held) it.rows.schema_is it),
)

abbrev AreOf : Trees → Holdings → Type 0
AreOf trees held = AreTreesOf held trees

-- the relation of what a run may leave, as a list
module _ (profile : Profile) (accepts : Accepts) (trees : Trees) where
  listed : (events : List Event) (answers : List (Result Counts DeliverFault)) (held : Holdings) (before : Trees → Type 0) (list : List Holdings)
      → (before trees → IsOneOf (AreOf trees) list) → RunMayLeave profile accepts events answers held before trees → IsOneOf (AreOf trees) (left_by_run profile accepts events answers held list)
  listed [] answers held before list are left = are left
  listed (Event.Restart ∷ events) answers held before list are left =
      listed events answers held (AreTreesOf held) (held ∷ []) (λ of. inl of) left
  listed (Event.Deliver issuer statement ∷ events) [] held before list are left = absurd left
  listed (Event.Deliver issuer statement ∷ events) (Ok counts ∷ answers) held before list are left =
      let next = held_with profile accepts issuer statement held in listed events answers next (AreTreesOf next) (next ∷ []) (λ of. inl of) left
  listed (Event.Deliver issuer statement ∷ events) (Err (Store fault) ∷ answers) held before list are left =
      let next = held_with profile accepts issuer statement held in
      listed events answers held (λ x. before x ⊎ AreTreesOf next x) (next ∷ list) (λ o. elim o [ inl b ↦ inr (are b) | inr of ↦ inl of ]) left
  listed (Event.Deliver issuer statement ∷ events) (Err (Issuer fault) ∷ answers) held before list are left = listed events answers held before list are left
  listed (Event.Deliver issuer statement ∷ events) (Err (Statement fault) ∷ answers) held before list are left = listed events answers held before list are left

pub node_survives_crash : {V D E : Type 0} {g : Ghosts D} {h : Ghosts E} → TakenStoreSurvivesCrash D E g h → NodeSurvivesCrash V D g E h
node_survives_crash law profile accepts events answers start begun ran taken image store live settled durable is survives after found clean =
    law ran.store.conn taken image store (left_by_run profile accepts events answers start (start ∷ [])) after
    (λ trees may. listed profile accepts trees events answers start (stored begun).may_leave (start ∷ [])
    (λ before. inl (trees_of start (stored begun).now trees (durable live trees before ∙ ap (λ (d : Database). d.trees) (sym (settled live))) is))
    (survives after.clean start is trees may))
    found clean
