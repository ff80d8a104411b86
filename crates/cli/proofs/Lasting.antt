-- What lasts of a store that was opened and closed.
use Rattle.std.proofs.Common.{◌≡◌, ◌∙◌, inl, inr, refl, sym, ap, List, arith}
use Rattle.sqlite.specs.Effect.{Database}
use Rattle.sqlite.specs.State.{State, HasCleanDisk, Survives}
use Rattle.sqlite_trees.specs.Tree.{Trees}
use Rattle.statements_facts.specs.Coming.{after_all}
use Rattle.statements_facts.specs.Fact.{facts_in}
use Rattle.statements_facts.specs.Statement.{Holdings}
use Rattle.statements_facts.specs.declared.counts.Counts.{Counts}
use Rattle.statements_facts.specs.declared.fact.Facts.{Facts}
use Rattle.store_adoption.specs.Creates.{IsSettled}
use Rattle.store_maps.specs.Held.{AreTreesOf, IsStoreOf}
use Rattle.store_maps.proofs.HeldLaws.{trees_of}
use Rattle.store_sql.specs.Statements.{CommitsNothing, IsDurable}
use Rattle.store_taking.specs.Delivery.{AllOrNothing, Delivers}
use Rattle.cli_store.specs.Standing.{IsOpenIfClean, LeavesIfClean, LeavesOneOf, the_same, with_or_without}

-- what a store was that was opened
pub record IsReady (s : State) : Type 0 where
  pub opened : IsOpenIfClean s
  pub settled : IsSettled s
  pub durable : IsDurable s

pub was_clean : {C : Trees → Type 0} (old new : State) → Survives old new C → HasCleanDisk new → HasCleanDisk old
was_clean old new survives clean = omega (arith, survives.clean, clean)

-- what may be found of it is what it holds
trees_left : (s : State) → IsReady s → HasCleanDisk s → (held : Holdings) → IsStoreOf s.now held → (trees : Trees) → s.may_leave trees → AreTreesOf held trees
trees_left s ready clean held is trees may =
    let is_open = ready.opened clean in
    let left : trees ≡ s.now.trees = ready.durable is_open trees may ∙ ap (λ (db : Database). db.trees) (sym (ready.settled is_open)) in
    trees_of held s.now trees left is

pub leaves_the_same : (s : State) → IsReady s → HasCleanDisk s → (held : Holdings) → IsStoreOf s.now held → LeavesOneOf s (the_same held)
leaves_the_same s ready clean held is trees may = (held, (0, omega arith, refl), trees_left s ready clean held is trees may)

-- ---- a store that was closed in the new state, of which what it leaves lasts

module _ (old new : State) (lasts : List Holdings → Type 0) (closes : (left : List Holdings) → LeavesIfClean new left → lasts left) (ready : IsReady old) where
  pub same_lasts : CommitsNothing old new → (held : Holdings) → IsStoreOf old.now held → lasts (the_same held)
  same_lasts survives held is = closes (the_same held) (λ clean trees may. elim (survives.crash clean trees may) [
    | inl before ↦ leaves_the_same old ready (was_clean old new survives clean) held is trees before
    | inr impossible ↦ absurd impossible
  ])

  pub all_last : (facts : Facts) (counts : Counts) → (HasCleanDisk new → Delivers old new (facts_in facts) counts) → (held : Holdings) → IsStoreOf old.now held → lasts (the_same (after_all held (facts_in facts)))
  all_last facts counts delivers held is =
      closes (the_same (after_all held (facts_in facts))) (λ clean trees may. (after_all held (facts_in facts), (0, omega arith, refl), (delivers clean).durable held is trees may))

  pub all_or_none_last : (facts : Facts) → AllOrNothing old new facts → (held : Holdings) → IsStoreOf old.now held → lasts (with_or_without (facts_in facts) held)
  all_or_none_last facts survives held is = closes (with_or_without (facts_in facts) held) (λ clean trees may. elim (survives.crash clean trees may) [
    | inl before ↦ (held, (1, omega arith, refl), trees_left old ready (was_clean old new survives clean) held is trees before)
    | inr whole ↦ (after_all held (facts_in facts), (0, omega arith, refl), whole.1 held is)
  ])
