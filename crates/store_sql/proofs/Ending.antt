-- A transaction begins and ends: a cause inside it is one of the whole call.
use Rattle.std.proofs.Common.{◌≡◌, IsTrue, true, subst, inl, inr}
use Rattle.std.proofs.lemmas.Bool.{both_ways}
use Rattle.sqlite_trees.specs.Tree.{Trees}
use Rattle.sqlite_trees.specs.declared.store.Store.{Ghosts}
use Rattle.sqlite.specs.Held.{Held, state}
use Rattle.sqlite.specs.Steps.{FailsToCommit}
use Rattle.sqlite.specs.State.{State, HasCleanDisk, Survives}
use Rattle.sqlite.specs.declared.error.Error.{Error}
use Rattle.store_sql.specs.declared.fault.StoreFault.TheVariants.{Store}
use Rattle.store_sql.specs.Fault.{fault_from}
use Rattle.store_sql.specs.Cause.{MayRefuse}
use Rattle.store_sql.proofs.Refusing.{failure_caused, later_refuses}

module _ {S : Type 0} (g : Ghosts S) (old begun : Held S) (is : begun ≡ record old { in_transaction = true }) where
  pub begun_refuses : (last : State) → MayRefuse (state g begun) last → MayRefuse (state g old) last
  begun_refuses last cause = from (subst (λ h. MayRefuse (state g h) last) is cause)
    where
      from : MayRefuse (state g (record old { in_transaction = true })) last → MayRefuse (state g old) last
      from cause = cause

  pub commit_refuses : (last new : State) (error : Error) (P Q : Trees → Type 0) → IsTrue last.in_transaction → FailsToCommit last new error → Survives (state g begun) last P → Survives last new Q → HasCleanDisk last
      → fault_from error ≡ Store → MayRefuse (state g old) new
  commit_refuses last new error P Q inside (inl fails) first second clean e =
      begun_refuses new (later_refuses (state g begun) last new P Q first second clean (failure_caused last new error fails e))
  commit_refuses last new error P Q inside (inr late) first second clean e = absurd (both_ways _ late.1 inside)
