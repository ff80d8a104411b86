-- A query that is not answered leaves the last commit.
use Rattle.std.proofs.Common.{◌⊎◌, ℕ, List, Option, Some, None, Result, Ok, Err, IfErr, OnErr, inl, inr}
use Rattle.sqlite.specs.Order.{Row}
use Rattle.sqlite_schema.specs.declared.command.Returning.{Returning}
use Rattle.sqlite.specs.Clock.{timed}
use Rattle.sqlite.specs.declared.error.Error.{Error}
use Rattle.sqlite.specs.State.{State, IsUnchanged, IsRolledBack, KeepsCommit, FailsToQuery, FailsToShow, IsNotRun, IsTooLate}
use Rattle.sqlite.proofs.InsideLemmas.{unchanged_keeps}

query_fails : (old new : State) (text : List ℕ) (params : Row) (error : Error) → FailsToQuery text params old new error → IsUnchanged old new ⊎ IsRolledBack old new
unfolding FailsToQuery IsNotRun
query_fails old new text params error (inl (inl refused)) = inl refused.1
query_fails old new text params error (inl (inr failed)) = inr failed.3
query_fails old new text params error (inr ran) = cases ran.0.returning ran.2
  where
    cases : (returning : Option Returning) → FailsToShow old new text ran.0 (timed params ran.0.formats ran.1.now) error returning → IsUnchanged old new ⊎ IsRolledBack old new
    cases None it = inl it.3
    cases (Some what) (inl refused) = inl refused.1
    cases (Some what) (inr failed) = inr failed.3

query_keeps : (old new : State) (text : List ℕ) (params : Row) (error : Error) → FailsToQuery text params old new error ⊎ IsTooLate text params old new error → KeepsCommit old new
query_keeps old new text params error (inl failed) = unchanged_keeps old new (query_fails old new text params error failed)
query_keeps old new text params error (inr late) = unchanged_keeps old new (inl late.5)

pub keeps_on_error : {A : Type 0} (result : Result A Error) (old new : State) (text : List ℕ) (params : Row)
    → IfErr result (λ error. FailsToQuery text params old new error ⊎ IsTooLate text params old new error) → OnErr result (KeepsCommit old new)
keeps_on_error (Ok value) old new text params h = tt
keeps_on_error (Err error) old new text params h = query_keeps old new text params error h
