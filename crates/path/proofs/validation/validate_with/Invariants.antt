use Rattle.std.proofs.Common.{◌≡◌, ◌≤◌, ◌-◌, ℕ}
use Rattle.path.specs.Query.{count}
use Rattle.path.specs.Conditions.{MeetsConditions}
use Rattle.path.proofs.validation.validate_with.Given as goal

abbrev pub invariant-loop-state : goal.invariant-loop-state
invariant-loop-state g l = record {
  verifier : l.state.verifier ≡ l.initial.state.verifier;
  query : l.state.query ≡ l.initial.state.query;
  within : l.state.done ≤ count l.state.query;
  passed : (j : ℕ) → 1 ≤ j → j ≤ l.state.done → MeetsConditions (g.V.Verifier.accepts l.state.verifier) l.state.query j;
}

abbrev pub decreases-loop-state : goal.decreases-loop-state
decreases-loop-state g l = count l.state.query - l.state.done
