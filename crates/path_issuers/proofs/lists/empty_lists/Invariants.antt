use Rattle.std.proofs.Common.{◌≡◌, ℕ, [], vec_len}
use Rattle.path_issuers.specs.Lists.{list_at, lists_of}
use Rattle.path_issuers.proofs.lists.empty_lists.Given as goal

abbrev pub invariant-loop-made : goal.invariant-loop-made
invariant-loop-made l = (vec_len l.lists ≡ l.made) × ((place : ℕ) → list_at (lists_of l.lists.items) place ≡ [])
