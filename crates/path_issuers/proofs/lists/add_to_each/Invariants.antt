use Rattle.std.proofs.Common.{◌≡◌, take, vec_len}
use Rattle.path_issuers.specs.Lists.{Adds, lists_of}
use Rattle.path_issuers.proofs.lists.add_to_each.Given as goal

abbrev pub invariant-loop-at : goal.invariant-loop-at
invariant-loop-at l = (vec_len l.lists ≡ vec_len l.initial.lists) × Adds l.place (take l.at-index l.ats) (lists_of l.initial.lists.items)
    (lists_of l.lists.items)
