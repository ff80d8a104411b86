use Rattle.std.proofs.Common.{◌≡◌, sym, ap, ◌++◌, ◌∙◌, append-nil, List, [], Result, Ok, Err, OnOk}
use Rattle.names.specs.GeneralView.{subtree_base}
use Rattle.names.specs.declared.subtree.Subtree.{Subtree}
use Rattle.path_conditions.specs.Narrowing.{is_processed_base, bases_of, processed_in}
use Rattle.path_conditions.proofs.Selecting.{filter_none, list_any-map}
use Rattle.path_conditions.proofs.constraints.exclude.Goals as goal

on_ok : {A E : Type 0} {P : Type 0} (r : Result A E) → P → OnOk r P
on_ok (Ok a) p = p
on_ok (Err e) p = tt

pub returns-then-not-one_is_processed-clause-ok : goal.returns-then-not-one_is_processed-clause-ok
returns-then-not-one_is_processed-clause-ok c = on_ok _ unchanged
  where
    none : processed_in c.args.carried.now ≡ []
    none = filter_none (λ s. is_processed_base (subtree_base s)) c.args.carried.now
        (sym (list_any-map (λ s. is_processed_base s) subtree_base c.args.carried.now) ∙ (sym c.one_is_processed.ensures ∙ c.if-not-one_is_processed.true))

    unchanged : c.args.held.now ≡ c.args.held.now ++ bases_of (processed_in c.args.carried.now)
    unchanged = sym (append-nil c.args.held.now) ∙ ap (λ (l : List Subtree). c.args.held.now ++ bases_of l) (sym none)
