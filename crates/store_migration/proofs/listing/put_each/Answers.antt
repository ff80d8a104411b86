use Rattle.std.proofs.Common.{◌≡◌, ◌∙◌, ◌++◌, ◌∷◌, [], arith, rules, get_or, map, take, refl, sym, ap, subst, length}
use Rattle.std.proofs.lemmas.Result.{err_from_is_err_and}
use Rattle.sqlite.specs.Held.{state}
use Rattle.sqlite.proofs.StateLemmas.{survives_then}
use Rattle.store_adoption.specs.Seen.{seen_unscoped_list}
use Rattle.store_taking.specs.Passing.{HasStepped}
use Rattle.store_taking.proofs.Laws.{passes_then, stops_then}
use Rattle.store_migration.specs.Moved.{HasMoved, IsNext}
use Rattle.store_migration.specs.Grouped.{seen_unscoped_entry}
use Rattle.store_migration.proofs.Moving.{next_of, more_moved, all_moved}
use Rattle.sqlite.specs.State.{HasCleanDisk}
use Rattle.store_migration.proofs.Stopping.{stop_then}
use Rattle.store_migration.proofs.listing.put_each.Goals as goal

pub put_list-requires-clause-inside : goal.put_list-requires-clause-inside
put_list-requires-clause-inside g c clean = (c.each.invariant.2 clean (map seen_unscoped_entry c.args.sorted.now) (λ _. refl)).mode

pub each-preserved : goal.each-preserved
each-preserved g c =
    let l = c.each.invariant in
    let all = c.args.lists.now in
    let crls = map seen_unscoped_list all in
    let k = c.each.list-index in
    let item : get_or all k c.list-item.result ≡ c.list-item.result = search rules in (
      c.put_list.ensures.same_reference ∙ l.0,
      survives_then _ _ _ (λ _. ⊥) (λ _. ⊥) (λ _. ⊥) (λ _ _ none. none) (λ _ _ none. none) l.1 c.put_list.ensures.survives,
      λ clean entries same.
          subst (λ moved. HasStepped (state g.S.Store c.args.tx.now.conn.now) (state g.S.Store c.put_list.new.tx.conn.now) (HasMoved crls entries []) (HasMoved crls entries moved)) (sym (more_moved all k c.list-item.result c.each-test.true ∙ ap (λ x. map seen_unscoped_list (take k all) ++ seen_unscoped_list x ∷ []) item))
          (passes_then _ _ _ (HasMoved crls entries []) (HasMoved crls entries (map seen_unscoped_list (take k all))) _ (l.2 (omega (arith, clean, c.put_list.ensures.survives.clean)) entries same)
          (c.in_ok-put_list.ensures.puts clean crls (map seen_unscoped_list (take k all)) entries same (subst (λ x. IsNext crls (map seen_unscoped_list (take k all)) (seen_unscoped_list x)) item (next_of all k c.list-item.result c.each-test.true)))),
    )

pub returns-in_err-put_list-clause-puts : goal.returns-in_err-put_list-clause-puts
returns-in_err-put_list-clause-puts g c clean entries same =
    let p = err_from_is_err_and c.from_residual.result c.from_residual.ensures.1 in
    let l = c.each.invariant in
    let all = c.args.lists.now in
    let crls = map seen_unscoped_list all in
    let k = c.each.list-index in
    let item : get_or all k c.list-item.result ≡ c.list-item.result = search rules in
    rw (p.1, p.2) (stops_then _ _ _ (HasMoved crls entries []) (HasMoved crls entries (map seen_unscoped_list (take k all))) _ (l.2 (omega (arith, clean, c.put_list.ensures.survives.clean)) entries same)
    (c.in_err-put_list.ensures.puts clean crls (map seen_unscoped_list (take k all)) entries same (subst (λ x. IsNext crls (map seen_unscoped_list (take k all)) (seen_unscoped_list x)) item (next_of all k c.list-item.result c.each-test.true))))

pub returns-clause-puts : goal.returns-clause-puts
returns-clause-puts g c clean entries same =
    let all = c.args.lists.now in
    let crls = map seen_unscoped_list all in
    let end : c.each.list-index ≡ length all = omega arith in
    subst (λ moved. HasStepped (state g.S.Store c.args.tx.now.conn.now) (state g.S.Store c.each.tx.conn.now) (HasMoved crls entries []) (HasMoved crls entries moved)) (all_moved all c.each.list-index end) (c.each.invariant.2 clean entries same)

pub returns-in_err-put_list-clause-caused : goal.returns-in_err-put_list-clause-caused
returns-in_err-put_list-clause-caused g c entries same fit clean =
    let p = err_from_is_err_and c.from_residual.result c.from_residual.ensures.1 in
    let l = c.each.invariant in
    let all = c.args.lists.now in
    let crls = map seen_unscoped_list all in
    let k = c.each.list-index in
    let item : get_or all k c.list-item.result ≡ c.list-item.result = search rules in
    let middle : HasCleanDisk (state g.S.Store c.each.tx.conn.now) = omega (arith, clean, c.put_list.ensures.survives.clean) in
    rw (p.1, p.2) (stop_then _ _ _ _ _ l.1 c.put_list.ensures.survives middle (HasMoved crls entries []) (HasMoved crls entries (map seen_unscoped_list (take k all))) _ (l.2 middle entries same)
    (c.in_err-put_list.ensures.caused crls (map seen_unscoped_list (take k all)) entries same fit (subst (λ x. IsNext crls (map seen_unscoped_list (take k all)) (seen_unscoped_list x)) item (next_of all k c.list-item.result c.each-test.true)) clean))
