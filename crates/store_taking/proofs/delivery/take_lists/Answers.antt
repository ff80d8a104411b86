use Rattle.std.proofs.lemmas.Result.{err_from_is_err_and}
use Rattle.std.proofs.Common.{arith, get_or, length, map, refl, subst, sym, ap, take, suc, ◌<◌, ◌∷◌, ◌∙◌}
use Rattle.sqlite.specs.Held.{state}
use Rattle.sqlite.specs.State.{HasCleanDisk}
use Rattle.sqlite.proofs.StateLemmas.{survives_then}
use Rattle.store_sql.proofs.Laws.{later_refuses}
use Rattle.statements_facts.specs.Fact.{crl_fact, list_facts, seen_issuer}
use Rattle.store_maps.specs.Held.{IsStoreOf}
use Rattle.store_taking.specs.Passing.{HasStepped}
use Rattle.store_taking.specs.Taking.{AreTaken, fact_of_crl}
use Rattle.store_taking.specs.Room.{IsStoreWithRoom}
use Rattle.store_taking.proofs.Causing.{issuer_fits_at, one_each, one_left}
use Rattle.store_taking.proofs.Deliveries.{list_more, one_more, one_taken, stops_on_the_way}
use Rattle.store_taking.proofs.delivery.take_lists.Goals as goal

pub each-init : goal.each-init
each-init g c = (
  refl,
  c.take_list.ensures.survives,
  omega (arith, c.none.ensures.total, c.and-counts.ensures.total),
  λ clean. one_taken _ _ (fact_of_crl c.args.list.now.issuer c.args.list.now) c.none.result c.and-counts.result c.in_ok-outcome.outcome (c.in_ok-outcome.ensures.takes clean) c.none.ensures.counted c.and-counts.ensures.counted,
  λ clean. c.in_ok-outcome.ensures.open clean,
  λ left at clean before. c.in_ok-outcome.ensures.leaves left left clean
      (subst (λ n. IsStoreWithRoom n n (state g.S.Store c.args.tx.now.conn.now).now) (one_each c.args.list.now ∙ ap suc (omega (arith, at))) before),
)

pub each-preserved : goal.each-preserved
each-preserved g c =
    let l = c.each.invariant in
    let list = c.args.list.now in
    let others = list.others.items in
    let value = c.as_slice-issuer-items.ensures.value in
    let k = c.each.issuer-index in
    let low : k < length others = omega (arith, c.each-test.true, ap length value) in
    let so = λ (clean : HasCleanDisk (state g.S.Store c.take_list-in-each.new.tx.conn.now)). l.3 (omega (arith, clean, c.take_list-in-each.ensures.survives.clean)) in (
      c.take_list-in-each.ensures.same_reference ∙ l.0,
      survives_then _ _ _ (λ _. ⊥) (λ _. ⊥) (λ _. ⊥) (λ _ _ none. none) (λ _ _ none. none) l.1 c.take_list-in-each.ensures.survives,
      omega (arith, l.2, c.and-counts-in-each.ensures.total),
      λ clean.
          let more = list_more list.scope (crl_fact list) (seen_issuer list.issuer) others k c.issuer-item.result low (c.issuer-item.is ∙ ap (λ all. get_or all k c.issuer-item.result) value) in
          subst (λ facts. HasStepped (state g.S.Store c.args.tx.now.conn.now) (state g.S.Store c.take_list-in-each.new.tx.conn.now) IsStoreOf (AreTaken facts c.and-counts-in-each.result)) (sym more)
          (one_more _ _ _ (list_facts list.scope (crl_fact list) (seen_issuer list.issuer ∷ map seen_issuer (take k others))) _ c.each.counts c.and-counts-in-each.result c.in_ok-outcome-2.outcome (so clean)
          (c.in_ok-outcome-2.ensures.takes clean) c.and-counts-in-each.ensures.counted),
      λ clean. l.4 (omega (arith, clean, c.take_list-in-each.ensures.survives.clean)),
      λ left at clean before. c.in_ok-outcome-2.ensures.leaves left left clean (l.5 (suc left) (omega (arith, at)) (omega (arith, clean, c.take_list-in-each.ensures.survives.clean)) before),
    )

pub returns-in_err-outcome-clause-caused : goal.returns-in_err-outcome-clause-caused
returns-in_err-outcome-clause-caused g c clean =
    let p = err_from_is_err_and c.from_residual.result c.from_residual.ensures.1 in
    let list = c.args.list.now in
    let left = length list.others.items in
    rw (p.1, p.2) (λ e before fits. c.in_err-outcome.ensures.caused left left clean e
    (subst (λ n. IsStoreWithRoom n n (state g.S.Store c.args.tx.now.conn.now).now) (one_each list) before) (fits.issuers.0, fits))

pub returns-in_err-outcome-2-clause-takes : goal.returns-in_err-outcome-2-clause-takes
returns-in_err-outcome-2-clause-takes g c clean =
    let p = err_from_is_err_and c.from_residual-in_err-outcome-2.result c.from_residual-in_err-outcome-2.ensures.1 in
    rw (p.1, p.2) (stops_on_the_way _ _ _ _ c.each.counts _ (c.each.invariant.3 (omega (arith, clean, c.take_list-in-each.ensures.survives.clean))) (c.in_err-outcome-2.ensures.takes clean))

pub returns-in_err-outcome-2-clause-caused : goal.returns-in_err-outcome-2-clause-caused
returns-in_err-outcome-2-clause-caused g c clean =
    let p = err_from_is_err_and c.from_residual-in_err-outcome-2.result c.from_residual-in_err-outcome-2.ensures.1 in
    let l = c.each.invariant in
    let list = c.args.list.now in
    let others = list.others.items in
    let value = c.as_slice-issuer-items.ensures.value in
    let k = c.each.issuer-index in
    let low : k < length others = omega (arith, c.each-test.true, ap length value) in
    let middle : HasCleanDisk (state g.S.Store c.each.tx.conn.now) = omega (arith, clean, c.take_list-in-each.ensures.survives.clean) in
    let left = one_left k (length others) low in
    rw (p.1, p.2) (λ e before fits. later_refuses _ _ _ (λ _. ⊥) (λ _. ⊥) l.1 c.take_list-in-each.ensures.survives middle
    (c.in_err-outcome-2.ensures.caused left.0 left.0 clean e (l.5 (suc left.0) left.1 middle before)
    (issuer_fits_at others k c.issuer-item.result low (c.issuer-item.is ∙ ap (λ all. get_or all k c.issuer-item.result) value) fits.issuers.1, fits)))
