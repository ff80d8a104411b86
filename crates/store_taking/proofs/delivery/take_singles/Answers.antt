use Rattle.std.proofs.lemmas.Result.{err_from_is_err_and}
use Rattle.std.proofs.Common.{arith, length, map, refl, subst, sym, ap, take, suc, ◌≡◌, ◌<◌, ◌∙◌, inl, inr}
use Rattle.std.specs.List.{AllByRecursion}
use Rattle.sqlite.specs.Held.{state}
use Rattle.sqlite.specs.State.{HasCleanDisk}
use Rattle.sqlite.proofs.StateLemmas.{survives_then}
use Rattle.store_sql.proofs.Laws.{later_refuses}
use Rattle.statements_facts.specs.declared.fact.Facts.{Facts}
use Rattle.store_rows.specs.Room.{SingleFitsRow}
use Rattle.statements_facts.specs.Fact.{facts_in, seen_issuer}
use Rattle.statements_facts.specs.Single.{seen_single}
use Rattle.store_rows.proofs.Laws.{survives_itself}
use Rattle.store_maps.specs.Held.{IsStoreOf}
use Rattle.store_taking.specs.Passing.{HasStepped}
use Rattle.store_taking.specs.Taking.{AreTaken, facts_of_singles}
use Rattle.store_taking.specs.Room.{IsStoreWithRoom}
use Rattle.store_taking.proofs.Causing.{as_many, fits_at, one_left}
use Rattle.store_taking.proofs.Deliveries.{nothing_taken, one_more, stops_on_the_way, single_more, all_singles, some_told}
use Rattle.store_taking.proofs.delivery.take_singles.Goals as goal

pub each-init : goal.each-init
each-init g c = (
  refl,
  survives_itself (state g.S.Store c.args.tx.now.conn.now),
  c.none-counts.ensures.total,
  λ clean. nothing_taken (state g.S.Store c.args.tx.now.conn.now) c.none-counts.result c.none-counts.ensures.counted (c.requires.inside clean),
  λ clean. inl refl,
  λ left at clean before. subst (λ n. IsStoreWithRoom n n (state g.S.Store c.args.tx.now.conn.now).now) (omega (arith, at)) before,
)

pub each-preserved : goal.each-preserved
each-preserved g c =
    let l = c.each.invariant in
    let issuer = seen_issuer c.args.response.now.issuer in
    let all = c.as_slice-all.result.now in
    let k = c.each.single-index in (
      c.take_single.ensures.same_reference ∙ l.0,
      survives_then _ _ _ (λ _. ⊥) (λ _. ⊥) (λ _. ⊥) (λ _ _ none. none) (λ _ _ none. none) l.1 c.take_single.ensures.survives,
      omega (arith, l.2, c.and-counts.ensures.total),
      λ clean.
          let so = l.3 (omega (arith, clean, c.take_single.ensures.survives.clean)) in
          let more = single_more issuer all k _ c.each-test.true in
          subst (λ facts. HasStepped (state g.S.Store c.args.tx.now.conn.now) (state g.S.Store c.take_single.new.tx.conn.now) IsStoreOf (AreTaken facts c.and-counts.result)) (sym more)
          (one_more _ _ _ (facts_of_singles issuer (map seen_single (take k all))) _ c.each.counts c.and-counts.result c.in_ok-outcome.outcome so (c.in_ok-outcome.ensures.takes clean) c.and-counts.ensures.counted),
      λ clean. inr ((l.3 (omega (arith, clean, c.take_single.ensures.survives.clean))).keeps.was_open (c.in_ok-outcome.ensures.open clean)),
      λ left at clean before. c.in_ok-outcome.ensures.leaves left left clean (l.5 (suc left) (omega (arith, at)) (omega (arith, clean, c.take_single.ensures.survives.clean)) before),
    )

pub returns-in_err-outcome-clause-takes : goal.returns-in_err-outcome-clause-takes
returns-in_err-outcome-clause-takes g c clean =
    let p = err_from_is_err_and c.from_residual.result c.from_residual.ensures.1 in
    let l = c.each.invariant in
    rw (p.1, p.2) (stops_on_the_way _ _ _ _ c.each.counts _ (l.3 (omega (arith, clean, c.take_single.ensures.survives.clean))) (c.in_err-outcome.ensures.takes clean))

pub returns-clause-takes : goal.returns-clause-takes
returns-clause-takes g c clean =
    let at_end : c.each.single-index ≡ length c.as_slice-all.result.now = omega (arith, c.each-test.false, c.each.auto.single-index-end) in
    let all = all_singles (seen_issuer c.args.response.now.issuer) c.as_slice-all.result.now c.args.response.now.singles c.each.single-index at_end c.as_slice-all.ensures.singles in
    subst (λ facts. HasStepped (state g.S.Store c.args.tx.now.conn.now) (state g.S.Store c.each.tx.conn.now) IsStoreOf (AreTaken facts c.each.counts)) all (c.each.invariant.3 clean)

pub returns-clause-open : goal.returns-clause-open
returns-clause-open g c clean =
    let at_end : c.each.single-index ≡ length c.as_slice-all.result.now = omega (arith, c.each-test.false, c.each.auto.single-index-end) in
    some_told c.as_slice-all.result.now c.each.single-index _ c.as_slice-all.ensures.some at_end (c.each.invariant.4 clean)

pub returns-in_err-outcome-clause-caused : goal.returns-in_err-outcome-clause-caused
returns-in_err-outcome-clause-caused g c clean =
    let p = err_from_is_err_and c.from_residual.result c.from_residual.ensures.1 in
    let l = c.each.invariant in
    let all = c.as_slice-all.result.now in
    let k = c.each.single-index in
    let middle : HasCleanDisk (state g.S.Store c.each.tx.conn.now) = omega (arith, clean, c.take_single.ensures.survives.clean) in
    let size : length (facts_in (Facts.Ocsp c.args.response.now)) ≡ length all = as_many _ c.args.response.now.singles ∙ ap length (sym c.as_slice-all.ensures.singles) ∙ as_many seen_single all in
    let low : k < length (facts_in (Facts.Ocsp c.args.response.now)) = omega (arith, size, c.each-test.true) in
    let left = one_left k (length (facts_in (Facts.Ocsp c.args.response.now))) low in
    rw (p.1, p.2) (λ e before fits. later_refuses _ _ _ (λ _. ⊥) (λ _. ⊥) l.1 c.take_single.ensures.survives middle
    (c.in_err-outcome.ensures.caused left.0 left.0 clean e (l.5 (suc left.0) left.1 middle before)
    (fits.issuer, fits_at all k _ c.each-test.true (subst (AllByRecursion SingleFitsRow) (sym c.as_slice-all.ensures.singles) fits.singles))))
