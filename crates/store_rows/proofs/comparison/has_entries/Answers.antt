use Rattle.std.proofs.Common.{arith, length, map, refl, ◌≡◌, ◌∙◌}
use Rattle.std.proofs.lemmas.Result.{err_from_is_err_and}
use Rattle.sqlite.specs.Held.{state}
use Rattle.sqlite.proofs.StateLemmas.{survives_then}
use Rattle.statements_facts.specs.Listed.{seen_listed}
use Rattle.store_rows.specs.Contents.{scope_number}
use Rattle.store_rows.proofs.Finding.{survives_itself}
use Rattle.store_rows.proofs.Comparing.{comparison_begins, comparison_goes_on, comparison_stops, comparison_fails, comparison_ends}
use Rattle.store_rows.proofs.comparison.has_entries.Goals as goal

pub each-init : goal.each-init
each-init g c = (
  refl,
  survives_itself (state g.S.Store c.args.tx.now.conn.now),
  refl,
  omega arith,
  λ clean. comparison_begins (state g.S.Store c.args.tx.now.conn.now) c.args.list.now.issuer (scope_number c.args.list.now.scope) (map seen_listed c.as_slice-all.result.now) (c.requires.inside clean),
)

pub each-preserved : goal.each-preserved
each-preserved g c =
    let l = c.each.invariant in (
      c.has_at.ensures.same_reference ∙ l.0,
      survives_then _ _ _ (λ _. ⊥) (λ _. ⊥) (λ _. ⊥) (λ _ _ none. none) (λ _ _ none. none) l.1 c.has_at.ensures.survives,
      omega (arith, l.2),
      l.3,
      λ clean.
          let so = l.4 (omega (arith, clean, c.has_at.ensures.survives.clean)) in
          let there = rw (l.2, c.if-not-branch.false) at (c.in_ok-has_at.ensures.finds clean) in
          comparison_goes_on _ _ _ c.args.list.now.issuer (scope_number c.args.list.now.scope) c.as_slice-all.result.now c.each.listed-index so _ c.each-test.true there,
    )

pub returns-then-not-branch-clause-finds : goal.returns-then-not-branch-clause-finds
returns-then-not-branch-clause-finds g c clean =
    let l = c.each.invariant in
    let so = l.4 (omega (arith, clean, c.has_at.ensures.survives.clean)) in
    let there = rw (l.2, c.if-not-branch.true) at (c.in_ok-has_at.ensures.finds clean) in
    rw c.as_slice-all.ensures.entries at (comparison_stops _ _ _ c.args.list.now.issuer (scope_number c.args.list.now.scope) c.as_slice-all.result.now c.each.listed-index so _ c.each-test.true there)

pub returns-in_err-has_at-clause-finds : goal.returns-in_err-has_at-clause-finds
returns-in_err-has_at-clause-finds g c clean =
    let p = err_from_is_err_and c.from_residual.result c.from_residual.ensures.1 in
    let so = c.each.invariant.4 (omega (arith, clean, c.has_at.ensures.survives.clean)) in
    rw (p.1, p.2) (comparison_fails _ _ _ c.args.list.now.issuer (scope_number c.args.list.now.scope) c.as_slice-all.result.now c.each.listed-index so _ (c.in_err-has_at.ensures.finds clean))

pub returns-clause-finds : goal.returns-clause-finds
returns-clause-finds g c clean =
    let issuer = c.args.list.now.issuer in
    let scope = scope_number c.args.list.now.scope in
    let all = c.as_slice-all.result.now in
    let at_end : c.each.listed-index ≡ length all = omega (arith, c.each-test.false, c.each.auto.listed-index-end) in
    let so = rw at_end at (c.each.invariant.4 (omega (arith, clean, c.ends_at.ensures.survives.clean))) in
    rw c.as_slice-all.ensures.entries at (comparison_ends _ _ _ issuer scope all c.ends_at.result so (c.ends_at.ensures.finds clean))
