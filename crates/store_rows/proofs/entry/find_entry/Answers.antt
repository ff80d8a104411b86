use Rattle.std.proofs.Common.{arith, ◌+◌, ◌-◌, ◌/◌, ◌∙◌, refl}
use Rattle.std.proofs.lemmas.Result.{err_from_is_err_and}
use Rattle.sqlite.specs.Held.{state}
use Rattle.sqlite.specs.State.{HasCleanDisk}
use Rattle.sqlite.proofs.StateLemmas.{survives_then}
use Rattle.store_sql.proofs.Laws.{later_refuses}
use Rattle.store_rows.specs.Contents.{scope_number}
use Rattle.store_rows.proofs.Finding.{survives_itself}
use Rattle.store_rows.proofs.Entries.{search_begins, search_up, search_down, search_back, search_ends, search_closes, search_fails, still_holds}
use Rattle.store_rows.proofs.entry.find_entry.Goals as goal

pub loop-low-init : goal.loop-low-init
loop-low-init g c = (refl, survives_itself (state g.S.Store c.args.tx.now.conn.now), omega arith, λ clean. search_begins (state g.S.Store c.args.tx.now.conn.now) c.args.list.now.issuer (scope_number c.args.list.now.scope) c.args.serial.now (c.requires.inside clean))

pub loop-low-preserved-in-Nothing : goal.loop-low-preserved-in-Nothing
loop-low-preserved-in-Nothing g c =
    let l = c.loop-low.invariant in
    let middle = c.loop-low.low + (c.loop-low.high - c.loop-low.low) / 2 in (
      c.stands_at.ensures.same_reference ∙ l.0,
      survives_then _ _ _ (λ _. ⊥) (λ _. ⊥) (λ _. ⊥) (λ _ _ none. none) (λ _ _ none. none) l.1 c.stands_at.ensures.survives,
      omega (arith, l.2, c.loop-low-test.true),
      λ clean. search_back (state g.S.Store c.args.tx.now.conn.now) _ _ c.args.list.now.issuer (scope_number c.args.list.now.scope) c.args.serial.now c.loop-low.low c.loop-low.high middle c.in_ok-beside.beside (l.3 (omega (arith, clean, c.stands_at.ensures.survives.clean))) (c.in_ok-beside.ensures.finds clean) c.in-Nothing.is,
    )

pub loop-low-preserved-in-Below : goal.loop-low-preserved-in-Below
loop-low-preserved-in-Below g c =
    let l = c.loop-low.invariant in
    let middle = c.loop-low.low + (c.loop-low.high - c.loop-low.low) / 2 in (
      c.stands_at.ensures.same_reference ∙ l.0,
      survives_then _ _ _ (λ _. ⊥) (λ _. ⊥) (λ _. ⊥) (λ _ _ none. none) (λ _ _ none. none) l.1 c.stands_at.ensures.survives,
      omega (arith, l.2, c.loop-low-test.true),
      λ clean. search_up (state g.S.Store c.args.tx.now.conn.now) _ _ c.args.list.now.issuer (scope_number c.args.list.now.scope) c.args.serial.now c.loop-low.low c.loop-low.high middle c.in_ok-beside.beside (l.3 (omega (arith, clean, c.stands_at.ensures.survives.clean))) (c.in_ok-beside.ensures.finds clean) c.in-Below.is,
    )

pub loop-low-preserved : goal.loop-low-preserved
loop-low-preserved g c =
    let l = c.loop-low.invariant in
    let middle = c.loop-low.low + (c.loop-low.high - c.loop-low.low) / 2 in (
      c.stands_at.ensures.same_reference ∙ l.0,
      survives_then _ _ _ (λ _. ⊥) (λ _. ⊥) (λ _. ⊥) (λ _ _ none. none) (λ _ _ none. none) l.1 c.stands_at.ensures.survives,
      omega (arith, l.2, c.loop-low-test.true),
      λ clean. search_down (state g.S.Store c.args.tx.now.conn.now) _ _ c.args.list.now.issuer (scope_number c.args.list.now.scope) c.args.serial.now c.loop-low.low c.loop-low.high middle c.in_ok-beside.beside (l.3 (omega (arith, clean, c.stands_at.ensures.survives.clean))) (c.in_ok-beside.ensures.finds clean) c.in-Above.is,
    )

pub returns-in-Same-clause-finds : goal.returns-in-Same-clause-finds
returns-in-Same-clause-finds g c clean =
    let l = c.loop-low.invariant in
    let middle = c.loop-low.low + (c.loop-low.high - c.loop-low.low) / 2 in
    search_ends (state g.S.Store c.args.tx.now.conn.now) _ _ c.args.list.now.issuer (scope_number c.args.list.now.scope) c.args.serial.now c.loop-low.low c.loop-low.high middle c.in_ok-beside.beside (l.3 (omega (arith, clean, c.stands_at.ensures.survives.clean))) (c.in_ok-beside.ensures.finds clean) c.in-Same.reason c.in-Same.is

pub returns-in_err-beside-clause-finds : goal.returns-in_err-beside-clause-finds
returns-in_err-beside-clause-finds g c clean =
    let p = err_from_is_err_and c.from_residual.result c.from_residual.ensures.1 in
    rw (p.1, p.2) (search_fails (state g.S.Store c.args.tx.now.conn.now) _ _ c.args.list.now.issuer (scope_number c.args.list.now.scope) c.args.serial.now c.loop-low.low c.loop-low.high _ (c.loop-low.invariant.3 (omega (arith, clean, c.stands_at.ensures.survives.clean))) (c.in_err-beside.ensures.finds clean))

pub returns-in_err-beside-clause-caused : goal.returns-in_err-beside-clause-caused
returns-in_err-beside-clause-caused g c clean =
    let p = err_from_is_err_and c.from_residual.result c.from_residual.ensures.1 in
    let l = c.loop-low.invariant in
    let before : HasCleanDisk (state g.S.Store c.loop-low.tx.conn.now) = omega (arith, clean, c.stands_at.ensures.survives.clean) in
    rw (p.1, p.2) (λ e origin it held form.
    let was = ((l.3 before).rows origin it held form).0 in
    later_refuses _ _ _ (λ _. ⊥) (λ _. ⊥) l.1 c.stands_at.ensures.survives before (c.in_err-beside.ensures.caused clean e origin it (still_holds _ _ origin it was held) form))

pub returns-clause-finds : goal.returns-clause-finds
returns-clause-finds g c clean =
    search_closes (state g.S.Store c.args.tx.now.conn.now) _ c.args.list.now.issuer (scope_number c.args.list.now.scope) c.args.serial.now c.loop-low.low c.loop-low.high (c.loop-low.invariant.3 clean) (omega (arith, c.loop-low-test.false))
