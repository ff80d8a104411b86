use Rattle.std.proofs.Common.{arith, subst, sym, ap, ◌∙◌}
use Rattle.sqlite.specs.Held.{state}
use Rattle.sqlite.specs.State.{HasCleanDisk}
use Rattle.sqlite.specs.Values.{bound}
use Rattle.sqlite.proofs.StateLemmas.{survives_then}
use Rattle.statements_facts.specs.Listed.{IsAscending}
use Rattle.store_rows.specs.Contents.{scope_number}
use Rattle.store_rows.specs.Room.{EntriesFit}
use Rattle.store_rows.proofs.Entries.{scope_low}
use Rattle.store_rows.proofs.Refills.{emptied_first, one_more, one_more_byte, one_more_group, group_bytes, all_written, not_one_more, not_one_more_group}
use Rattle.store_rows.proofs.Refused.{as_refused, entries_not_deleted}
use Rattle.store_rows.proofs.refill.replace_entries.Goals as goal

pub returns-in_err-empty-clause-caused : goal.returns-in_err-empty-clause-caused
returns-in_err-empty-clause-caused g c clean =
    let first : HasCleanDisk (state g.S.Store c.args.tx.now.conn.now) = omega (arith, clean, c.empty.ensures.survives.clean) in
    as_refused c.from_residual.result _ _ c.from_residual.ensures.1 (λ e origin it held form fit.
    entries_not_deleted origin _ _ it held c.args.list.now.issuer (scope_number c.args.list.now.scope) _ (c.in_err-empty.ensures.runs clean (c.requires.inside first)) e)

pub groups-init : goal.groups-init
groups-init g c = (
  c.empty.ensures.same_reference,
  c.empty.ensures.survives,
  omega arith,
  omega (arith, c.if-all-gt-ROOM.false),
  tt,
  λ clean.
      let first : HasCleanDisk (state g.S.Store c.args.tx.now.conn.now) = omega (arith, clean, c.empty.ensures.survives.clean) in
      emptied_first _ _ c.args.list.now.issuer (scope_number c.args.list.now.scope) c.in_ok-empty.field-0 (scope_low c.args.list.now.scope) (c.in_ok-empty.ensures.runs clean (c.requires.inside first)),
)

pub overflow_sub-all : goal.overflow_sub-all
overflow_sub-all g c = c.groups.invariant.2

pub groups-smaller : goal.groups-smaller
groups-smaller g c = omega (arith, c.groups-test.true)

pub groups-preserved : goal.groups-preserved
groups-preserved g c =
    let l = c.groups.invariant in (
      c.insert_entries.ensures.same_reference ∙ l.0,
      survives_then _ _ _ (λ _. ⊥) (λ _. ⊥) (λ _. ⊥) (λ _ _ none. none) (λ _ _ none. none) l.1 c.insert_entries.ensures.survives,
      omega (arith, c.groups-test.true),
      l.3,
      group_bytes c.as_slice-all.result.now c.groups.index l.4 c.in_ok-fill_columns.ensures.bytes,
      λ clean.
          let so = l.5 (omega (arith, clean, c.insert_entries.ensures.survives.clean)) in
          one_more_group _ _ _ c.args.list.now.issuer (scope_number c.args.list.now.scope) c.groups.index c.as_slice-all.result.now (omega (arith, c.groups-test.true)) l.3
          (subst IsAscending (sym c.as_slice-all.ensures.entries) c.as_slice-all.ensures.ascend) c.requires.issuer (scope_low c.args.list.now.scope) so c.in_ok-insert_entries.field-0
          (rw (ap bound c.deref.ensures.value ∙ c.in_ok-fill_columns.ensures.columns) at (c.in_ok-insert_entries.ensures.runs clean so.mode)),
    )

pub returns-in_err-insert_entries-clause-caused : goal.returns-in_err-insert_entries-clause-caused
returns-in_err-insert_entries-clause-caused g c clean =
    let l = c.groups.invariant in
    let middle : HasCleanDisk (state g.S.Store c.groups.tx.conn.now) = omega (arith, clean, c.insert_entries.ensures.survives.clean) in
    let so = l.5 middle in
    as_refused c.from_residual-in_err-insert_entries.result _ _ c.from_residual-in_err-insert_entries.ensures.1 (λ e origin it held form fit.
    not_one_more_group _ _ _ c.args.list.now.issuer (scope_number c.args.list.now.scope) c.groups.index c.as_slice-all.result.now (omega (arith, c.groups-test.true)) l.3
    (subst IsAscending (sym c.as_slice-all.ensures.entries) c.as_slice-all.ensures.ascend) c.requires.issuer (scope_low c.args.list.now.scope) so l.1 c.insert_entries.ensures.survives middle _
    (rw (ap bound c.deref.ensures.value ∙ c.in_ok-fill_columns.ensures.columns) at (c.in_err-insert_entries.ensures.runs clean so.mode))
    e origin it held form (subst EntriesFit (sym c.as_slice-all.ensures.entries) fit))

pub rest-init : goal.rest-init
rest-init g c = c.groups.invariant

pub rest-preserved : goal.rest-preserved
rest-preserved g c =
    let l = c.rest.invariant in (
      c.add.ensures.same_reference ∙ l.0,
      survives_then _ _ _ (λ _. ⊥) (λ _. ⊥) (λ _. ⊥) (λ _ _ none. none) (λ _ _ none. none) l.1 c.add.ensures.survives,
      omega (arith, c.rest-test.true),
      l.3,
      one_more_byte c.as_slice-all.result.now c.rest.index _ c.rest-test.true l.4 c.add.ensures.byte,
      λ clean.
          let so = l.5 (omega (arith, clean, c.add.ensures.survives.clean)) in
          one_more _ _ _ c.args.list.now.issuer (scope_number c.args.list.now.scope) c.rest.index c.in_ok-add.field-0 c.as_slice-all.result.now _
          c.rest-test.true l.3 (subst IsAscending (sym c.as_slice-all.ensures.entries) c.as_slice-all.ensures.ascend) c.requires.issuer (scope_low c.args.list.now.scope) so
          (c.in_ok-add.ensures.runs clean so.mode),
    )

pub returns-in_err-add-clause-caused : goal.returns-in_err-add-clause-caused
returns-in_err-add-clause-caused g c clean =
    let l = c.rest.invariant in
    let middle : HasCleanDisk (state g.S.Store c.rest.tx.conn.now) = omega (arith, clean, c.add.ensures.survives.clean) in
    let so = l.5 middle in
    as_refused c.from_residual-in_err-add.result _ _ c.from_residual-in_err-add.ensures.1 (λ e origin it held form fit.
    not_one_more _ _ _ c.args.list.now.issuer (scope_number c.args.list.now.scope) c.rest.index c.as_slice-all.result.now _
    c.rest-test.true l.3 (subst IsAscending (sym c.as_slice-all.ensures.entries) c.as_slice-all.ensures.ascend) c.requires.issuer (scope_low c.args.list.now.scope) so l.1 c.add.ensures.survives middle
    _ (c.in_err-add.ensures.runs clean so.mode) e origin it held form (subst EntriesFit (sym c.as_slice-all.ensures.entries) fit))

pub returns-clause-formed : goal.returns-clause-formed
returns-clause-formed g c =
    rw c.as_slice-all.ensures.entries at (all_written c.as_slice-all.result.now c.rest.index (omega (arith, c.rest-test.false, c.rest.invariant.2)) c.rest.invariant.3 (subst IsAscending (sym c.as_slice-all.ensures.entries) c.as_slice-all.ensures.ascend) c.rest.invariant.4)
