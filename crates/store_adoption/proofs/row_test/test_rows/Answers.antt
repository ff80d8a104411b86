use Rattle.std.proofs.Common.{◌≡◌, ◌++◌, ◌∷◌, [], Err, Some, None, rules, refl, sym, ap, subst, ◌∙◌, inl, inr, arith, length-append}
use Rattle.std.specs.Option.{option_copied}
use Rattle.std.proofs.lemmas.Result.{err_from_is_err_and}
use Rattle.sqlite.specs.Held.{state}
use Rattle.sqlite.specs.State.{HasCleanDisk, Survives, FailsToQuery, CommitsShowing}
use Rattle.sqlite.specs.Given.{Advances, row_if}
use Rattle.sqlite.proofs.StateLemmas.{survives_then}
use Rattle.sqlite.proofs.InsideLemmas.{unchanged_keeps, keeps_then}
use Rattle.sqlite.proofs.Callers.{begun_plain, given_begin, unchanged_then}
use Rattle.store_sql.specs.declared.fault.StoreFault.TheVariants.{Store}
use Rattle.store_sql.specs.Fault.{fault_from}
use Rattle.sqlite.specs.Effect.{Database}
use Rattle.sqlite.specs.Listing.{understood}
use Rattle.store_sql.proofs.Laws.{later_refuses}
use Rattle.store_adoption.specs.Tests.{AllPass, IsTableQuery, IsStopped, TestFails}
use Rattle.store_sql.specs.declared.fault.StoreFault.{StoreFault}
use Rattle.store_adoption.proofs.Testing.{asked_caused, advance_keeps, all_pass, gave_up, not_schema, query_keeps, refused, shows_nothing}
use Rattle.store_adoption.proofs.row_test.test_rows.Goals as goal

pub returns-in_err-rows-clause-tests : goal.returns-in_err-rows-clause-tests
returns-in_err-rows-clause-tests g c clean =
    let p = err_from_is_err_and c.from_residual.result c.from_residual.ensures.1 in
    let old = state g.S.Store c.args.conn.now in
    let new = state g.S.Store c.query.follows.lender-at-none in
    let held = c.query.follows.holds-at-none in
    let failed : FailsToQuery c.args.sql.now [] old new c.in_err-rows.field-0.0 = search rules in
    rw (p.1, p.2) (gave_up c.args.sql.now old new (g.T.RowTest.are_formed c.args.test.now) _ (not_schema c.in_err-rows.field-0.0) (query_keeps old new c.args.sql.now [] c.in_err-rows.field-0.0 failed))

pub returns-in_err-rows-clause-survives : goal.returns-in_err-rows-clause-survives
returns-in_err-rows-clause-survives g c =
    let old = state g.S.Store c.args.conn.now in
    let new = state g.S.Store c.query.follows.lender-at-none in
    let held = c.query.follows.holds-at-none in
    let kept : Survives old new (CommitsShowing c.args.sql.now [] old) = search rules in
    shows_nothing c.args.sql.now old new c.requires.plain kept

pub returns-in_err-advance-clause-tests : goal.returns-in_err-advance-clause-tests
returns-in_err-advance-clause-tests g c =
    let p = err_from_is_err_and c.from_residual-in_err-advance.result c.from_residual-in_err-advance.ensures.1 in
    let old = state g.S.Store c.args.conn.now in
    let mid = state g.S.Store c.each.rows.conn.now in
    let new = state g.S.Store c.advance.new.self.conn.now in
    let same : c.advance.new.self.conn.now ≡ c.conn-in_err-advance-1.given.0 = search rules in
    let step = c.advance.ensures.survives.clean in
    rw (p.1, p.2) (subst (λ h. HasCleanDisk (state g.S.Store h) → TestFails old (state g.S.Store h) c.args.sql.now (g.T.RowTest.are_formed c.args.test.now) (fault_from c.in_err-advance.field-0.0)) same
    (λ clean. gave_up c.args.sql.now old new (g.T.RowTest.are_formed c.args.test.now) _ (not_schema c.in_err-advance.field-0.0)
    (keeps_then old mid new (unchanged_keeps old mid (inl (c.each.invariant.3 (omega (arith, step, clean))).2)) (advance_keeps mid new c.in_err-advance.field-0.0 (c.in_err-advance.ensures.kept clean)))))

pub returns-in_err-advance-clause-survives : goal.returns-in_err-advance-clause-survives
returns-in_err-advance-clause-survives g c =
    let old = state g.S.Store c.args.conn.now in
    let mid = state g.S.Store c.each.rows.conn.now in
    let new = state g.S.Store c.advance.new.self.conn.now in
    let same : c.advance.new.self.conn.now ≡ c.conn-in_err-advance-1.given.0 = search rules in
    subst (λ h. Survives old (state g.S.Store h) (λ _. ⊥)) same (survives_then old mid new (λ _. ⊥) (λ _. ⊥) (λ _. ⊥) (λ _ db none. none) (λ _ db none. none) c.each.invariant.2 c.advance.ensures.survives)

pub returns-in_default-clause-tests : goal.returns-in_default-clause-tests
returns-in_default-clause-tests g c =
    let old = state g.S.Store c.args.conn.now in
    let mid = state g.S.Store c.each.rows.conn.now in
    let new = state g.S.Store c.advance.new.self.conn.now in
    let same : c.advance.new.self.conn.now ≡ c.conn-in_default-1.given.0 = search rules in
    let step = c.advance.ensures.survives.clean in
    let before = c.each.invariant.2.clean in
    let ended : row_if c.advance.new.self.has_row c.advance.new.self.conn.now ≡ None = sym c.get.ensures ∙ ap option_copied c.in_default.is in
    subst (λ h. HasCleanDisk (state g.S.Store h) → AllPass old (state g.S.Store h) c.args.sql.now (g.T.RowTest.passed c.each.test)) same
    (λ clean.
    let was = c.each.invariant.3 (omega (arith, step, clean)) in
    let moves = subst (λ r. Advances g.S.Store c.each.rows.conn.now c.advance.new.self.conn.now r) ended (c.in_ok-advance.ensures.ok clean) in
    all_pass c.args.sql.now old mid new was.0 (g.T.RowTest.passed c.each.test) (c.requires.plain (omega (arith, before, step, clean))) was.2 (c.in_ok-advance.ensures.same clean) (moves c.args.sql.now [] was.0 was.1) was.3)

pub returns-in_err-take-clause-tests : goal.returns-in_err-take-clause-tests
returns-in_err-take-clause-tests g c =
    let p = err_from_is_err_and c.from_residual-in_err-take.result c.from_residual-in_err-take.ensures.1 in
    let old = state g.S.Store c.args.conn.now in
    let mid = state g.S.Store c.each.rows.conn.now in
    let new = state g.S.Store c.advance.new.self.conn.now in
    let same : c.advance.new.self.conn.now ≡ c.conn-in_err-take-1.given.0 = search rules in
    let step = c.advance.ensures.survives.clean in
    let given : row_if c.advance.new.self.has_row c.advance.new.self.conn.now ≡ Some c.in-Some.row.now = sym c.get.ensures ∙ ap option_copied c.in-Some.is in
    rw (p.1, p.2) (subst (λ h. HasCleanDisk (state g.S.Store h) → TestFails old (state g.S.Store h) c.args.sql.now (g.T.RowTest.are_formed c.args.test.now) c.in_err-take.field-0.0) same
    (λ clean.
    let was = c.each.invariant.3 (omega (arith, step, clean)) in
    let moves = subst (λ r. Advances g.S.Store c.each.rows.conn.now c.advance.new.self.conn.now r) given (c.in_ok-advance.ensures.ok clean) in
    refused c.args.sql.now old new was.0 c.in-Some.row.now (g.T.RowTest.are_formed c.args.test.now) c.in_err-take.field-0.0 (unchanged_then old mid new was.2 (c.in_ok-advance.ensures.same clean))
    (given_begin g.S.Store c.args.sql.now [] c.advance.new.self.conn.now (was.0 ++ c.in-Some.row.now ∷ []) (moves c.args.sql.now [] was.0 was.1))
    (λ ours later formed. c.in_err-take.ensures.refused (ap Err ours) was.0 later was.3 ((c.each.invariant.4 (was.0 ++ c.in-Some.row.now ∷ later)).0 formed))))

pub each-preserved : goal.each-preserved
each-preserved g c =
    let old = state g.S.Store c.args.conn.now in
    let mid = state g.S.Store c.each.rows.conn.now in
    let new = state g.S.Store c.advance.new.self.conn.now in
    let step = c.advance.ensures.survives.clean in
    let given : row_if c.advance.new.self.has_row c.advance.new.self.conn.now ≡ Some c.in-Some.row.now = sym c.get.ensures ∙ ap option_copied c.in-Some.is in (
      c.advance.ensures.same_reference ∙ c.each.invariant.0,
      c.advance.ensures.mode c.each.invariant.1,
      survives_then old mid new (λ _. ⊥) (λ _. ⊥) (λ _. ⊥) (λ _ db none. none) (λ _ db none. none) c.each.invariant.2 c.advance.ensures.survives,
      λ clean.
          let was = c.each.invariant.3 (omega (arith, step, clean)) in
          let moves = subst (λ r. Advances g.S.Store c.each.rows.conn.now c.advance.new.self.conn.now r) given (c.in_ok-advance.ensures.ok clean) in
          (was.0 ++ c.in-Some.row.now ∷ [], moves c.args.sql.now [] was.0 was.1, unchanged_then old mid new was.2 (c.in_ok-advance.ensures.same clean), c.in_ok-take.ensures.passed was.0 was.3, omega (arith, was.4, length-append was.0 (c.in-Some.row.now ∷ []))),
      λ rows. (λ formed. (c.in_ok-take.ensures.same rows).0 ((c.each.invariant.4 rows).0 formed), λ formed. (c.each.invariant.4 rows).1 ((c.in_ok-take.ensures.same rows).1 formed)),
    )

pub returns-clause-tests : goal.returns-clause-tests
returns-clause-tests g c =
    let old = state g.S.Store c.args.conn.now in
    let mid = state g.S.Store c.each.rows.conn.now in
    let same : c.each.rows.conn.now ≡ c.conn-2-1.given.0 = search rules in
    subst (λ h. HasCleanDisk (state g.S.Store h) → TestFails old (state g.S.Store h) c.args.sql.now (g.T.RowTest.are_formed c.args.test.now) Store) same
    (λ clean. gave_up c.args.sql.now old mid (g.T.RowTest.are_formed c.args.test.now) Store (λ ours. absurd (let no : Store ≡ StoreFault.Schema = ours in cc)) (unchanged_keeps old mid (inl (c.each.invariant.3 clean).2)))

pub each-init : goal.each-init
each-init g c =
    let made = c.in_ok-rows.ensures in
    let begun = λ (clean : HasCleanDisk (state g.S.Store c.in_ok-rows.rows.conn.now)). begun_plain g.S.Store c.args.sql.now [] c.args.conn.now c.in_ok-rows.rows.conn.now (c.requires.plain (let s = made.survives.clean in omega (arith, s, clean))) (made.begun clean) in
    (refl, made.mode c.requires.idle, shows_nothing c.args.sql.now _ _ c.requires.plain made.survives, λ clean. ([], (begun clean).0, (begun clean).1, c.requires.start, refl), λ rows. (λ h. h, λ h. h))

pub returns-in_err-rows-clause-caused : goal.returns-in_err-rows-clause-caused
returns-in_err-rows-clause-caused g c clean answered =
    let p = err_from_is_err_and c.from_residual.result c.from_residual.ensures.1 in
    let old = state g.S.Store c.args.conn.now in
    let new = state g.S.Store c.query.follows.lender-at-none in
    let held = c.query.follows.holds-at-none in
    let failed : FailsToQuery c.args.sql.now [] old new c.in_err-rows.field-0.0 = search rules in
    rw (p.1, p.2) (λ e. inl (asked_caused old new c.args.sql.now c.in_err-rows.field-0.0 answered failed e))

pub returns-in_err-advance-clause-caused : goal.returns-in_err-advance-clause-caused
returns-in_err-advance-clause-caused g c =
    let p = err_from_is_err_and c.from_residual-in_err-advance.result c.from_residual-in_err-advance.ensures.1 in
    let old = state g.S.Store c.args.conn.now in
    let mid = state g.S.Store c.each.rows.conn.now in
    let new = state g.S.Store c.advance.new.self.conn.now in
    let same : c.advance.new.self.conn.now ≡ c.conn-in_err-advance-1.given.0 = search rules in
    let step = c.advance.ensures.survives.clean in
    rw (p.1, p.2) (subst (λ h. HasCleanDisk (state g.S.Store h) → IsTableQuery old.now.schema c.args.sql.now (understood old.now.schema c.args.sql.now) → fault_from c.in_err-advance.field-0.0 ≡ Store → IsStopped old (state g.S.Store h) c.args.sql.now) same
    (λ clean answered e.
    let before : HasCleanDisk mid = omega (arith, step, clean) in
    let was = c.each.invariant.3 before in
    let failed = c.in_err-advance.ensures.err clean c.args.sql.now [] was.0 was.1 in
    let still = subst (λ (d : Database). IsTableQuery d.schema c.args.sql.now (understood d.schema c.args.sql.now)) (sym was.2.0.now_is) answered in
    inl (later_refuses old mid new (λ _. ⊥) (λ _. ⊥) c.each.invariant.2 c.advance.ensures.survives before
    (asked_caused mid new c.args.sql.now c.in_err-advance.field-0.0 still failed e))))

pub returns-clause-caused : goal.returns-clause-caused
returns-clause-caused g c =
    let old = state g.S.Store c.args.conn.now in
    let mid = state g.S.Store c.each.rows.conn.now in
    let same : c.each.rows.conn.now ≡ c.conn-2-1.given.0 = search rules in
    subst (λ h. HasCleanDisk (state g.S.Store h) → IsTableQuery old.now.schema c.args.sql.now (understood old.now.schema c.args.sql.now) → Store ≡ Store → IsStopped old (state g.S.Store h) c.args.sql.now) same
    (λ clean answered e. let was = c.each.invariant.3 clean in
    inr (was.2, was.0, given_begin g.S.Store c.args.sql.now [] c.each.rows.conn.now was.0 was.1, omega (arith, was.4, c.each-test.false)))
