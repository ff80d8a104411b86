use Rattle.std.proofs.Common.{sym, subst, arith}
use Rattle.std.proofs.lemmas.Result.{err_from_is_err_and}
use Rattle.sqlite.specs.Files.{file_state}
use Rattle.sqlite.specs.State.{HasCleanDisk}
use Rattle.store.specs.Adopts.{IsNoStore}
use Rattle.store.proofs.paths.Store+FileFrom+S.open_from.Goals as goal

pub returns-in_err-adopt_under-clause-fails : goal.returns-in_err-adopt_under-clause-fails
returns-in_err-adopt_under-clause-fails g c =
    let p = err_from_is_err_and c.from_residual-in_err-adopt_under.result c.from_residual-in_err-adopt_under.ensures.1 in
    rw (p.1, p.2) (λ clean up schema.
    let h = c.in_err-adopt_under.ensures.refused clean in
    subst (IsNoStore c.args.profile) (sym (h.0.now_is up)) (h.1 schema))

pub returns-in_err-conn-clause-caused : goal.returns-in_err-conn-clause-caused
returns-in_err-conn-clause-caused g c =
    let p = err_from_is_err_and c.from_residual.result c.from_residual.ensures.1 in
    rw (p.1, p.2) tt

pub returns-in_err-adopt_under-clause-caused : goal.returns-in_err-adopt_under-clause-caused
returns-in_err-adopt_under-clause-caused g c =
    let p = err_from_is_err_and c.from_residual-in_err-adopt_under.result c.from_residual-in_err-adopt_under.ensures.1 in
    rw (p.1, p.2) (λ clean.
    let before : HasCleanDisk (file_state c.in_ok-conn.conn) = let step = c.in_err-adopt_under.ensures.refused_crash.clean in omega (arith, step, clean) in
    record { conn = c.in_ok-conn.conn; found = c.in_ok-conn.ensures.found before; opened = c.in_ok-conn.ensures.opened before; unlimited = c.in_ok-conn.ensures.fresh.unlimited; stays = (c.in_err-adopt_under.ensures.refused clean).0; neither = (c.in_err-adopt_under.ensures.refused clean).1; caused = c.in_err-adopt_under.ensures.caused clean })

pub returns-clause-found : goal.returns-clause-found
returns-clause-found g c clean =
    let done = c.in_ok-adopt_under.ensures in
    let before : HasCleanDisk (file_state c.in_ok-conn.conn) = let step = done.crash.clean in omega (arith, step, clean) in
    record {
      conn = c.in_ok-conn.conn;
      found = c.in_ok-conn.ensures.found before;
      opened = c.in_ok-conn.ensures.opened before;
      was = done.was;
      unchanged = done.unchanged;
      migrated = done.migrated;
    }
