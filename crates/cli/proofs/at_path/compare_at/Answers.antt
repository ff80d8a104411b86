use Rattle.std.proofs.Common.{inl, inr}
use Rattle.std.proofs.lemmas.Result.{err_from_is_err_and}
use Rattle.sqlite.specs.Files.{file_state}
use Rattle.cli_store.specs.Standing.{seen_in}
use Rattle.cli.proofs.Lasting.{leaves_the_same}
use Rattle.cli.proofs.at_path.compare_at.Goals as goal

pub returns-in_err-store : goal.returns-in_err-store
returns-in_err-store g c =
    let p = err_from_is_err_and c.from_residual.result c.from_residual.ensures.1 in
    rw (p.1, p.2) (inl c.in_err-store.ensures.fails)

pub returns-in-Err : goal.returns-in-Err
returns-in-Err g c =
    inr (inl (
      seen_in c.in_ok-store.store,
      c.in_ok-store.ensures.found,
      (
        c.close_store.ensures.leaves,
        λ intact held is. c.close_store.ensures.lasts _ (λ clean.
            leaves_the_same (file_state c.in_ok-store.store.conn)
            (record { opened = c.in_ok-store.ensures.open; settled = c.in_ok-store.ensures.settled; durable = c.in_ok-store.ensures.durable }) clean held is),
      ),
      c.in-Err.ensures.fails,
    ))

pub returns-in-Ok : goal.returns-in-Ok
returns-in-Ok g c = c.compare_in.ensures c.in_ok-store.ensures.found c.in-Ok.ensures.found
